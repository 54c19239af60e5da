-- The configuration of `wkp`: one plain translator under the well-known prefix 64:ff9b::/96 (RFC 6052 section 2.1),
-- with IPv4 at the left and all else by default.
use Rattle.std.specs.Prelude.{[], ◌∷◌, false, true}
use Rattle.std.proofs.Common.{lit≤}
use Rattle.siit_addr.specs.Addresses.{dotted}
use Rattle.siit_addr.specs.declared.addr.Addr4.{Addr4}
use Rattle.siit_addr.specs.declared.addr.Addr6.{Addr6}
use Rattle.siit_addr.specs.declared.addr.Prefix6.{Prefix6}
use Rattle.siit_map.specs.Mapping.{table}
use Rattle.siit_rfc6052.specs.Embedding.{well_known}
use Rattle.siit_roles.specs.Chain.{Chain}
use Rattle.siit_roles.specs.declared.role.Role.TheVariants.{Plain}
use Rattle.siit_roles.specs.declared.settings.Settings.{Settings}
use Rattle.siit_rules.specs.declared.rule.Family.TheVariants.{Four}

abbrev pub well_known_prefix : Prefix6
well_known_prefix = record { addr = record { 0 = well_known }; len = 96; in_range = lit≤ tt }

-- 203.0.113.1
abbrev pub own_address4 : Addr4
own_address4 = record { 0 = dotted 203 0 113 1 }

-- 2001:db8:ffff::1
abbrev pub own_address6 : Addr6
own_address6 = record { 0 = 0x20010db8ffff00000000000000000001 }

abbrev pub well_known_device : Settings
well_known_device = record {
  role = Plain;
  mapping = table [] well_known_prefix;
  address4 = own_address4;
  address6 = own_address6;
  pool4 = own_address4 ∷ [];
  mtu4 = 1500;
  mtu6 = 1500;
  lowest = 1280;
  tos_zero = false;
  udp_compute = false;
  hairpin = true;
}

abbrev pub well_known_chain : Chain
well_known_chain = record { left = Four; devices = well_known_device ∷ [] }
