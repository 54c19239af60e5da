-- Settings that are a pair's and such as aren't, and a datagram on its way through, as worked by hand.
use Rattle.std.specs.Prelude.{◌≡◌, ℕ, ◌*◌, ◌^◌, ◌+◌, List, [], ◌∷◌, false}
use Rattle.std.specs.List.{flat_map}
use Rattle.std.proofs.Common.{lit≤}
use Rattle.siit_model.specs.Bytes.{bytes32}
use Rattle.siit_model.specs.Ipv4.{ipv4_bytes, ipv4_fields}
use Rattle.siit_addr.specs.Addresses.{dotted}
use Rattle.siit_addr.specs.declared.addr.Prefix6.{Prefix6}
use Rattle.siit_eamt.specs.declared.entry.Eam.{Eam as Entry}
use Rattle.siit_map.specs.Mapping.{table}
use Rattle.siit_rules.specs.declared.rule.Family.{Family}
use Rattle.siit_rules.specs.declared.rule.Family.TheVariants.{Four, Six}
use Rattle.siit_roles.specs.Chain.{Chain}
use Rattle.siit_roles.specs.declared.role.Role.{Role}
use Rattle.siit_roles.specs.declared.role.Role.TheVariants.{Border, Edge}
use Rattle.siit_roles.specs.declared.settings.Settings.{Settings}
use Rattle.siit_pair.specs.Across.{across, between}
use Rattle.siit_pair.specs.Pairs.{IsPair}

-- an entry of one IPv4 and one IPv6 address, and a prefix of 96 bits
abbrev single : (a x : ℕ) → Entry
single a x = record {
  p4 = record { addr = record { 0 = a }; len = 32; in_range = lit≤ tt };
  p6 = record { addr = record { 0 = x }; len = 128; in_range = lit≤ tt };
}

abbrev prefix96 : ℕ → Prefix6
prefix96 x = record { addr = record { 0 = x }; len = 96; in_range = lit≤ tt }

-- 192.0.2.1 is 2001:db8:6464::1, and 192.0.2.2 is 2001:db8:6464::2
abbrev one : Entry
one = single (dotted 192 0 2 1) (0x20010db864640000 * 2 ^ 64 + 1)

abbrev two : Entry
two = single (dotted 192 0 2 2) (0x20010db864640000 * 2 ^ 64 + 2)

abbrev device : Role → List Entry → (prefix : ℕ) → Settings
device role entries prefix = record {
  role = role;
  mapping = table entries (prefix96 prefix);
  address4 = record { 0 = 0 };
  address6 = record { 0 = 0 };
  pool4 = record { 0 = 0 } ∷ [];
  mtu4 = 1500;
  mtu6 = 1500;
  lowest = 1280;
  tos_zero = false;
  udp_compute = false;
  hairpin = false;
}

abbrev well_known : ℕ
well_known = 0x64ff9b * 2 ^ 96

abbrev pub border : Settings
border = device Border (one ∷ two ∷ []) well_known

abbrev pub edge : Settings
edge = device Edge (one ∷ two ∷ []) well_known

abbrev pub between_links : Family → List Settings → Chain
between_links left devices = record { left = left; devices = devices }

-- A border and then an edge between IPv4 links are a pair, and nothing else is: in another order, alone, behind a link
-- of IPv6, with the table in another order, or under another prefix.
pub record PairExamples : Type 0 where
  pub pair : IsPair (between_links Four (border ∷ edge ∷ []))
  pub swapped : IsPair (between_links Four (edge ∷ border ∷ [])) → ⊥
  pub alone : IsPair (between_links Four (border ∷ [])) → ⊥
  pub followed : IsPair (between_links Four (border ∷ edge ∷ edge ∷ [])) → ⊥
  pub six : IsPair (between_links Six (border ∷ edge ∷ [])) → ⊥
  pub other_order : IsPair (between_links Four (border ∷ device Edge (two ∷ one ∷ []) well_known ∷ [])) → ⊥
  pub other_prefix : IsPair (between_links Four (border ∷ device Edge (one ∷ two ∷ []) (0x20010db8 * 2 ^ 96) ∷ [])) → ⊥

abbrev words : List ℕ → List ℕ
words numbers = flat_map bytes32 numbers

-- TCP from 8.8.8.8 to 192.0.2.1, its checksum right: between both devices from 64:ff9b::808:808 to 2001:db8:6464::1
-- with the checksum that is right there, and behind them as it was, two hops on.
pub record AcrossExamples : Type 0 where
  pub source : (between border (ipv4_fields (words (0x45000028 ∷ 0x00014000 ∷ 0x400668be ∷ 0x08080808 ∷ 0xc0000201 ∷ 0xc0000050 ∷ 0x00000001 ∷ 0 ∷ 0x50022000 ∷ 0xfd7f0000 ∷ [])))).common.source
      ≡ well_known + dotted 8 8 8 8
  pub behind : ipv4_bytes (across border edge (ipv4_fields (words (0x45000028 ∷ 0x00014000 ∷ 0x400668be ∷ 0x08080808 ∷ 0xc0000201 ∷ 0xc0000050 ∷ 0x00000001 ∷ 0 ∷ 0x50022000 ∷ 0xfd7f0000 ∷ []))) 1)
      ≡ words (0x45000028 ∷ 0x00010000 ∷ 0x3e06aabe ∷ 0x08080808 ∷ 0xc0000201 ∷ 0xc0000050 ∷ 0x00000001 ∷ 0 ∷ 0x50022000 ∷ 0xfd7f0000 ∷ [])
