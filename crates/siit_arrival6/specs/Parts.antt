-- A packet with its walk as the definitions have them, parts of the groups of rules, and how an address was found.
use Rattle.std.specs.Prelude.{◌∷◌, [], ℕ, List, Option, Some, None, Result, Ok, Err}
use Rattle.siit_addr.specs.declared.addr.Addr4.{Addr4}
use Rattle.siit_model.specs.Ipv6.{ipv6_fields}
use Rattle.siit_map.specs.declared.mapping.Means.{Means}
use Rattle.siit_map.specs.declared.mapping.MapRefusal.{MapRefusal}
use Rattle.siit_rules.specs.declared.rule.Rule.TheVariants.{IcmpType6, IcmpCode6, IcmpPointer6}
use Rattle.siit_upper.specs.Walks.{walked}
use Rattle.siit_upper.specs.declared.walk.Walk.{Walk}
use Rattle.siit_device.specs.Arrival6.{Arrived, is_icmp_refused6, is_pointer_refused6}
use Rattle.siit_device.specs.Rows.{Row, row}

-- the packet in some bytes, and the walk over its extension headers
abbrev pub found_in : List ℕ → Walk → Arrived
found_in bytes walk = record { packet = ipv6_fields bytes; walked = walked walk }

-- ICMPv6
unfoldable pub icmp_rows6 : List (Row Arrived)
icmp_rows6 =
    row IcmpType6 (is_icmp_refused6 IcmpType6)
    ∷ row IcmpCode6 (is_icmp_refused6 IcmpCode6)
    ∷ row IcmpPointer6 is_pointer_refused6
    ∷ []

-- how an address was found
abbrev pub means_found : Result (Addr4 × Means) MapRefusal → Option Means
means_found (Ok found) = Some found.1
means_found (Err refusal) = None

-- the address found, or none
abbrev pub address_found : Result (Addr4 × Means) MapRefusal → Option Addr4
address_found (Ok found) = Some found.0
address_found (Err refusal) = None
