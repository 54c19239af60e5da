-- Parts of the groups of rules, for the functions that look at them, and how an address was found.
use Rattle.std.specs.Prelude.{◌∷◌, [], List, Option, Some, None, Result, Ok, Err}
use Rattle.siit_model.specs.Ipv4.{Ipv4Packet}
use Rattle.siit_addr.specs.declared.addr.Addr6.{Addr6}
use Rattle.siit_map.specs.declared.mapping.Means.{Means}
use Rattle.siit_map.specs.declared.mapping.MapRefusal.{MapRefusal}
use Rattle.siit_rules.specs.declared.rule.Rule.TheVariants.{UdpZeroFragment4, UdpZero4, UdpLength4, IcmpType4, IcmpCode4, IcmpPointer4}
use Rattle.siit_roles.specs.declared.settings.Settings.{Settings}
use Rattle.siit_device.specs.Arrival4.{is_bare_fragment4, is_bare_dropped4, is_bare_mislength4, is_icmp_refused4, is_pointer_refused4}
use Rattle.siit_device.specs.Rows.{Row, row}

-- UDP without checksum
unfoldable pub udp_rows4 : Settings → List (Row Ipv4Packet)
udp_rows4 settings =
    row UdpZeroFragment4 is_bare_fragment4
    ∷ row UdpZero4 (is_bare_dropped4 settings)
    ∷ row UdpLength4 is_bare_mislength4
    ∷ []

-- ICMP
unfoldable pub icmp_rows4 : List (Row Ipv4Packet)
icmp_rows4 =
    row IcmpType4 (is_icmp_refused4 IcmpType4)
    ∷ row IcmpCode4 (is_icmp_refused4 IcmpCode4)
    ∷ row IcmpPointer4 is_pointer_refused4
    ∷ []

-- how an address was found
abbrev pub means_found : Result (Addr6 × Means) MapRefusal → Option Means
means_found (Ok found) = Some found.1
means_found (Err refusal) = None
