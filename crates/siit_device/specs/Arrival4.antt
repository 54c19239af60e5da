-- Where the rules on IPv4 arrival hold. Each condition speaks of packets for which no earlier rule holds.
use Rattle.std.specs.Prelude.{ℕ, ◌+◌, List, [], ◌∷◌, length, drop, Bool, not, ◌&&◌, ◌||◌, ◌==◌, nat_lt, if◌then◌else◌, is_none, is_err}
use Rattle.std.specs.List.{list_any}
use Rattle.std.specs.Result.{result_err}
use Rattle.siit_model.specs.Bytes.{field8, field16}
use Rattle.siit_model.specs.Fragments.{fragment4}
use Rattle.siit_model.specs.Ipv4.{Ipv4Packet, ipv4_fields, total_length4, is_whole4}
use Rattle.siit_rules.specs.declared.rule.Rule.{Rule}
use Rattle.siit_icmp.specs.Errors.{is_error_kind4}
use Rattle.siit_icmp.specs.Icmp.{icmp_to_6, pointer_to_6}
use Rattle.siit_map.specs.Mapping.{ipv6_for}
use Rattle.siit_roles.specs.Roles.{role_refusal4}
use Rattle.siit_roles.specs.declared.settings.Settings.{Settings}
use Rattle.siit_quoted.specs.Bodies.{part_of, length_octet4}
use Rattle.siit_quoted.specs.Refusals.{quote_refusal4}
use Rattle.siit_device.specs.Addresses.{is_no_host4, means_of}
use Rattle.siit_device.specs.Options.{has_route}
use Rattle.siit_device.specs.Rows.{is_by}
use Rattle.siit_device.specs.Shapes.{is_misshapen, is_upper_short}

-- THE HEADER

abbrev pub is_bad_source4 : Ipv4Packet → Bool
is_bad_source4 packet = is_no_host4 packet.source

abbrev pub is_bad_destination4 : Ipv4Packet → Bool
is_bad_destination4 packet = is_no_host4 packet.destination

abbrev pub is_misshapen4 : Ipv4Packet → Bool
is_misshapen4 packet = is_misshapen (fragment4 packet)

abbrev pub is_expired4 : Ipv4Packet → Bool
is_expired4 packet = nat_lt packet.ttl 2

abbrev pub is_routed4 : Ipv4Packet → Bool
is_routed4 packet = has_route packet.options

abbrev pub is_igmp : Ipv4Packet → Bool
is_igmp packet = packet.protocol == 2

-- a number that is an extension header of IPv6, or ICMPv6
abbrev pub has_clash4 : Ipv4Packet → Bool
has_clash4 packet = list_any (λ p. packet.protocol == p) (0 ∷ 43 ∷ 44 ∷ 58 ∷ 60 ∷ [])

-- THE UPPER PART

abbrev pub is_upper_short4 : Ipv4Packet → Bool
is_upper_short4 packet = is_upper_short 1 (fragment4 packet)

abbrev pub is_icmp_fragment4 : Ipv4Packet → Bool
is_icmp_fragment4 packet = (packet.protocol == 1) && not (is_whole4 packet)

-- UDP that begins here and has no checksum (RFC 768)
abbrev pub lacks_checksum4 : Ipv4Packet → Bool
lacks_checksum4 packet = (packet.protocol == 17) && (packet.offset == 0) && (field16 packet.payload 6 == 0)

abbrev pub is_bare_fragment4 : Ipv4Packet → Bool
is_bare_fragment4 packet = lacks_checksum4 packet && not (is_whole4 packet)

abbrev pub is_bare_dropped4 : Settings → Ipv4Packet → Bool
is_bare_dropped4 settings packet = lacks_checksum4 packet && not settings.udp_compute

abbrev pub is_bare_mislength4 : Ipv4Packet → Bool
is_bare_mislength4 packet = lacks_checksum4 packet && not (field16 packet.payload 4 == length packet.payload)

-- the type and code of an ICMP message have no row
abbrev pub is_icmp_refused4 : Rule → Ipv4Packet → Bool
is_icmp_refused4 rule packet =
    (packet.protocol == 1) && is_by rule (result_err (icmp_to_6 (field8 packet.payload 0) (field8 packet.payload 1)))

-- the pointer of a Parameter Problem stands at no field that IPv6 has
abbrev pub is_pointer_refused4 : Ipv4Packet → Bool
is_pointer_refused4 packet =
    (packet.protocol == 1) && (field8 packet.payload 0 == 12) && is_none (pointer_to_6 (field8 packet.payload 4))

-- THE ADDRESSES

abbrev pub is_role_refused4 : Settings → Rule → Ipv4Packet → Bool
is_role_refused4 settings rule packet =
    is_by rule (role_refusal4 settings.role (means_of (ipv6_for settings.mapping packet.source)) (means_of (ipv6_for settings.mapping packet.destination)))

abbrev pub is_source_refused4 : Settings → Ipv4Packet → Bool
is_source_refused4 settings packet = is_err (ipv6_for settings.mapping packet.source)

abbrev pub is_destination_refused4 : Settings → Ipv4Packet → Bool
is_destination_refused4 settings packet = is_err (ipv6_for settings.mapping packet.destination)

-- THE QUOTE

-- a whole ICMP error
abbrev pub is_error4 : Ipv4Packet → Bool
is_error4 packet = (packet.protocol == 1) && is_whole4 packet && is_error_kind4 (field8 packet.payload 0)

-- the part of an ICMP error that holds its quote
abbrev pub quoted_part4 : (message : List ℕ) → List ℕ
quoted_part4 message = part_of 4 (length_octet4 message) (drop 8 message)

abbrev pub is_quote_refused4 : Rule → Ipv4Packet → Bool
is_quote_refused4 rule packet = is_error4 packet && is_by rule (quote_refusal4 (quoted_part4 packet.payload))

abbrev pub is_quote_unmapped4 : Settings → Ipv4Packet → Bool
is_quote_unmapped4 settings packet =
    let quoted = ipv4_fields (quoted_part4 packet.payload) in
    is_error4 packet && (is_err (ipv6_for settings.mapping quoted.source) || is_err (ipv6_for settings.mapping quoted.destination))

-- THE SIZE

-- how many bytes IPv6 has more: its header, and the Fragment header of a fragment
abbrev pub growth4 : Ipv4Packet → ℕ
growth4 packet = if is_whole4 packet then 20 else 28

-- a packet that may not be cut and is too long for the IPv6 side; options count, which will be gone
abbrev pub is_too_big4 : Settings → Ipv4Packet → Bool
is_too_big4 settings packet =
    (packet.df == 1) && not (is_error4 packet) && nat_lt settings.mtu6 (total_length4 packet + growth4 packet)
