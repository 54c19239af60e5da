-- The packet that a device makes of an IPv4 packet which no rule drops (RFC 7915 section 4).
use Rattle.std.specs.Prelude.{ℕ, ◌+◌, ◌-◌, List, [], ◌∷◌, length, map, Bool, false, not, ◌&&◌, ◌==◌, nat_lt, if◌then◌else◌, unwrap_or, Result, Ok, Err}
use Rattle.siit_model.specs.Bytes.{part, field8, field16, bytes32, with_field16}
use Rattle.siit_model.specs.Checksum.{pseudo6}
use Rattle.siit_model.specs.Fragments.{Common, Datagram, Fragment, fragment4, is_whole, whole_of, fragment_packet6}
use Rattle.siit_model.specs.Ipv4.{Ipv4Packet, ipv4_fields, total_length_in}
use Rattle.siit_model.specs.Ipv6.{Ipv6Packet}
use Rattle.siit_rules.specs.declared.rule.Rule.{Rule}
use Rattle.siit_icmp.specs.Errors.{is_error_kind4}
use Rattle.siit_icmp.specs.Icmp.{icmp_to_6, pointer_to_6, mtu_to_6}
use Rattle.siit_icmp.specs.declared.kinds.NewKind.{NewKind}
use Rattle.siit_icmp.specs.declared.kinds.Rest.{Rest}
use Rattle.siit_icmp.specs.declared.kinds.Rest.TheVariants.{Same, Zero, Mtu, Pointer, PointerSix, Length}
use Rattle.siit_v4to6.specs.To6.{Head6, common_to_6, header_to_6, ends_to_6, bytes_to_6, packet6, udp_checksum6}
use Rattle.siit_fragments.specs.Pieces.{blocks_of, pieces_of}
use Rattle.siit_quoted.specs.Bodies.{NewBody}
use Rattle.siit_quoted.specs.Errors.{body_to_6, error_moved}
use Rattle.siit_quoted.specs.Quotes.{written_class}
use Rattle.siit_roles.specs.declared.settings.Settings.{Settings}
use Rattle.siit_device.specs.Addresses.{to6}
use Rattle.siit_device.specs.Arrival4.{is_error4, quoted_part4}

-- what the new header says that the old one doesn't tell
abbrev pub head6_for : Settings → Common → Head6
head6_for settings common = record {
  source = to6 settings common.source;
  destination = to6 settings common.destination;
  class = written_class settings.tos_zero common.class;
  hop = common.hop - 1;
}

-- ICMP ERRORS

-- bytes 4 to 7 of the new message
abbrev pub rest_to_6 : Settings → Rest → (octet : ℕ) → (message : List ℕ) → List ℕ
rest_to_6 settings Same octet message = part message 4 4
rest_to_6 settings Zero octet message = bytes32 0
rest_to_6 settings Length octet message = octet ∷ 0 ∷ 0 ∷ 0 ∷ []
rest_to_6 settings Mtu octet message = bytes32 (mtu_to_6 (field16 message 6) (total_length_in (quoted_part4 message)) settings.mtu4 settings.mtu6)
rest_to_6 settings Pointer octet message = bytes32 (unwrap_or (pointer_to_6 (field8 message 4)) 0)
rest_to_6 settings PointerSix octet message = bytes32 6

-- the new body: quote and extension
abbrev pub new_body6 : Settings → NewKind → (message : List ℕ) → NewBody
new_body6 settings new message =
    let quoted = ipv4_fields (quoted_part4 message) in
    body_to_6 (to6 settings quoted.source) (to6 settings quoted.destination) settings.tos_zero new.kind message

-- ICMPv4 has no pseudo-header.
abbrev pub error_by6 : Settings → Common → (message : List ℕ) → Result NewKind Rule → List ℕ
error_by6 settings common message (Err rule) = message
error_by6 settings common message (Ok new) =
    let body = new_body6 settings new message in
    error_moved 0 (pseudo6 (to6 settings common.source) (to6 settings common.destination) 58 (8 + length body.bytes))
    new.kind new.code (rest_to_6 settings new.rest body.octet message) body message

unfoldable pub error_to_6 : Settings → Common → (message : List ℕ) → List ℕ
error_to_6 settings common message = error_by6 settings common message (icmp_to_6 (field8 message 0) (field8 message 1))

-- THE PACKET

abbrev pub is_error_fragment4 : Fragment → Bool
is_error_fragment4 f = (f.common.protocol == 1) && (is_whole f && is_error_kind4 (field8 f.bytes 0))

-- a whole UDP datagram without checksum (RFC 768)
abbrev pub lacks_checksum : Fragment → Bool
lacks_checksum f = (f.common.protocol == 17) && (is_whole f && (field16 f.bytes 6 == 0))

-- the bytes on the other side; a UDP checksum that isn't there is computed
abbrev pub upper_forward : Settings → Fragment → List ℕ
upper_forward settings f =
    let head = head6_for settings f.common in
    if is_error_fragment4 f then error_to_6 settings f.common f.bytes
    else if lacks_checksum f then with_field16 f.bytes 6 (udp_checksum6 head.source head.destination f.bytes)
    else bytes_to_6 (ends_to_6 head f.common) (length f.bytes) f

abbrev pub translated6 : Settings → Fragment → Fragment
translated6 settings f = record (header_to_6 (head6_for settings f.common) f) { bytes = upper_forward settings f }

-- the translated datagram, whatever its size
abbrev pub image6 : Settings → Datagram → Datagram
image6 settings d = record { common = common_to_6 (head6_for settings d.common) d.common; payload = upper_forward settings (whole_of d) }

-- the length of the IPv6 packet; a fragment has a Fragment header
abbrev pub form6 : Fragment → ℕ
form6 f = (if is_whole f then 40 else 48) + length f.bytes

-- It may be cut and is too long to be sent whole. An ICMP error never is.
abbrev pub is_cut6 : Settings → Ipv4Packet → Bool
is_cut6 settings packet = (packet.df == 0) && (not (is_error4 packet) && nat_lt settings.lowest (form6 (fragment4 packet)))

-- the one packet that is sent, where it isn't cut
abbrev pub whole6 : Settings → Ipv4Packet → Ipv6Packet
whole6 settings packet = packet6 false (translated6 settings (fragment4 packet))

-- the pieces that are sent, where it is cut
abbrev pub pieces6 : Settings → Ipv4Packet → List Ipv6Packet
pieces6 settings packet = map fragment_packet6 (pieces_of (blocks_of 48 settings.lowest) (translated6 settings (fragment4 packet)))

abbrev pub packets_to_6 : Settings → Ipv4Packet → List Ipv6Packet
packets_to_6 settings packet = if is_cut6 settings packet then pieces6 settings packet else whole6 settings packet ∷ []
