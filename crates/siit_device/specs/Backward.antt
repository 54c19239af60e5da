-- The packet that a device makes of an IPv6 packet which no rule drops and which it doesn't turn (RFC 7915 section 5).
use Rattle.std.specs.Prelude.{ℕ, ◌+◌, ◌-◌, List, [], ◌∷◌, length, map, Bool, true, false, ◌&&◌, nat_lt, nat_le, if◌then◌else◌, is_err, unwrap_or, Option, Some, None, Result, Ok, Err}
use Rattle.siit_model.specs.Bytes.{part, field8, field32, bytes16, bytes32}
use Rattle.siit_model.specs.Checksum.{pseudo6}
use Rattle.siit_model.specs.Extensions.{FragmentFields}
use Rattle.siit_model.specs.Fragments.{Common, Datagram, Fragment, whole_of, packet4}
use Rattle.siit_model.specs.Ipv4.{Ipv4Packet}
use Rattle.siit_model.specs.Ipv6.{ipv6_fields}
use Rattle.siit_addr.specs.declared.addr.Addr4.{Addr4}
use Rattle.siit_rules.specs.declared.rule.Rule.{Rule}
use Rattle.siit_icmp.specs.Icmp.{icmp_to_4, pointer_to_4, mtu_to_4}
use Rattle.siit_icmp.specs.declared.kinds.NewKind.{NewKind}
use Rattle.siit_icmp.specs.declared.kinds.Rest.{Rest}
use Rattle.siit_icmp.specs.declared.kinds.Rest.TheVariants.{Same, Zero, Mtu, Pointer, PointerSix, Length}
use Rattle.siit_map.specs.Mapping.{ipv4_for}
use Rattle.siit_v6to4.specs.To4.{Head4, header_to_4, ends_to_4, bytes_to_4, df_of, df_for, identification}
use Rattle.siit_fragments.specs.Pieces.{blocks_of, pieces_of}
use Rattle.siit_quoted.specs.Bodies.{NewBody}
use Rattle.siit_quoted.specs.Errors.{body_to_4, error_moved}
use Rattle.siit_quoted.specs.Quotes.{written_class}
use Rattle.siit_roles.specs.Pool.{pool_source}
use Rattle.siit_roles.specs.declared.settings.Settings.{Settings}
use Rattle.siit_device.specs.Addresses.{to4}
use Rattle.siit_device.specs.Arrival6.{Arrived, arrived_fragment, is_error6, quoted_part6}

-- the address of the pool that an identification picks
abbrev pub address_in : Option Addr4 → ℕ
address_in None = 0
address_in (Some address) = address.0

-- An ICMPv6 error whose source has no mapping comes from the pool (RFC 6791 section 3.2).
abbrev pub source_to_4 : Settings → (id : ℕ) → Fragment → ℕ
source_to_4 settings id f =
    if is_error6 f && is_err (ipv4_for settings.mapping f.common.source)
    then address_in (pool_source settings.pool4 id)
    else to4 settings f.common.source

-- what the new header says that the old one doesn't tell
abbrev pub head4_for : Settings → (id : ℕ) → Fragment → Head4
head4_for settings id f = record {
  source = source_to_4 settings id f;
  destination = to4 settings f.common.destination;
  tos = written_class settings.tos_zero f.common.class;
  ttl = f.common.hop - 1;
  id = id;
}

-- ICMP ERRORS

-- bytes 4 to 7 of the new message
abbrev pub rest_to_4 : Settings → Rest → (octet : ℕ) → (message : List ℕ) → List ℕ
rest_to_4 settings Same octet message = part message 4 4
rest_to_4 settings Zero octet message = bytes32 0
rest_to_4 settings Length octet message = 0 ∷ octet ∷ 0 ∷ 0 ∷ []
rest_to_4 settings Mtu octet message = 0 ∷ 0 ∷ bytes16 (mtu_to_4 (field32 message 4) settings.mtu4 settings.mtu6)
rest_to_4 settings Pointer octet message = unwrap_or (pointer_to_4 (field32 message 4)) 0 ∷ 0 ∷ 0 ∷ 0 ∷ []
rest_to_4 settings PointerSix octet message = bytes32 0

abbrev pub new_body4 : Settings → NewKind → (message : List ℕ) → NewBody
new_body4 settings new message =
    let quoted = ipv6_fields (quoted_part6 message) in
    body_to_4 (to4 settings quoted.source) (to4 settings quoted.destination) settings.tos_zero new.kind message

abbrev pub error_by4 : Settings → Common → (message : List ℕ) → Result NewKind Rule → List ℕ
error_by4 settings common message (Err rule) = message
error_by4 settings common message (Ok new) =
    let body = new_body4 settings new message in
    error_moved (pseudo6 common.source common.destination 58 (length message)) 0
    new.kind new.code (rest_to_4 settings new.rest body.octet message) body message

unfoldable pub error_to_4 : Settings → Common → (message : List ℕ) → List ℕ
error_to_4 settings common message = error_by4 settings common message (icmp_to_4 (field8 message 0) (field8 message 1))

-- THE PACKET

-- the bytes on the other side; what becomes of an error hangs on its quote
abbrev pub upper_backward : Settings → Head4 → Fragment → List ℕ
upper_backward settings head f =
    if is_error6 f then error_to_4 settings f.common f.bytes
    else bytes_to_4 (ends_to_4 head f.common) (length f.bytes) f

abbrev pub translated4 : Settings → (id : ℕ) → Fragment → Fragment
translated4 settings id f =
    let head = head4_for settings id f in record (header_to_4 head f) { bytes = upper_backward settings head f }

-- the whole packet of the translated datagram, whatever its size
abbrev pub image4 : Settings → Datagram → (id : ℕ) → Ipv4Packet
image4 settings e id = let f = translated4 settings id (whole_of e) in packet4 (df_of (20 + length f.bytes)) f

-- a number is used where no Fragment header brings one
abbrev pub is_number_used : Option FragmentFields → Bool
is_number_used None = true
is_number_used (Some fields) = false

-- A packet that every IPv6 link carries is cut where the IPv4 link is smaller.
abbrev pub is_cut4 : Settings → Arrived → (total : ℕ) → Bool
is_cut4 settings arrived total = nat_le (40 + length arrived.packet.body) 1280 && nat_lt settings.mtu4 total

-- the fragment that is sent
abbrev pub sent4 : Settings → Arrived → (number : ℕ) → Fragment
sent4 settings arrived number =
    translated4 settings (identification arrived.walked.fragment number) (arrived_fragment arrived)

abbrev pub is_sent_cut4 : Settings → Arrived → Bool
is_sent_cut4 settings arrived = is_cut4 settings arrived (20 + length (sent4 settings arrived 0).bytes)

-- the one packet that is sent, where it isn't cut
abbrev pub whole4 : Settings → Arrived → (number : ℕ) → Ipv4Packet
whole4 settings arrived number =
    let f = sent4 settings arrived number in packet4 (df_for arrived.walked.fragment (20 + length f.bytes)) f

-- the pieces that are sent, where it is cut
abbrev pub pieces4 : Settings → Arrived → (number : ℕ) → List Ipv4Packet
pieces4 settings arrived number = map (packet4 0) (pieces_of (blocks_of 20 settings.mtu4) (sent4 settings arrived number))

abbrev pub packets_to_4 : Settings → Arrived → (number : ℕ) → List Ipv4Packet
packets_to_4 settings arrived number =
    if is_sent_cut4 settings arrived then pieces4 settings arrived number else whole4 settings arrived number ∷ []
