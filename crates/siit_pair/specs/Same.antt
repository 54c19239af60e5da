-- What a datagram is behind a pair of devices: itself, but for what its translation to IPv6 and back changes (RFC
-- 7915). The identification, Don't Fragment, the options, the lengths and the header checksum aren't looked at.
use Rattle.std.specs.Prelude.{◌≡◌, ℕ, ◌+◌, ◌%◌, List, ◌∷◌, ◌++◌, length, Bool, true, false, not, ◌&&◌, ◌||◌, ◌==◌, nat_le, if◌then◌else◌, is_none, is_ok, is_some, Option, Some, None, Result, Ok, Err, option_and_then}
use Rattle.std.specs.Str.{bytes_eq}
use Rattle.siit_model.specs.Bytes.{field8, field16, field32, with_field16}
use Rattle.siit_model.specs.Checksum.{pseudo4, residue}
use Rattle.siit_model.specs.Ipv4.{Ipv4Packet, ipv4_fields, is_whole4}
use Rattle.siit_model.specs.Ipv6.{Ipv6Packet, ipv6_fields}
use Rattle.siit_rules.specs.declared.rule.Rule.{Rule}
use Rattle.siit_icmp.specs.Errors.{is_error_kind4}
use Rattle.siit_icmp.specs.Icmp.{icmp_to_4, icmp_to_6, is_echo_kind4, pointer_to_4, pointer_to_6}
use Rattle.siit_icmp.specs.declared.kinds.NewKind.{NewKind}
use Rattle.siit_icmp.specs.declared.kinds.Rest.{Rest}
use Rattle.siit_icmp.specs.declared.kinds.Rest.TheVariants.{Pointer}
use Rattle.siit_map.specs.Mapping.{ipv4_for, ipv6_for}
use Rattle.siit_quoted.specs.Refusals.{quote_refusal4, quote_refusal6}
use Rattle.siit_roles.specs.Chain.{Chain}
use Rattle.siit_roles.specs.declared.settings.Settings.{Settings}
use Rattle.siit_views.specs.Headers.{refusal4}
use Rattle.siit_device.specs.Arrival4.{quoted_part4}
use Rattle.siit_device.specs.Arrival6.{quoted_part6}
use Rattle.siit_device.specs.Backward.{new_body4, rest_to_4}
use Rattle.siit_device.specs.Forward.{new_body6, rest_to_6}
use Rattle.siit_pair.specs.Pairs.{IsPair}

-- THE HEADER

abbrev pub has_no_options : (after : Ipv4Packet) → Bool
has_no_options after = length after.options == 0

-- each device lowers the TTL by one
abbrev pub is_two_hops_on : (before after : Ipv4Packet) → Bool
is_two_hops_on before after = after.ttl + 2 == before.ttl

abbrev pub has_same_protocol : (before after : Ipv4Packet) → Bool
has_same_protocol before after = after.protocol == before.protocol

abbrev pub has_same_addresses : (before after : Ipv4Packet) → Bool
has_same_addresses before after = (after.source == before.source) && (after.destination == before.destination)

-- the TOS octet stays, and is 0 where a device writes 0
abbrev pub tos_behind : (first second : Settings) → ℕ → ℕ
tos_behind first second tos = if first.tos_zero || second.tos_zero then 0 else tos

abbrev pub has_same_tos : (first second : Settings) → (before after : Ipv4Packet) → Bool
has_same_tos first second before after = after.tos == tos_behind first second before.tos

-- CHECKSUMS

-- bytes with the checksum at this place counted as zero
abbrev pub unsummed : (place : ℕ) → List ℕ → List ℕ
unsummed place bytes = with_field16 bytes place 0

-- equal but for the checksum
abbrev pub is_same_unsummed : (place : ℕ) → (old new : List ℕ) → Bool
is_same_unsummed place old new = bytes_eq (unsummed place old) (unsummed place new)

-- the checksum counts as the same number, for which 0 has two spellings (RFC 1624)
abbrev pub has_same_checksum : (place : ℕ) → (old new : List ℕ) → Bool
has_same_checksum place old new = field16 old place % 65535 == field16 new place % 65535

-- the two together
abbrev pub is_same_moved : (place : ℕ) → (old new : List ℕ) → Bool
is_same_moved place old new = is_same_unsummed place old new && has_same_checksum place old new

-- both have the header of their protocol, of at least so many bytes
abbrev pub have_header : (least : ℕ) → (old new : List ℕ) → Bool
have_header least old new = nat_le least (length old) && nat_le least (length new)

-- TCP AND UDP

abbrev pub is_same_tcp : (old new : List ℕ) → Bool
is_same_tcp old new = have_header 20 old new && is_same_moved 16 old new

-- a UDP checksum that is there and right, between these addresses (RFC 768)
abbrev pub has_right_checksum : (source destination : ℕ) → (datagram : List ℕ) → Bool
has_right_checksum source destination datagram =
    not (field16 datagram 6 == 0) && ((pseudo4 source destination 17 (length datagram) + residue datagram) % 65535 == 0)

-- a UDP datagram without checksum, which has one where the first device computes it (RFC 7915 section 4.5)
abbrev pub is_same_computed : (first : Settings) → (source destination : ℕ) → (old new : List ℕ) → Bool
is_same_computed first source destination old new =
    first.udp_compute
    && (field16 old 4 == length old)
    && is_same_unsummed 6 old new
    && has_right_checksum source destination new

abbrev pub is_same_udp : (first : Settings) → (source destination : ℕ) → (old new : List ℕ) → Bool
is_same_udp first source destination old new =
    have_header 8 old new
    && (if field16 old 6 == 0 then is_same_computed first source destination old new else is_same_moved 6 old new)

-- ICMP ERRORS

-- the pointer of a Parameter Problem stands at a field that the other family has
abbrev pub has_pointer6 : Rest → (message : List ℕ) → Bool
has_pointer6 Pointer message = is_some (pointer_to_6 (field8 message 4))
has_pointer6 _ message = true

abbrev pub has_pointer4 : Rest → (message : List ℕ) → Bool
has_pointer4 Pointer message = is_some (pointer_to_4 (field32 message 4))
has_pointer4 _ message = true

-- a device has addresses on the other side for those of a quote
abbrev pub is_mapped6 : Settings → (quoted : Ipv4Packet) → Bool
is_mapped6 settings quoted = is_ok (ipv6_for settings.mapping quoted.source) && is_ok (ipv6_for settings.mapping quoted.destination)

abbrev pub is_mapped4 : Settings → (quoted : Ipv6Packet) → Bool
is_mapped4 settings quoted = is_ok (ipv4_for settings.mapping quoted.source) && is_ok (ipv4_for settings.mapping quoted.destination)

-- an error of this new type whose pointer has a row and whose quote is accepted and mapped
abbrev pub is_translated6 : Settings → NewKind → (message : List ℕ) → Bool
is_translated6 settings new message =
    let part = quoted_part4 message in
    has_pointer6 new.rest message && is_none (quote_refusal4 part) && is_mapped6 settings (ipv4_fields part)

abbrev pub is_translated4 : Settings → NewKind → (message : List ℕ) → Bool
is_translated4 settings new message =
    let part = quoted_part6 message in
    has_pointer4 new.rest message && is_none (quote_refusal6 part) && is_mapped4 settings (ipv6_fields part)

-- the error on the other side, its checksum counted as zero: type, code, bytes 4 to 7, quote and extension
abbrev pub unsummed_error6 : Settings → NewKind → (message : List ℕ) → List ℕ
unsummed_error6 settings new message =
    let body = new_body6 settings new message in
    new.kind ∷ new.code ∷ 0 ∷ 0 ∷ rest_to_6 settings new.rest body.octet message ++ body.bytes

abbrev pub unsummed_error4 : Settings → NewKind → (message : List ℕ) → List ℕ
unsummed_error4 settings new message =
    let body = new_body4 settings new message in
    new.kind ∷ new.code ∷ 0 ∷ 0 ∷ rest_to_4 settings new.rest body.octet message ++ body.bytes

abbrev pub error_if6 : Settings → (message : List ℕ) → Result NewKind Rule → Option (List ℕ)
error_if6 settings message (Err rule) = None
error_if6 settings message (Ok new) = if is_translated6 settings new message then Some (unsummed_error6 settings new message) else None

abbrev pub error_if4 : Settings → (message : List ℕ) → Result NewKind Rule → Option (List ℕ)
error_if4 settings message (Err rule) = None
error_if4 settings message (Ok new) = if is_translated4 settings new message then Some (unsummed_error4 settings new message) else None

-- the ICMPv6 error that a device makes of an ICMPv4 error, and none where it has no translation
unfoldable pub error_forward : Settings → (message : List ℕ) → Option (List ℕ)
error_forward settings message = error_if6 settings message (icmp_to_6 (field8 message 0) (field8 message 1))

-- the same from IPv6 to IPv4
unfoldable pub error_backward : Settings → (message : List ℕ) → Option (List ℕ)
error_backward settings message = error_if4 settings message (icmp_to_4 (field8 message 0) (field8 message 1))

-- behind both devices
abbrev pub error_behind : (first second : Settings) → (message : List ℕ) → Option (List ℕ)
error_behind first second message = option_and_then (error_backward second) (error_forward first message)

abbrev pub is_the_message : Option (List ℕ) → (unsummed : List ℕ) → Bool
is_the_message None bytes = false
is_the_message (Some message) bytes = bytes_eq message bytes

-- the message that both devices make, with a checksum by which all of it has the residue that it had
abbrev pub is_same_error : (first second : Settings) → (old new : List ℕ) → Bool
is_same_error first second old new =
    (residue new == residue old) && is_the_message (error_behind first second old) (unsummed 2 new)

-- ICMP

abbrev pub is_same_icmp : (first second : Settings) → (old new : List ℕ) → Bool
is_same_icmp first second old new =
    have_header 8 old new
    && (if is_echo_kind4 (field8 old 0) then is_same_moved 2 old new
    else is_error_kind4 (field8 old 0) && is_same_error first second old new)

-- THE DATAGRAM

abbrev pub has_same_payload : (first second : Settings) → (before after : Ipv4Packet) → Bool
has_same_payload first second before after =
    if before.protocol == 6 then is_same_tcp before.payload after.payload
    else if before.protocol == 17 then is_same_udp first before.source before.destination before.payload after.payload
    else if before.protocol == 1 then is_same_icmp first second before.payload after.payload
    else bytes_eq before.payload after.payload

-- A whole datagram behind two devices, of which it meets the first first.
abbrev pub is_same_from : (first second : Settings) → (before after : Ipv4Packet) → Bool
is_same_from first second before after =
    has_no_options after
    && is_two_hops_on before after
    && has_same_protocol before after
    && has_same_addresses before after
    && has_same_tos first second before after
    && has_same_payload first second before after

-- from the left end or from the right end
abbrev pub is_same_from_an_end : (left right : Settings) → (before after : Ipv4Packet) → Bool
is_same_from_an_end left right before after = is_same_from left right before after || is_same_from right left before after

-- THE BYTES

-- Bytes that are an IPv4 packet which is whole. Bytes of the link may follow it.
abbrev pub is_whole_packet : List ℕ → Bool
is_whole_packet bytes = is_none (refusal4 bytes) && is_whole4 (ipv4_fields bytes)

-- A datagram, and the same behind a pair.
pub record IsSame (chain : Chain) (before after : List ℕ) : Type 0 where
  pub pair : IsPair chain
  pub before_is_whole : is_whole_packet before ≡ true
  pub after_is_whole : is_whole_packet after ≡ true
  pub from_an_end : is_same_from_an_end pair.border pair.edge (ipv4_fields before) (ipv4_fields after) ≡ true
