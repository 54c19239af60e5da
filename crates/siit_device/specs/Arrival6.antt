-- Where the rules on IPv6 arrival hold. Each condition speaks of packets for which no earlier rule holds.
use Rattle.std.specs.Prelude.{ℕ, List, drop, Bool, true, false, not, ◌&&◌, ◌||◌, ◌==◌, nat_lt, if◌then◌else◌, is_none, is_some, is_err}
use Rattle.std.specs.Result.{result_err}
use Rattle.siit_model.specs.Bytes.{field8, field32}
use Rattle.siit_model.specs.Extensions.{Walked}
use Rattle.siit_model.specs.Fragments.{Fragment, fragment_by, is_whole}
use Rattle.siit_model.specs.Ipv6.{Ipv6Packet, ipv6_fields}
use Rattle.siit_rules.specs.declared.rule.Rule.{Rule}
use Rattle.siit_icmp.specs.Errors.{is_error_kind6}
use Rattle.siit_icmp.specs.Icmp.{icmp_to_4, pointer_to_4}
use Rattle.siit_map.specs.Mapping.{ipv4_for}
use Rattle.siit_roles.specs.Roles.{role_refusal6}
use Rattle.siit_roles.specs.declared.role.Role.{Role}
use Rattle.siit_roles.specs.declared.role.Role.TheVariants.{Plain, Border}
use Rattle.siit_roles.specs.declared.settings.Settings.{Settings}
use Rattle.siit_hairpin.specs.Turn.{turn_of}
use Rattle.siit_hairpin.specs.declared.hairpin.TurnAnswer.{TurnAnswer}
use Rattle.siit_hairpin.specs.declared.hairpin.TurnAnswer.TheVariants.{Not, Pair, Refused}
use Rattle.siit_quoted.specs.Bodies.{part_of, length_octet6}
use Rattle.siit_quoted.specs.Refusals.{quote_refusal6}
use Rattle.siit_device.specs.Addresses.{is_no_host6, means_of, to4}
use Rattle.siit_device.specs.Rows.{is_by}
use Rattle.siit_device.specs.Shapes.{is_misshapen, is_upper_short}

-- A packet whose walk over the extension headers is accepted, and the walk.
pub record Arrived : Type 0 where
  pub packet : Ipv6Packet
  pub walked : Walked

-- its upper part, and what stands before it, as a fragment of its datagram
abbrev pub arrived_fragment : Arrived → Fragment
arrived_fragment arrived = fragment_by arrived.packet arrived.walked

-- THE HEADERS

abbrev pub is_bad_source6 : Ipv6Packet → Bool
is_bad_source6 packet = is_no_host6 packet.source

abbrev pub is_bad_destination6 : Ipv6Packet → Bool
is_bad_destination6 packet = is_no_host6 packet.destination

abbrev pub is_misshapen6 : Arrived → Bool
is_misshapen6 arrived = is_misshapen (arrived_fragment arrived)

abbrev pub is_expired6 : Arrived → Bool
is_expired6 arrived = nat_lt arrived.packet.hop 2

abbrev pub is_routed6 : Arrived → Bool
is_routed6 arrived = is_some arrived.walked.segments

-- the number is ICMP in IPv4
abbrev pub has_clash6 : Arrived → Bool
has_clash6 arrived = arrived.walked.upper == 1

-- THE UPPER PART

abbrev pub is_upper_short6 : Arrived → Bool
is_upper_short6 arrived = is_upper_short 58 (arrived_fragment arrived)

abbrev pub is_icmp_fragment6 : Arrived → Bool
is_icmp_fragment6 arrived = (arrived.walked.upper == 58) && not (is_whole (arrived_fragment arrived))

-- the type and code of an ICMPv6 message have no row
abbrev pub is_icmp_refused6 : Rule → Arrived → Bool
is_icmp_refused6 rule arrived =
    let message = (arrived_fragment arrived).bytes in
    (arrived.walked.upper == 58) && is_by rule (result_err (icmp_to_4 (field8 message 0) (field8 message 1)))

-- The pointer of a Parameter Problem about a wrong field stands at no field that IPv4 has.
abbrev pub is_pointer_refused6 : Arrived → Bool
is_pointer_refused6 arrived =
    let message = (arrived_fragment arrived).bytes in
    (arrived.walked.upper == 58) && (field8 message 0 == 4) && (field8 message 1 == 0) && is_none (pointer_to_4 (field32 message 4))

-- THE ADDRESSES

abbrev pub is_role_refused6 : Settings → Rule → Arrived → Bool
is_role_refused6 settings rule arrived =
    is_by rule
    (role_refusal6 settings.role (means_of (ipv4_for settings.mapping arrived.packet.source)) (means_of (ipv4_for settings.mapping arrived.packet.destination)))

-- a whole ICMPv6 error
abbrev pub is_error6 : Fragment → Bool
is_error6 f = (f.common.protocol == 58) && (is_whole f && is_error_kind6 (field8 f.bytes 0))

abbrev pub is_source_refused6 : Settings → Arrived → Bool
is_source_refused6 settings arrived = not (is_error6 (arrived_fragment arrived)) && is_err (ipv4_for settings.mapping arrived.packet.source)

abbrev pub is_destination_refused6 : Settings → Arrived → Bool
is_destination_refused6 settings arrived = is_err (ipv4_for settings.mapping arrived.packet.destination)

-- HAIRPINNING (RFC 7757 section 4.2)

abbrev pub turns_back : Role → Bool
turns_back Plain = true
turns_back Border = true
turns_back _ = false

-- The IPv4 address that stands for the source: that of an ICMPv6 error without mapping is the device's own.
abbrev pub source_standing : Settings → Arrived → ℕ
source_standing settings arrived =
    if is_err (ipv4_for settings.mapping arrived.packet.source) then settings.address4.0 else to4 settings arrived.packet.source

abbrev pub turn_for : Settings → Arrived → TurnAnswer
turn_for settings arrived =
    if settings.hairpin && turns_back settings.role
    then turn_of settings.mapping (source_standing settings arrived) arrived.packet.destination
    else Not

abbrev pub is_pair : TurnAnswer → Bool
is_pair (Pair addresses) = true
is_pair _ = false

abbrev pub is_refused : TurnAnswer → Bool
is_refused Refused = true
is_refused _ = false

abbrev pub is_turn_refused : Settings → Arrived → Bool
is_turn_refused settings arrived = is_refused (turn_for settings arrived)

-- THE QUOTE

-- the part of an ICMPv6 error that holds its quote
abbrev pub quoted_part6 : (message : List ℕ) → List ℕ
quoted_part6 message = part_of 8 (length_octet6 message) (drop 8 message)

abbrev pub arrived_part : Arrived → List ℕ
arrived_part arrived = quoted_part6 (arrived_fragment arrived).bytes

abbrev pub is_quote_refused6 : Rule → Arrived → Bool
is_quote_refused6 rule arrived =
    is_error6 (arrived_fragment arrived) && is_by rule (quote_refusal6 (arrived_part arrived))

-- The addresses of the quote of a packet that is turned: its source is looked at as a destination, and its destination
-- as a source.
abbrev pub quote_turn_for : Settings → (part : List ℕ) → TurnAnswer
quote_turn_for settings part =
    let quoted = ipv6_fields part in turn_of settings.mapping (to4 settings quoted.destination) quoted.source

abbrev pub is_quote_unmapped6 : Settings → Arrived → Bool
is_quote_unmapped6 settings arrived =
    let part = arrived_part arrived in let quoted = ipv6_fields part in
    is_error6 (arrived_fragment arrived)
    && (is_err (ipv4_for settings.mapping quoted.source) || is_err (ipv4_for settings.mapping quoted.destination)
    || (is_pair (turn_for settings arrived) && not (is_pair (quote_turn_for settings part))))
