-- The quoted packet of an ICMP error, translated with the message (RFC 7915 sections 4.3 and 5.3): as a packet, but
-- that its hop count stays, its length stays that of the packet as sent, and an identification that isn't told is 0.
use Rattle.std.specs.Prelude.{ℕ, ◌+◌, List, length, Bool, false, if◌then◌else◌}
use Rattle.siit_model.specs.Fragments.{Fragment, packet4}
use Rattle.siit_model.specs.Ipv4.{Ipv4Packet, ipv4_bytes_as}
use Rattle.siit_model.specs.Ipv6.{Ipv6Packet, ipv6_bytes_as}
use Rattle.siit_v4to6.specs.To6.{Head6, fragment_part, packet6, translated_to_6}
use Rattle.siit_v6to4.specs.To4.{Head4, df_for, identification, translated_to_4}
use Rattle.siit_v6to4.specs.Turns.{turned_packet}
use Rattle.siit_quoted.specs.Quoted.{QuotedIpv4, QuotedIpv6, quoted_fragment4, quoted_fragment6}

-- the TOS octet or traffic class that is written for this one (RFC 7915 sections 4.1 and 5.1)
abbrev pub written_class : (tos_zero : Bool) → ℕ → ℕ
written_class tos_zero class = if tos_zero then 0 else class

-- TO IPv6

-- the new header of the quoted packet, its hop count as it is
abbrev pub quote_head6 : (source destination : ℕ) → (tos_zero : Bool) → Fragment → Head6
quote_head6 source destination tos_zero f = record {
  source = source;
  destination = destination;
  class = written_class tos_zero f.common.class;
  hop = f.common.hop;
}

-- the translated quoted packet, a Fragment header being there exactly for a fragment
abbrev pub quoted_to_6 : (source destination : ℕ) → (tos_zero : Bool) → QuotedIpv4 → Fragment
quoted_to_6 source destination tos_zero quoted =
    let f = quoted_fragment4 quoted in translated_to_6 (quote_head6 source destination tos_zero f) quoted.sent f

abbrev pub quoted_packet_to_6 : (source destination : ℕ) → (tos_zero : Bool) → QuotedIpv4 → Ipv6Packet
quoted_packet_to_6 source destination tos_zero quoted = packet6 false (quoted_to_6 source destination tos_zero quoted)

-- its payload length as sent
abbrev pub sent_to_6 : (source destination : ℕ) → (tos_zero : Bool) → QuotedIpv4 → ℕ
sent_to_6 source destination tos_zero quoted =
    length (fragment_part false (quoted_to_6 source destination tos_zero quoted)) + quoted.sent

-- the bytes of the quote
unfoldable pub quote_to_6 : (source destination : ℕ) → (tos_zero : Bool) → QuotedIpv4 → List ℕ
quote_to_6 source destination tos_zero quoted =
    ipv6_bytes_as (sent_to_6 source destination tos_zero quoted) (quoted_packet_to_6 source destination tos_zero quoted)

-- TO IPv4

-- the new header of the quoted packet, its hop count as it is, and its identification 0 without a Fragment header
abbrev pub quote_head4 : (source destination : ℕ) → (tos_zero : Bool) → QuotedIpv6 → Head4
quote_head4 source destination tos_zero quoted = record {
  source = source;
  destination = destination;
  tos = written_class tos_zero quoted.packet.class;
  ttl = quoted.packet.hop;
  id = identification quoted.walked.fragment 0;
}

-- the translated quoted packet; Don't Fragment goes by the length as sent
abbrev pub quoted_packet_to_4 : (source destination : ℕ) → (tos_zero : Bool) → QuotedIpv6 → Ipv4Packet
quoted_packet_to_4 source destination tos_zero quoted =
    packet4 (df_for quoted.walked.fragment (20 + quoted.sent))
    (translated_to_4 (quote_head4 source destination tos_zero quoted) quoted.sent (quoted_fragment6 quoted))

unfoldable pub quote_to_4 : (source destination : ℕ) → (tos_zero : Bool) → QuotedIpv6 → List ℕ
quote_to_4 source destination tos_zero quoted =
    ipv4_bytes_as (20 + quoted.sent) (quoted_packet_to_4 source destination tos_zero quoted)

-- TURNED

-- other addresses and the checksum by them; all else stays, extension headers too
unfoldable pub quote_turned : (source destination : ℕ) → QuotedIpv6 → List ℕ
quote_turned source destination quoted =
    ipv6_bytes_as (quoted.walked.at + quoted.sent) (turned_packet source destination quoted.sent quoted.walked quoted.packet)
