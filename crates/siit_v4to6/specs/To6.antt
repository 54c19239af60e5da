-- An IPv4 packet on its way to IPv6 (RFC 7915 sections 4.1, 4.2 and 4.5). It is looked at as a fragment, a whole packet
-- being the one fragment of its datagram. Of a quoted packet the end may be missing.
use Rattle.std.specs.Prelude.{ℕ, ◌+◌, ◌%◌, List, [], ◌++◌, length, Bool, not, ◌&&◌, ◌||◌, ◌==◌, nat_lt, if◌then◌else◌}
use Rattle.siit_model.specs.Bytes.{field8, with_field16}
use Rattle.siit_model.specs.Checksum.{residue, checksum_of, without_zero, pseudo4, pseudo6}
use Rattle.siit_model.specs.Extensions.{fragment_header}
use Rattle.siit_model.specs.Fragments.{Common, Fragment, fields_of, is_whole, plain_packet6}
use Rattle.siit_model.specs.Ipv6.{Ipv6Packet}
use Rattle.siit_model.specs.Upper.{Ends}
use Rattle.siit_icmp.specs.Icmp.{is_echo_kind4, echo_kind6}
use Rattle.siit_upper.specs.Moves.{echo_moved, tcp_moved, udp_moved}
use Rattle.siit_addr.specs.declared.addr.Addresses4.{Addresses4}
use Rattle.siit_addr.specs.declared.addr.Addresses6.{Addresses6}

-- THE HEADERS

-- What the new header says that the old one doesn't tell: the addresses, the traffic class, which is the TOS octet or
-- 0, and the hop limit, which is one less than the TTL, and in a quote the TTL.
pub record Head6 : Type 0 where
  pub source : ℕ
  pub destination : ℕ
  pub class : ℕ
  pub hop : ℕ

-- ICMP is protocol 1 in IPv4 and 58 in IPv6. Other protocols keep their number.
abbrev pub next_header_of : ℕ → ℕ
next_header_of protocol = if protocol == 1 then 58 else protocol

abbrev pub common_to_6 : Head6 → Common → Common
common_to_6 head common = record {
  class = head.class;
  hop = head.hop;
  protocol = next_header_of common.protocol;
  source = head.source;
  destination = head.destination;
}

-- The fragment behind its new header, with its bytes as they are. Identification, offset and More are copied.
abbrev pub header_to_6 : Head6 → Fragment → Fragment
header_to_6 head f = record f { common = common_to_6 head f.common }

-- A Fragment header is written exactly for a fragment and where it is asked for.
abbrev pub has_fragment_header : (asked : Bool) → Fragment → Bool
has_fragment_header asked f = asked || not (is_whole f)

-- that Fragment header, or nothing
abbrev pub fragment_part : (asked : Bool) → Fragment → List ℕ
fragment_part asked f = if has_fragment_header asked f then fragment_header f.common.protocol (fields_of f) else []

abbrev pub first_header : (asked : Bool) → Fragment → ℕ
first_header asked f = if has_fragment_header asked f then 44 else f.common.protocol

-- the IPv6 packet of a fragment
abbrev pub packet6 : (asked : Bool) → Fragment → Ipv6Packet
packet6 asked f = record (plain_packet6 f) { next = first_header asked f; body = fragment_part asked f ++ f.bytes }

-- THE UPPER PART

-- the addresses of one packet on both sides
abbrev pub ends_4_to_6 : Addresses4 → Addresses6 → Ends
ends_4_to_6 old new = record {
  source4 = old.src.0;
  destination4 = old.dst.0;
  source6 = new.src.0;
  destination6 = new.dst.0;
}

abbrev pub ends_to_6 : Head6 → Common → Ends
ends_to_6 head common = record {
  source4 = common.source;
  destination4 = common.destination;
  source6 = head.source;
  destination6 = head.destination;
}

-- The checksum of a UDP datagram computed from nothing: over the pseudo-header of IPv6 and the datagram, its own
-- checksum counted as zero (RFC 8200 section 8.1), and 65535 in place of 0 (RFC 768).
abbrev pub udp_checksum6 : (source destination : ℕ) → List ℕ → ℕ
udp_checksum6 source destination part =
    without_zero (checksum_of ((pseudo6 source destination 17 (length part) + residue (with_field16 part 6 0)) % 65535))

-- an echo request or reply whose type is in the part
abbrev pub is_echo4 : List ℕ → Bool
is_echo4 part = nat_lt 0 (length part) && is_echo_kind4 (field8 part 0)

-- An ICMP echo message gets its ICMPv6 type, and its checksum counts a pseudo-header of this residue, which ICMPv4
-- hasn't (RFC 7915 section 4.2). Other ICMP messages stay: what becomes of an error hangs on its quote.
abbrev pub echo_to_6 : (pseudo : ℕ) → List ℕ → List ℕ
echo_to_6 pseudo part = if is_echo4 part then echo_moved (echo_kind6 (field8 part 0)) 0 pseudo part else part

-- The upper part of a packet of this protocol, a part that may be cut; `whole` is its length as sent. Its checksum
-- moves by the pseudo-headers (RFC 7915 section 4.5). Protocols other than the three keep their payload.
abbrev pub upper_to_6 : (protocol : ℕ) → Ends → (whole : ℕ) → List ℕ → List ℕ
upper_to_6 protocol ends whole part =
    if protocol == 6 then tcp_moved (pseudo4 ends.source4 ends.destination4 6 whole) (pseudo6 ends.source6 ends.destination6 6 whole) part
    else if protocol == 17 then udp_moved (pseudo4 ends.source4 ends.destination4 17 whole) (pseudo6 ends.source6 ends.destination6 17 whole) part
    else if protocol == 1 then echo_to_6 (pseudo6 ends.source6 ends.destination6 58 whole) part
    else part

-- The bytes of a fragment on the other side, `sent` being their number as sent: the upper part begins in a whole packet
-- and in a first fragment, and a later fragment keeps its bytes.
abbrev pub bytes_to_6 : Ends → (sent : ℕ) → Fragment → List ℕ
bytes_to_6 ends sent f = if f.offset == 0 then upper_to_6 f.common.protocol ends sent f.bytes else f.bytes

-- THE TRANSLATED PACKET

-- The translated fragment: the new header, and the bytes on the other side. `packet6 false` of it is the translated
-- packet.
abbrev pub translated_to_6 : Head6 → (sent : ℕ) → Fragment → Fragment
translated_to_6 head sent f = record f { common = common_to_6 head f.common; bytes = bytes_to_6 (ends_to_6 head f.common) sent f }
