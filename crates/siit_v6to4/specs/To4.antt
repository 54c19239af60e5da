-- An IPv6 packet on its way to IPv4 (RFC 7915 sections 5.1, 5.2 and 5.5). It is looked at as a fragment, a whole packet
-- being the one fragment of its datagram. Of a quoted packet the end may be missing.
use Rattle.std.specs.Prelude.{ℕ, ◌%◌, List, Result, length, Bool, ◌&&◌, ◌==◌, nat_lt, nat_le, if◌then◌else◌, Option, Some, None}
use Rattle.siit_model.specs.Bytes.{field8}
use Rattle.siit_model.specs.Checksum.{pseudo4, pseudo6}
use Rattle.siit_model.specs.Extensions.{FragmentFields, Walked, Trouble, walk_of}
use Rattle.siit_model.specs.Fragments.{Common, Fragment}
use Rattle.siit_model.specs.Ipv6.{ipv6_fields}
use Rattle.siit_model.specs.Upper.{Ends}
use Rattle.siit_icmp.specs.Icmp.{is_echo_kind6, echo_kind4}
use Rattle.siit_upper.specs.Moves.{echo_moved, tcp_moved, udp_moved}
use Rattle.siit_addr.specs.declared.addr.Addresses4.{Addresses4}
use Rattle.siit_addr.specs.declared.addr.Addresses6.{Addresses6}

-- the walk over the extension headers of the packet in some bytes
abbrev pub walk_in : List ℕ → Result Walked Trouble
walk_in bytes = walk_of (ipv6_fields bytes).next (ipv6_fields bytes).body

-- THE HEADER

-- What the new header says that the old one doesn't tell: the addresses, the TOS octet, which is the traffic class or
-- 0, the TTL, which is one less than the hop limit, and in a quote the hop limit, and the identification.
pub record Head4 : Type 0 where
  pub source : ℕ
  pub destination : ℕ
  pub tos : ℕ
  pub ttl : ℕ
  pub id : ℕ

-- ICMPv6 is protocol 58 in IPv6 and ICMP 1 in IPv4. Other protocols keep their number.
abbrev pub protocol_of : ℕ → ℕ
protocol_of upper = if upper == 58 then 1 else upper

abbrev pub common_to_4 : Head4 → Common → Common
common_to_4 head common = record {
  class = head.tos;
  hop = head.ttl;
  protocol = protocol_of common.protocol;
  source = head.source;
  destination = head.destination;
}

-- the identification: the low 16 bits of that of the Fragment header, or a number that is handed in
abbrev pub identification : Option FragmentFields → (number : ℕ) → ℕ
identification None number = number % 65536
identification (Some fields) number = fields.id % 65536

-- A packet of at most 1,260 bytes may be cut on its way; a longer one may not.
abbrev pub df_of : (total : ℕ) → ℕ
df_of total = if nat_le total 1260 then 0 else 1

-- Don't Fragment by the total length. A packet that had a Fragment header may always be cut.
abbrev pub df_for : Option FragmentFields → (total : ℕ) → ℕ
df_for None total = df_of total
df_for (Some fields) total = 0

-- The fragment behind its new header, with its bytes as they are. Offset and More are copied. `packet4` of it is the
-- packet.
abbrev pub header_to_4 : Head4 → Fragment → Fragment
header_to_4 head f = record f { common = common_to_4 head f.common; id = head.id }

-- THE UPPER PART

-- the addresses of one packet on both sides
abbrev pub ends_6_to_4 : Addresses6 → Addresses4 → Ends
ends_6_to_4 old new = record {
  source4 = new.src.0;
  destination4 = new.dst.0;
  source6 = old.src.0;
  destination6 = old.dst.0;
}

abbrev pub ends_to_4 : Head4 → Common → Ends
ends_to_4 head common = record {
  source4 = head.source;
  destination4 = head.destination;
  source6 = common.source;
  destination6 = common.destination;
}

-- an echo request or reply whose type is in the part
abbrev pub is_echo6 : List ℕ → Bool
is_echo6 part = nat_lt 0 (length part) && is_echo_kind6 (field8 part 0)

-- An ICMPv6 echo message gets its ICMPv4 type, and its checksum counts no longer the pseudo-header of this residue (RFC
-- 7915 section 5.2). Other ICMPv6 messages stay: what becomes of an error hangs on its quote.
abbrev pub echo_to_4 : (pseudo : ℕ) → List ℕ → List ℕ
echo_to_4 pseudo part = if is_echo6 part then echo_moved (echo_kind4 (field8 part 0)) pseudo 0 part else part

-- The upper part of a packet of this protocol, a part that may be cut; `whole` is its length as sent. Its checksum
-- moves by the pseudo-headers (RFC 7915 section 5.5). Protocols other than the three keep their payload.
abbrev pub upper_to_4 : (protocol : ℕ) → Ends → (whole : ℕ) → List ℕ → List ℕ
upper_to_4 protocol ends whole part =
    if protocol == 6 then tcp_moved (pseudo6 ends.source6 ends.destination6 6 whole) (pseudo4 ends.source4 ends.destination4 6 whole) part
    else if protocol == 17 then udp_moved (pseudo6 ends.source6 ends.destination6 17 whole) (pseudo4 ends.source4 ends.destination4 17 whole) part
    else if protocol == 58 then echo_to_4 (pseudo6 ends.source6 ends.destination6 58 whole) part
    else part

-- The bytes of a fragment on the other side, `sent` being their number as sent: the upper part begins in a whole packet
-- and in a first fragment, and a later fragment keeps its bytes.
abbrev pub bytes_to_4 : Ends → (sent : ℕ) → Fragment → List ℕ
bytes_to_4 ends sent f = if f.offset == 0 then upper_to_4 f.common.protocol ends sent f.bytes else f.bytes

-- THE TRANSLATED PACKET

-- The translated fragment: the new header, and the bytes on the other side. `packet4` of it is the translated packet.
abbrev pub translated_to_4 : Head4 → (sent : ℕ) → Fragment → Fragment
translated_to_4 head sent f = record f { common = common_to_4 head f.common; id = head.id; bytes = bytes_to_4 (ends_to_4 head f.common) sent f }
