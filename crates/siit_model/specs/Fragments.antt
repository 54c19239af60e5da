-- Fragments of a datagram (RFC 791 section 3.2, RFC 8200 section 4.5), and the packets of both families as fragments. A
-- whole packet counts as the one fragment of its datagram.
use Rattle.std.specs.Prelude.{ℕ, ◌==◌, List, [], ◌++◌, drop, Bool, false, not, ◌&&◌, Option, Some, None, Result, Ok, Err}
use Rattle.siit_model.specs.Bytes.{flag_bit}
use Rattle.siit_model.specs.Extensions.{FragmentFields, Walked, Trouble, fragment_header, walk_of}
use Rattle.siit_model.specs.Ipv4.{Ipv4Packet}
use Rattle.siit_model.specs.Ipv6.{Ipv6Packet}

-- What the fragments of a datagram have in common: TOS octet or traffic class, TTL or hop limit, upper protocol and
-- addresses.
pub record Common : Type 0 where
  pub class : ℕ
  pub hop : ℕ
  pub protocol : ℕ
  pub source : ℕ
  pub destination : ℕ

-- The datagram that they are joined to. Its payload is an upper part.
pub record Datagram : Type 0 where
  pub common : Common
  pub payload : List ℕ

-- The offset counts units of 8 bytes; `more` is the flag More Fragments.
pub record Fragment : Type 0 where
  pub common : Common
  pub id : ℕ
  pub offset : ℕ
  pub more : Bool
  pub bytes : List ℕ

-- no fragment at all
abbrev pub is_whole : Fragment → Bool
is_whole f = (f.offset == 0) && not f.more

-- the datagram as one whole packet
abbrev pub whole_of : Datagram → Fragment
whole_of d = record { common = d.common; id = 0; offset = 0; more = false; bytes = d.payload }

abbrev pub common4 : Ipv4Packet → Common
common4 packet = record {
  class = packet.tos;
  hop = packet.ttl;
  protocol = packet.protocol;
  source = packet.source;
  destination = packet.destination;
}

-- the datagram of a whole packet
abbrev pub datagram4 : Ipv4Packet → Datagram
datagram4 packet = record { common = common4 packet; payload = packet.payload }

abbrev pub fragment4 : Ipv4Packet → Fragment
fragment4 packet = record {
  common = common4 packet;
  id = packet.id;
  offset = packet.offset;
  more = packet.mf == 1;
  bytes = packet.payload;
}

-- the IPv4 packet of a fragment, without options
abbrev pub packet4 : (df : ℕ) → Fragment → Ipv4Packet
packet4 df f = record {
  tos = f.common.class;
  id = f.id;
  df = df;
  mf = flag_bit f.more;
  offset = f.offset;
  ttl = f.common.hop;
  protocol = f.common.protocol;
  source = f.common.source;
  destination = f.common.destination;
  options = [];
  payload = f.bytes;
}

-- what a Fragment header says, or that there is none: the packet is whole, and its identification is 0
abbrev pub fields_in : Option FragmentFields → FragmentFields
fields_in None = record { offset = 0; more = false; id = 0 }
fields_in (Some fields) = fields

-- the fragment in an IPv6 packet, by the walk over its extension headers
abbrev pub fragment_by : Ipv6Packet → Walked → Fragment
fragment_by packet walked = record {
  common = record {
    class = packet.class;
    hop = packet.hop;
    protocol = walked.upper;
    source = packet.source;
    destination = packet.destination;
  };
  id = (fields_in walked.fragment).id;
  offset = (fields_in walked.fragment).offset;
  more = (fields_in walked.fragment).more;
  bytes = drop walked.at packet.body;
}

abbrev pub fragment_if : Ipv6Packet → Result Walked Trouble → Option Fragment
fragment_if packet (Ok walked) = Some (fragment_by packet walked)
fragment_if packet (Err trouble) = None

-- none where its walk has a trouble
abbrev pub fragment6 : Ipv6Packet → Option Fragment
fragment6 packet = fragment_if packet (walk_of packet.next packet.body)

abbrev pub fields_of : Fragment → FragmentFields
fields_of f = record { offset = f.offset; more = f.more; id = f.id }

-- a packet without extension headers, of a fragment that is whole
abbrev pub plain_packet6 : Fragment → Ipv6Packet
plain_packet6 f = record {
  class = f.common.class;
  flow = 0;
  hop = f.common.hop;
  source = f.common.source;
  destination = f.common.destination;
  next = f.common.protocol;
  body = f.bytes;
}

-- the packet of a fragment, a Fragment header being its one extension header
abbrev pub fragment_packet6 : Fragment → Ipv6Packet
fragment_packet6 f = record {
  class = f.common.class;
  flow = 0;
  hop = f.common.hop;
  source = f.common.source;
  destination = f.common.destination;
  next = 44;
  body = fragment_header f.common.protocol (fields_of f) ++ f.bytes;
}
