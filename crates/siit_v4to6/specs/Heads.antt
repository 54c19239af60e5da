-- The packet that `head46` makes, by its argument.
use Rattle.std.specs.Prelude.{ℕ, ◌-◌, []}
use Rattle.siit_model.specs.Fragments.{Fragment, fragment4}
use Rattle.siit_model.specs.Ipv4.{Ipv4Packet}
use Rattle.siit_model.specs.Ipv6.{Ipv6Packet}
use Rattle.siit_v4to6.specs.To6.{Head6, header_to_6, packet6}
use Rattle.siit_v4to6.specs.declared.fields.Head46.{Head46}

-- the new header of a fragment, one hop on
abbrev pub head6_for : Head46 → Fragment → Head6
head6_for to f = record {
  source = to.src.0;
  destination = to.dst.0;
  class = to.class;
  hop = f.common.hop - 1;
}

-- the packet of its IPv6 header alone
abbrev pub header_packet6 : Head6 → (next : ℕ) → Ipv6Packet
header_packet6 head next = record {
  class = head.class;
  flow = 0;
  hop = head.hop;
  source = head.source;
  destination = head.destination;
  next = next;
  body = [];
}

-- the packet with its new header, its payload as it is
abbrev pub headed_packet6 : Head46 → Ipv4Packet → Ipv6Packet
headed_packet6 to packet = let f = fragment4 packet in packet6 to.fragment (header_to_6 (head6_for to f) f)
