-- Packets read and written, as worked by hand.
use Rattle.std.specs.Prelude.{◌≡◌, ℕ, ◌^◌, ◌*◌, ◌+◌, List, [], ◌∷◌, ◌++◌, Some, None, true, false, Ok, Err, take, drop}
use Rattle.siit_model.specs.Checksum.{residue, moved, moved_udp, pseudo4, pseudo6}
use Rattle.siit_model.specs.Ipv4.{Ipv4Packet, ipv4_of, ipv4_bytes, is_short4, is_bad_header4, ipv4_fields}
use Rattle.siit_model.specs.Ipv6.{Ipv6Packet, ipv6_of, ipv6_bytes, ipv6_fields}
use Rattle.siit_model.specs.Extensions.{walk_of, runs_short, out_of_order, behind_fragment}

-- a TCP segment of 20 bytes
abbrev pub segment : List ℕ
segment = 0xc0 ∷ 0x00 ∷ 0x00 ∷ 0x50 ∷ 0x00 ∷ 0x00 ∷ 0x00 ∷ 0x01 ∷ 0x00 ∷ 0x00 ∷ 0x00 ∷ 0x00 ∷ 0x50 ∷ 0x02 ∷ 0x20 ∷ 0x00 ∷ 0xbd ∷ 0x7f ∷ 0x00 ∷ 0x00 ∷ []

-- that segment from 8.8.8.8 to 1.1.1.1
abbrev pub tcp_over_ipv4 : List ℕ
tcp_over_ipv4 =
    0x45 ∷ 0x00 ∷ 0x00 ∷ 0x28 ∷ 0x00 ∷ 0x01 ∷ 0x00 ∷ 0x00 ∷ 0x40 ∷ 0x06 ∷ 0x68 ∷ 0xbe ∷ 0x08 ∷ 0x08 ∷ 0x08 ∷ 0x08 ∷ 0x01 ∷ 0x01 ∷ 0x01 ∷ 0x01
    ∷ segment

abbrev pub tcp_packet4 : Ipv4Packet
tcp_packet4 = record {
  tos = 0;
  id = 1;
  df = 0;
  mf = 0;
  offset = 0;
  ttl = 64;
  protocol = 6;
  source = 0x08080808;
  destination = 0x01010101;
  options = [];
  payload = segment;
}

-- the same under the well-known prefix of RFC 6052
abbrev pub tcp_over_ipv6 : List ℕ
tcp_over_ipv6 =
    0x60 ∷ 0x00 ∷ 0x00 ∷ 0x00 ∷ 0x00 ∷ 0x14 ∷ 0x06 ∷ 0x3f
    ∷ 0x00 ∷ 0x64 ∷ 0xff ∷ 0x9b ∷ 0x00 ∷ 0x00 ∷ 0x00 ∷ 0x00 ∷ 0x00 ∷ 0x00 ∷ 0x00 ∷ 0x00 ∷ 0x08 ∷ 0x08 ∷ 0x08 ∷ 0x08
    ∷ 0x00 ∷ 0x64 ∷ 0xff ∷ 0x9b ∷ 0x00 ∷ 0x00 ∷ 0x00 ∷ 0x00 ∷ 0x00 ∷ 0x00 ∷ 0x00 ∷ 0x00 ∷ 0x01 ∷ 0x01 ∷ 0x01 ∷ 0x01
    ∷ segment

abbrev pub tcp_packet6 : Ipv6Packet
tcp_packet6 = record {
  class = 0;
  flow = 0;
  hop = 63;
  source = 0x0064ff9b * 2 ^ 96 + 0x08080808;
  destination = 0x0064ff9b * 2 ^ 96 + 0x01010101;
  next = 6;
  body = segment;
}

-- Don't Fragment, More and the offset of some bytes
abbrev pub FlagsOf : List ℕ → (df mf offset : ℕ) → Type 0
FlagsOf bytes df mf offset = ((ipv4_fields bytes).df ≡ df) × ((ipv4_fields bytes).mf ≡ mf) × ((ipv4_fields bytes).offset ≡ offset)

pub record PacketExamples : Type 0 where
  pub read4 : ipv4_of tcp_over_ipv4 ≡ Some tcp_packet4
  pub written4 : ipv4_bytes tcp_packet4 ≡ tcp_over_ipv4
  pub read6 : ipv6_of tcp_over_ipv6 ≡ Some tcp_packet6
  pub written6 : ipv6_bytes tcp_packet6 ≡ tcp_over_ipv6
  -- two bytes of link padding aren't read
  pub padded : ipv4_of (tcp_over_ipv4 ++ 0 ∷ 0 ∷ []) ≡ Some tcp_packet4
  -- nine bytes are short, a version of 6 is no IPv4, nor is a wrong header checksum
  pub short : is_short4 (0x45 ∷ 0 ∷ 0 ∷ 9 ∷ 0 ∷ 0 ∷ 0 ∷ 0 ∷ 0 ∷ []) ≡ true
  pub version : is_short4 tcp_over_ipv6 ≡ false
  pub bad_version : is_bad_header4 tcp_over_ipv6 ≡ true
  pub bad_checksum : is_bad_header4 (take 10 tcp_over_ipv4 ++ 0x68 ∷ 0xbf ∷ drop 12 tcp_over_ipv4) ≡ true
  -- the reserved flag, More and an offset; then Don't Fragment alone
  pub fragment : FlagsOf (take 6 tcp_over_ipv4 ++ 0xa0 ∷ 0x05 ∷ drop 8 tcp_over_ipv4) 0 1 5
  pub unbroken : FlagsOf (take 6 tcp_over_ipv4 ++ 0x40 ∷ 0x00 ∷ drop 8 tcp_over_ipv4) 1 0 0
  -- a traffic class and a flow label share a word with the version
  pub class : (ipv6_fields (0x6a ∷ 0xbc ∷ 0xde ∷ 0xf1 ∷ drop 4 tcp_over_ipv6)).class ≡ 0xab
  pub flow : (ipv6_fields (0x6a ∷ 0xbc ∷ 0xde ∷ 0xf1 ∷ drop 4 tcp_over_ipv6)).flow ≡ 0xcdef1

pub record ChecksumExamples : Type 0 where
  -- the checksum of the segment is right under both pseudo-headers, since the prefix's words sum to 65535
  pub right4 : (pseudo4 0x08080808 0x01010101 6 20 + residue segment) ≡ 65535
  pub same : pseudo6 (0x0064ff9b * 2 ^ 96 + 0x08080808) (0x0064ff9b * 2 ^ 96 + 0x01010101) 6 20 ≡ pseudo4 0x08080808 0x01010101 6 20
  -- ffff becomes 0000 for TCP and stays for UDP
  pub tcp_ones : moved 0xffff 7 7 ≡ 0
  pub udp_ones : moved_udp 0xffff 7 7 ≡ 0xffff
  -- addresses that sum to d211 become ones that sum to a22e: fd7f is moved to 2d63, and the wrong 1234 to 4217
  pub moved_right : moved 0xfd7f 0xd211 0xa22e ≡ 0x2d63
  pub moved_wrong : moved 0x1234 0xd211 0xa22e ≡ 0x4217
  pub moved_back : moved 0x4217 0xa22e 0xd211 ≡ 0x1234

pub record WalkExamples : Type 0 where
  -- no extension header
  pub none : walk_of 6 segment ≡ Ok (record { upper = 6; at = 0; fragment = None; segments = None })
  -- a Routing header of 8 bytes with Segments Left 1
  pub routing : walk_of 43 (6 ∷ 0 ∷ 0 ∷ 1 ∷ 0 ∷ 0 ∷ 0 ∷ 0 ∷ segment) ≡ Ok (record { upper = 6; at = 8; fragment = None; segments = Some 43 })
  -- a Fragment header behind Hop-by-Hop Options: offset 2 units, More, identification 0xabcd
  pub fragment : walk_of 0 (44 ∷ 0 ∷ 1 ∷ 4 ∷ 0 ∷ 0 ∷ 0 ∷ 0 ∷ 17 ∷ 0 ∷ 0 ∷ 17 ∷ 0 ∷ 0 ∷ 0xab ∷ 0xcd ∷ [])
      ≡ Ok (record { upper = 17; at = 16; fragment = Some (record { offset = 2; more = true; id = 0xabcd }); segments = None })
  pub short : walk_of 60 (6 ∷ 1 ∷ 0 ∷ 0 ∷ 0 ∷ 0 ∷ 0 ∷ 0 ∷ []) ≡ Err runs_short
  pub order : walk_of 60 (0 ∷ 0 ∷ 0 ∷ 0 ∷ 0 ∷ 0 ∷ 0 ∷ 0 ∷ segment) ≡ Err out_of_order
  pub behind : walk_of 44 (51 ∷ 0 ∷ 0 ∷ 0 ∷ 0 ∷ 0 ∷ 0 ∷ 0 ∷ segment) ≡ Err behind_fragment
