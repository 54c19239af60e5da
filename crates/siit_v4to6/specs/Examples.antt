-- Packets translated, as worked by hand: bytes to bytes.
use Rattle.std.specs.Prelude.{◌≡◌, ℕ, ◌*◌, ◌+◌, ◌-◌, ◌^◌, List, [], ◌∷◌, ◌++◌, length, take, drop, replicate, Bool, true, false, Option, Some, option_map}
use Rattle.siit_model.specs.Bytes.{bytes16}
use Rattle.siit_model.specs.Fragments.{Fragment, fragment4}
use Rattle.siit_model.specs.Ipv4.{ipv4_of, ipv4_fields}
use Rattle.siit_model.specs.Ipv6.{ipv6_bytes, ipv6_bytes_as}
use Rattle.siit_v4to6.specs.To6.{Head6, packet6, translated_to_6, udp_checksum6}

-- the header between two addresses, one hop on
abbrev head_of : (source destination : ℕ) → Fragment → Head6
head_of source destination f = record {
  source = source;
  destination = destination;
  class = f.common.class;
  hop = f.common.hop - 1;
}

-- the bytes of the translated packet of some bytes
abbrev image_with : (asked : Bool) → (source destination : ℕ) → List ℕ → Option (List ℕ)
image_with asked source destination bytes =
    option_map
    (λ packet. let f = fragment4 packet in ipv6_bytes (packet6 asked (translated_to_6 (head_of source destination f) (length f.bytes) f)))
    (ipv4_of bytes)

abbrev image : (source destination : ℕ) → List ℕ → Option (List ℕ)
image source destination bytes = image_with false source destination bytes

-- 8.8.8.8 under the well-known prefix, and the address of 192.0.2.1 by an explicit mapping
abbrev eights6 : ℕ
eights6 = 0x0064ff9b * 2 ^ 96 + 0x08080808

abbrev server6 : ℕ
server6 = 0x20010db864640000 * 2 ^ 64 + 1

-- a TCP segment with this checksum
abbrev segment : ℕ → List ℕ
segment checksum =
    0xc0 ∷ 0x00 ∷ 0x00 ∷ 0x50 ∷ 0x00 ∷ 0x00 ∷ 0x00 ∷ 0x01 ∷ 0x00 ∷ 0x00 ∷ 0x00 ∷ 0x00 ∷ 0x50 ∷ 0x02 ∷ 0x20 ∷ 0x00
    ∷ bytes16 checksum ++ 0x00 ∷ 0x00 ∷ []

-- it, from 8.8.8.8 to 192.0.2.1 with DF set
abbrev arriving : ℕ → List ℕ
arriving checksum =
    0x45 ∷ 0x00 ∷ 0x00 ∷ 0x28 ∷ 0x00 ∷ 0x01 ∷ 0x40 ∷ 0x00 ∷ 0x40 ∷ 0x06 ∷ 0x68 ∷ 0xbe ∷ 0x08 ∷ 0x08 ∷ 0x08 ∷ 0x08 ∷ 0xc0 ∷ 0x00 ∷ 0x02 ∷ 0x01
    ∷ segment checksum

abbrev leaving : ℕ → List ℕ
leaving checksum =
    0x60 ∷ 0x00 ∷ 0x00 ∷ 0x00 ∷ 0x00 ∷ 0x14 ∷ 0x06 ∷ 0x3f
    ∷ 0x00 ∷ 0x64 ∷ 0xff ∷ 0x9b ∷ 0x00 ∷ 0x00 ∷ 0x00 ∷ 0x00 ∷ 0x00 ∷ 0x00 ∷ 0x00 ∷ 0x00 ∷ 0x08 ∷ 0x08 ∷ 0x08 ∷ 0x08
    ∷ 0x20 ∷ 0x01 ∷ 0x0d ∷ 0xb8 ∷ 0x64 ∷ 0x64 ∷ 0x00 ∷ 0x00 ∷ 0x00 ∷ 0x00 ∷ 0x00 ∷ 0x00 ∷ 0x00 ∷ 0x00 ∷ 0x00 ∷ 0x01
    ∷ segment checksum

pub record TcpExamples : Type 0 where
  -- a right checksum is moved, and a wrong one stays wrong by as much
  pub right : image eights6 server6 (arriving 0xfd7f) ≡ Some (leaving 0x2d63)
  pub wrong : image eights6 server6 (arriving 0x1234) ≡ Some (leaving 0x4217)

-- 1.1.1.1 under the well-known prefix, whose own words sum to 65535
abbrev ones6 : ℕ
ones6 = 0x0064ff9b * 2 ^ 96 + 0x01010101

-- from 8.8.8.8 to 1.1.1.1, with a header checksum
abbrev header4 : (total protocol checksum : ℕ) → List ℕ
header4 total protocol checksum =
    0x45 ∷ 0x00 ∷ bytes16 total ++ 0x00 ∷ 0x01 ∷ 0x00 ∷ 0x00 ∷ 0x40 ∷ protocol ∷ bytes16 checksum
    ++ 0x08 ∷ 0x08 ∷ 0x08 ∷ 0x08 ∷ 0x01 ∷ 0x01 ∷ 0x01 ∷ 0x01 ∷ []

abbrev header6 : (len next : ℕ) → List ℕ
header6 len next =
    0x60 ∷ 0x00 ∷ 0x00 ∷ 0x00 ∷ bytes16 len ++ next ∷ 0x3f
    ∷ 0x00 ∷ 0x64 ∷ 0xff ∷ 0x9b ∷ 0x00 ∷ 0x00 ∷ 0x00 ∷ 0x00 ∷ 0x00 ∷ 0x00 ∷ 0x00 ∷ 0x00 ∷ 0x08 ∷ 0x08 ∷ 0x08 ∷ 0x08
    ∷ 0x00 ∷ 0x64 ∷ 0xff ∷ 0x9b ∷ 0x00 ∷ 0x00 ∷ 0x00 ∷ 0x00 ∷ 0x00 ∷ 0x00 ∷ 0x00 ∷ 0x00 ∷ 0x01 ∷ 0x01 ∷ 0x01 ∷ 0x01 ∷ []

-- a UDP datagram of 10 bytes with a checksum
abbrev datagram : ℕ → List ℕ
datagram checksum = 0xc0 ∷ 0x00 ∷ 0x00 ∷ 0x35 ∷ 0x00 ∷ 0x0a ∷ bytes16 checksum ++ 0xde ∷ 0xad ∷ []

-- an ICMP echo message of a type, with a checksum
abbrev echo : (kind checksum : ℕ) → List ℕ
echo kind checksum = kind ∷ 0x00 ∷ bytes16 checksum ++ 0x12 ∷ 0x34 ∷ 0x00 ∷ 0x01 ∷ 0x61 ∷ 0x62 ∷ 0x63 ∷ 0x64 ∷ []

pub record OnesExamples : Type 0 where
  -- between equal sums a TCP checksum of all ones is written as 0, and a UDP checksum of all ones stays
  pub tcp : image eights6 ones6 (header4 40 6 0x68be ++ segment 0xffff) ≡ Some (header6 20 6 ++ segment 0x0000)
  pub udp : image eights6 ones6 (header4 30 17 0x68bd ++ datagram 0xffff) ≡ Some (header6 10 17 ++ datagram 0xffff)
  -- a UDP checksum of 0 stays
  pub none : image eights6 ones6 (header4 30 17 0x68bd ++ datagram 0x0000) ≡ Some (header6 10 17 ++ datagram 0x0000)

pub record EchoExamples : Type 0 where
  pub request : image eights6 ones6 (header4 32 1 0x68cb ++ echo 8 0x2104) ≡ Some (header6 12 58 ++ echo 128 0x96ab)
  pub reply : image eights6 ones6 (header4 32 1 0x68cb ++ echo 0 0x2904) ≡ Some (header6 12 58 ++ echo 129 0x95ab)
  -- of three bytes the type changes, and half a checksum stays
  pub cut : image eights6 ones6 (header4 23 1 0x68d4 ++ 8 ∷ 0 ∷ 0x21 ∷ []) ≡ Some (header6 3 58 ++ 128 ∷ 0 ∷ 0x21 ∷ [])

-- a fragment of a TCP segment, from 8.8.8.8 to 192.0.2.1, with identification 0102, and with flags, offset and a header
-- checksum
abbrev fragment_of : (total shape checksum : ℕ) → List ℕ → List ℕ
fragment_of total shape checksum bytes =
    0x45 ∷ 0x00 ∷ bytes16 total ++ 0x01 ∷ 0x02 ∷ bytes16 shape ++ 0x40 ∷ 0x06 ∷ bytes16 checksum
    ++ 0x08 ∷ 0x08 ∷ 0x08 ∷ 0x08 ∷ 0xc0 ∷ 0x00 ∷ 0x02 ∷ 0x01 ∷ bytes

-- the header of its IPv6 packet, and a Fragment header with the low bytes of the offset's word
abbrev fragment_headers : (len shape id : ℕ) → List ℕ → List ℕ
fragment_headers len shape id bytes =
    0x60 ∷ 0x00 ∷ 0x00 ∷ 0x00 ∷ bytes16 len ++ 0x2c ∷ 0x3f
    ∷ 0x00 ∷ 0x64 ∷ 0xff ∷ 0x9b ∷ 0x00 ∷ 0x00 ∷ 0x00 ∷ 0x00 ∷ 0x00 ∷ 0x00 ∷ 0x00 ∷ 0x00 ∷ 0x08 ∷ 0x08 ∷ 0x08 ∷ 0x08
    ∷ 0x20 ∷ 0x01 ∷ 0x0d ∷ 0xb8 ∷ 0x64 ∷ 0x64 ∷ 0x00 ∷ 0x00 ∷ 0x00 ∷ 0x00 ∷ 0x00 ∷ 0x00 ∷ 0x00 ∷ 0x00 ∷ 0x00 ∷ 0x01
    ∷ 0x06 ∷ 0x00 ∷ bytes16 shape ++ 0x00 ∷ 0x00 ∷ bytes16 id ++ bytes

-- a segment of 800 bytes that goes on in further fragments
abbrev long_segment : ℕ → List ℕ
long_segment checksum = segment checksum ++ replicate 780 7

-- a quoted packet, sent with 20 bytes behind its header
abbrev quoted_image : Fragment → List ℕ
quoted_image f =
    ipv6_bytes_as 20 (packet6 false (translated_to_6 (record (head_of eights6 server6 f) { hop = f.common.hop }) 20 f))

pub record FragmentExamples : Type 0 where
  -- the first fragment, at 0 with More: its checksum is moved, whatever the length of the whole segment is
  pub first : image eights6 server6 (fragment_of 820 0x2000 0x84b1 (long_segment 0xfd7f))
      ≡ Some (fragment_headers 808 0x0001 0x0102 (long_segment 0x2d63))
  -- the last, at 1,600: its bytes stay
  pub last : image eights6 server6 (fragment_of 220 0x00c8 0xa641 (replicate 200 7))
      ≡ Some (fragment_headers 208 0x0640 0x0102 (replicate 200 7))
  -- a whole packet gets a Fragment header where one is asked for
  pub asked : image_with true eights6 server6 (arriving 0xfd7f) ≡ Some (fragment_headers 28 0x0000 0x0001 (segment 0x2d63))
  -- of a quoted packet of 40 bytes 38 are there: the length is that of the packet as sent, and the TTL is copied
  pub quoted : quoted_image (fragment4 (ipv4_fields (take 38 (arriving 0xfd7f))))
      ≡ take 58 (0x60 ∷ 0x00 ∷ 0x00 ∷ 0x00 ∷ 0x00 ∷ 0x14 ∷ 0x06 ∷ 0x40 ∷ drop 8 (leaving 0x2d63))

pub record UdpSumExamples : Type 0 where
  -- of an even and of an odd length, whatever the checksum field holds
  pub even : udp_checksum6 eights6 ones6 (datagram 0x1234) ≡ 0x4ee5
  pub odd : udp_checksum6 eights6 ones6 (0xc0 ∷ 0x00 ∷ 0x00 ∷ 0x35 ∷ 0x00 ∷ 0x09 ∷ 0x00 ∷ 0x00 ∷ 0xde ∷ []) ≡ 0x4f94
  -- a sum of all ones
  pub ones : udp_checksum6 eights6 ones6 (0xc0 ∷ 0x00 ∷ 0x00 ∷ 0x35 ∷ 0x00 ∷ 0x0a ∷ 0x00 ∷ 0x00 ∷ 0x2d ∷ 0x93 ∷ []) ≡ 0xffff
