-- Packets translated, as worked by hand: bytes to bytes.
use Rattle.std.specs.Prelude.{◌≡◌, ℕ, ◌+◌, ◌-◌, List, [], ◌∷◌, ◌++◌, length, take, drop, replicate, false, Option, Some, None, option_and_then}
use Rattle.std.specs.Result.{result_ok}
use Rattle.siit_model.specs.Bytes.{bytes16}
use Rattle.siit_model.specs.Extensions.{Walked, walk_of}
use Rattle.siit_model.specs.Fragments.{fragment_by, packet4}
use Rattle.siit_model.specs.Ipv4.{ipv4_bytes, ipv4_bytes_as}
use Rattle.siit_model.specs.Ipv6.{Ipv6Packet, ipv6_of, ipv6_fields}
use Rattle.siit_v6to4.specs.To4.{Head4, translated_to_4, df_of, df_for, identification}

-- the header between two addresses, one hop on, with a number that is handed in
abbrev head_of : (source destination number : ℕ) → Walked → Ipv6Packet → Head4
head_of source destination number walked packet = record {
  source = source;
  destination = destination;
  tos = packet.class;
  ttl = packet.hop - 1;
  id = identification walked.fragment number;
}

abbrev translated : (source destination number : ℕ) → Ipv6Packet → Walked → List ℕ
translated source destination number packet walked =
    let f = fragment_by packet walked in
    ipv4_bytes (packet4 (df_for walked.fragment (20 + length f.bytes)) (translated_to_4 (head_of source destination number walked packet) (length f.bytes) f))

-- the bytes of the translated packet of some bytes
abbrev image : (source destination number : ℕ) → List ℕ → Option (List ℕ)
image source destination number bytes =
    option_and_then
    (λ packet. option_and_then (λ walked. Some (translated source destination number packet walked)) (result_ok (walk_of packet.next packet.body)))
    (ipv6_of bytes)

-- a TCP segment with this checksum
abbrev segment : ℕ → List ℕ
segment checksum =
    0xc0 ∷ 0x00 ∷ 0x00 ∷ 0x50 ∷ 0x00 ∷ 0x00 ∷ 0x00 ∷ 0x01 ∷ 0x00 ∷ 0x00 ∷ 0x00 ∷ 0x00 ∷ 0x50 ∷ 0x02 ∷ 0x20 ∷ 0x00
    ∷ bytes16 checksum ++ 0x00 ∷ 0x00 ∷ []

abbrev arriving : ℕ → List ℕ
arriving checksum =
    0x60 ∷ 0x00 ∷ 0x00 ∷ 0x00 ∷ 0x00 ∷ 0x14 ∷ 0x06 ∷ 0x3f
    ∷ 0x00 ∷ 0x64 ∷ 0xff ∷ 0x9b ∷ 0x00 ∷ 0x00 ∷ 0x00 ∷ 0x00 ∷ 0x00 ∷ 0x00 ∷ 0x00 ∷ 0x00 ∷ 0x08 ∷ 0x08 ∷ 0x08 ∷ 0x08
    ∷ 0x20 ∷ 0x01 ∷ 0x0d ∷ 0xb8 ∷ 0x64 ∷ 0x64 ∷ 0x00 ∷ 0x00 ∷ 0x00 ∷ 0x00 ∷ 0x00 ∷ 0x00 ∷ 0x00 ∷ 0x00 ∷ 0x00 ∷ 0x01
    ∷ segment checksum

-- from 8.8.8.8 to 192.0.2.1, identification 1, DF clear since 40 bytes are at most 1,260
abbrev leaving : ℕ → List ℕ
leaving checksum =
    0x45 ∷ 0x00 ∷ 0x00 ∷ 0x28 ∷ 0x00 ∷ 0x01 ∷ 0x00 ∷ 0x00 ∷ 0x3e ∷ 0x06 ∷ 0xaa ∷ 0xbe ∷ 0x08 ∷ 0x08 ∷ 0x08 ∷ 0x08 ∷ 0xc0 ∷ 0x00 ∷ 0x02 ∷ 0x01
    ∷ segment checksum

pub record TcpExamples : Type 0 where
  -- a right checksum is moved, and a wrong one stays wrong by as much
  pub right : image 0x08080808 0xc0000201 1 (arriving 0x2d63) ≡ Some (leaving 0xfd7f)
  pub wrong : image 0x08080808 0xc0000201 1 (arriving 0x4217) ≡ Some (leaving 0x1234)

-- from 8.8.8.8 to 1.1.1.1 under the well-known prefix, whose own words sum to 65535
abbrev header6 : (len next : ℕ) → List ℕ
header6 len next =
    0x60 ∷ 0x00 ∷ 0x00 ∷ 0x00 ∷ bytes16 len ++ next ∷ 0x40
    ∷ 0x00 ∷ 0x64 ∷ 0xff ∷ 0x9b ∷ 0x00 ∷ 0x00 ∷ 0x00 ∷ 0x00 ∷ 0x00 ∷ 0x00 ∷ 0x00 ∷ 0x00 ∷ 0x08 ∷ 0x08 ∷ 0x08 ∷ 0x08
    ∷ 0x00 ∷ 0x64 ∷ 0xff ∷ 0x9b ∷ 0x00 ∷ 0x00 ∷ 0x00 ∷ 0x00 ∷ 0x00 ∷ 0x00 ∷ 0x00 ∷ 0x00 ∷ 0x01 ∷ 0x01 ∷ 0x01 ∷ 0x01 ∷ []

-- the same without the prefix, with identification 1 and a header checksum
abbrev header4 : (total protocol checksum : ℕ) → List ℕ
header4 total protocol checksum =
    0x45 ∷ 0x00 ∷ bytes16 total ++ 0x00 ∷ 0x01 ∷ 0x00 ∷ 0x00 ∷ 0x3f ∷ protocol ∷ bytes16 checksum
    ++ 0x08 ∷ 0x08 ∷ 0x08 ∷ 0x08 ∷ 0x01 ∷ 0x01 ∷ 0x01 ∷ 0x01 ∷ []

-- the packet from 8.8.8.8 to 1.1.1.1
abbrev plain_image : List ℕ → Option (List ℕ)
plain_image bytes = image 0x08080808 0x01010101 1 bytes

-- a UDP datagram of 10 bytes with a checksum
abbrev datagram : ℕ → List ℕ
datagram checksum = 0xc0 ∷ 0x00 ∷ 0x00 ∷ 0x35 ∷ 0x00 ∷ 0x0a ∷ bytes16 checksum ++ 0xde ∷ 0xad ∷ []

-- an ICMP echo message of a type, with a checksum
abbrev echo : (kind checksum : ℕ) → List ℕ
echo kind checksum = kind ∷ 0x00 ∷ bytes16 checksum ++ 0x12 ∷ 0x34 ∷ 0x00 ∷ 0x01 ∷ 0x61 ∷ 0x62 ∷ 0x63 ∷ 0x64 ∷ []

-- Hop-by-Hop Options of 8 bytes before another header
abbrev options : ℕ → List ℕ
options next = next ∷ 0x00 ∷ 0x01 ∷ 0x04 ∷ 0x00 ∷ 0x00 ∷ 0x00 ∷ 0x00 ∷ []

pub record OnesExamples : Type 0 where
  -- between equal sums a TCP checksum of all ones is written as 0, and a UDP checksum of all ones stays
  pub tcp : plain_image (header6 20 6 ++ segment 0xffff) ≡ Some (header4 40 6 0x69be ++ segment 0x0000)
  pub udp : plain_image (header6 10 17 ++ datagram 0xffff) ≡ Some (header4 30 17 0x69bd ++ datagram 0xffff)
  -- a UDP checksum of 0 stays
  pub none : plain_image (header6 10 17 ++ datagram 0x0000) ≡ Some (header4 30 17 0x69bd ++ datagram 0x0000)

pub record EchoExamples : Type 0 where
  pub request : plain_image (header6 12 58 ++ echo 128 0x96ab) ≡ Some (header4 32 1 0x69cb ++ echo 8 0x2104)
  pub reply : plain_image (header6 12 58 ++ echo 129 0x95ab) ≡ Some (header4 32 1 0x69cb ++ echo 0 0x2904)
  -- of three bytes the type changes, and half a checksum stays
  pub cut : plain_image (header6 3 58 ++ 128 ∷ 0 ∷ 0x21 ∷ []) ≡ Some (header4 23 1 0x69d4 ++ 8 ∷ 0 ∷ 0x21 ∷ [])

pub record HeaderExamples : Type 0 where
  -- extension headers are gone
  pub passed : plain_image (header6 18 0 ++ options 17 ++ datagram 0x0000) ≡ Some (header4 30 17 0x69bd ++ datagram 0x0000)
  -- a packet of at most 1,260 bytes may be cut on its way
  pub short : df_of 1260 ≡ 0
  pub long : df_of 1261 ≡ 1

-- a fragment of a TCP segment behind a Fragment header, from 8.8.8.8 under the well-known prefix to the address of
-- 192.0.2.1
abbrev fragment_headers : (len shape id : ℕ) → List ℕ → List ℕ
fragment_headers len shape id bytes =
    0x60 ∷ 0x00 ∷ 0x00 ∷ 0x00 ∷ bytes16 len ++ 0x2c ∷ 0x3f
    ∷ 0x00 ∷ 0x64 ∷ 0xff ∷ 0x9b ∷ 0x00 ∷ 0x00 ∷ 0x00 ∷ 0x00 ∷ 0x00 ∷ 0x00 ∷ 0x00 ∷ 0x00 ∷ 0x08 ∷ 0x08 ∷ 0x08 ∷ 0x08
    ∷ 0x20 ∷ 0x01 ∷ 0x0d ∷ 0xb8 ∷ 0x64 ∷ 0x64 ∷ 0x00 ∷ 0x00 ∷ 0x00 ∷ 0x00 ∷ 0x00 ∷ 0x00 ∷ 0x00 ∷ 0x00 ∷ 0x00 ∷ 0x01
    ∷ 0x06 ∷ 0x00 ∷ bytes16 shape ++ 0xab ∷ 0xcd ∷ bytes16 id ++ bytes

-- the same from 8.8.8.8 to 192.0.2.1, with identification 0102
abbrev fragment_of : (total shape checksum : ℕ) → List ℕ → List ℕ
fragment_of total shape checksum bytes =
    0x45 ∷ 0x00 ∷ bytes16 total ++ 0x01 ∷ 0x02 ∷ bytes16 shape ++ 0x3e ∷ 0x06 ∷ bytes16 checksum
    ++ 0x08 ∷ 0x08 ∷ 0x08 ∷ 0x08 ∷ 0xc0 ∷ 0x00 ∷ 0x02 ∷ 0x01 ∷ bytes

-- a segment of 800 bytes that goes on in further fragments
abbrev long_segment : ℕ → List ℕ
long_segment checksum = segment checksum ++ replicate 780 7

-- a quoted packet without extension headers, sent with 20 bytes behind its header
abbrev quoted_image : Ipv6Packet → List ℕ
quoted_image packet =
    let walked : Walked = record { upper = packet.next; at = 0; fragment = None; segments = None } in
    ipv4_bytes_as 40 (packet4 (df_for None 40) (translated_to_4 (record (head_of 0x08080808 0xc0000201 0 walked packet) { ttl = packet.hop }) 20 (fragment_by packet walked)))

pub record FragmentExamples : Type 0 where
  -- the first fragment, at 0 with More: its checksum is moved, whatever the length of the whole segment is
  pub first : image 0x08080808 0xc0000201 1 (fragment_headers 808 0x0001 0x0102 (long_segment 0x2d63))
      ≡ Some (fragment_of 820 0x2000 0x86b1 (long_segment 0xfd7f))
  -- the last, at 1,600: its bytes stay, and the high bits of the identification are gone
  pub last : image 0x08080808 0xc0000201 1 (fragment_headers 208 0x0640 0x0102 (replicate 200 7))
      ≡ Some (fragment_of 220 0x00c8 0xa841 (replicate 200 7))
  -- a whole packet of more than 1,260 bytes that had a Fragment header may be cut
  pub may_be_cut : df_for (Some (record { offset = 0; more = false; id = 1 })) 1261 ≡ 0
  -- of a quoted packet of 60 bytes 58 are there: the length is that of the packet as sent, and the hop limit is copied
  pub quoted : quoted_image (ipv6_fields (take 58 (arriving 0x2d63)))
      ≡ take 38 (0x45 ∷ 0x00 ∷ 0x00 ∷ 0x28 ∷ 0x00 ∷ 0x00 ∷ 0x00 ∷ 0x00 ∷ 0x3f ∷ 0x06 ∷ 0xa9 ∷ 0xbf ∷ drop 12 (leaving 0xfd7f))
