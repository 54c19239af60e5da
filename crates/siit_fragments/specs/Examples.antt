-- Pieces and plans as worked by hand (RFC 791 section 3.2, RFC 8200 section 4.5).
use Rattle.std.specs.Prelude.{◌≡◌, ℕ, List, [], ◌∷◌, length, map, take, replicate, true, false, Some}
use Rattle.siit_model.specs.Bytes.{field16}
use Rattle.siit_model.specs.Ipv4.{Ipv4Packet, ipv4_bytes, total_length4}
use Rattle.siit_model.specs.Fragments.{Common, Fragment, fragment6, fragment_packet6}
use Rattle.siit_fragments.specs.Pieces.{blocks_of, pieces_of, pieces4}
use Rattle.siit_fragments.specs.Plans.{piece_bytes, plan_of}

abbrev udp_from : Common
udp_from = record { class = 0; hop = 63; protocol = 17; source = 1; destination = 2 }

-- UDP of 1,480 bytes
abbrev long_udp : Fragment
long_udp = record { common = udp_from; id = 0xabcd; offset = 0; more = false; bytes = replicate 1480 7 }

-- an IPv4 packet with a payload of 1,240 bytes
abbrev long_packet : Ipv4Packet
long_packet = record {
  tos = 0;
  id = 5;
  df = 0;
  mf = 0;
  offset = 0;
  ttl = 62;
  protocol = 6;
  source = 1;
  destination = 2;
  options = [];
  payload = replicate 1240 7;
}

-- a later fragment with more behind it
abbrev middle : Fragment
middle = record { common = udp_from; id = 0x0102; offset = 200; more = true; bytes = replicate 200 7 }

-- an IPv4 packet whose reserved bit is set (RFC 791 section 3.1), with a payload of 32 bytes
abbrev odd_packet : List ℕ
odd_packet =
    0x45 ∷ 0x00 ∷ 0x00 ∷ 0x34 ∷ 0x12 ∷ 0x34 ∷ 0x80 ∷ 0x00 ∷ 0x40 ∷ 0x11 ∷ 0xd4 ∷ 0x82 ∷ 10 ∷ 0 ∷ 0 ∷ 1 ∷ 10 ∷ 0 ∷ 0 ∷ 2 ∷ replicate 32 7

-- each piece's payload length and Fragment header, behind an IPv6 header
abbrev heads6 : List Fragment → List (ℕ × List ℕ)
heads6 pieces = map (λ f. (length (fragment_packet6 f).body, take 8 (fragment_packet6 f).body)) pieces

-- each piece's total length, and its word of flags and offset
abbrev heads4 : List Ipv4Packet → List (ℕ × ℕ)
heads4 pieces = map (λ p. (total_length4 p, field16 (ipv4_bytes p) 6)) pieces

pub record PieceExamples : Type 0 where
  -- for an MTU of 1,280, two pieces of 1,280 and 296 bytes
  pub plan6 : plan_of 1528 48 1280 ≡ record { header = 48; unit = 1232; count = 2 }
  pub to6 : heads6 (pieces_of (blocks_of 48 1280) long_udp)
      ≡ (1240, 0x11 ∷ 0x00 ∷ 0x00 ∷ 0x01 ∷ 0x00 ∷ 0x00 ∷ 0xab ∷ 0xcd ∷ [])
      ∷ (256, 0x11 ∷ 0x00 ∷ 0x04 ∷ 0xd0 ∷ 0x00 ∷ 0x00 ∷ 0xab ∷ 0xcd ∷ []) ∷ []
  -- for an MTU of 576, three pieces
  pub plan4 : plan_of 1260 20 576 ≡ record { header = 20; unit = 552; count = 3 }
  pub to4 : heads4 (pieces4 (blocks_of 20 576) long_packet) ≡ (572, 0x2000) ∷ (572, 0x2045) ∷ (156, 0x008a) ∷ []
  -- the pieces of a fragment that isn't the last all have more behind them
  pub more : map (λ f. f.more) (pieces_of 12 middle) ≡ true ∷ true ∷ true ∷ []
  pub offsets : map (λ f. f.offset) (pieces_of 12 middle) ≡ 200 ∷ 212 ∷ 224 ∷ []
  -- the reserved bit stays in each piece
  pub first : piece_bytes (plan_of 52 20 36) odd_packet 0
      ≡ 0x45 ∷ 0x00 ∷ 0x00 ∷ 0x24 ∷ 0x12 ∷ 0x34 ∷ 0xa0 ∷ 0x00 ∷ 0x40 ∷ 0x11 ∷ 0xb4 ∷ 0x92 ∷ 10 ∷ 0 ∷ 0 ∷ 1 ∷ 10 ∷ 0 ∷ 0 ∷ 2 ∷ replicate 16 7
  pub second : piece_bytes (plan_of 52 20 36) odd_packet 1
      ≡ 0x45 ∷ 0x00 ∷ 0x00 ∷ 0x24 ∷ 0x12 ∷ 0x34 ∷ 0x80 ∷ 0x02 ∷ 0x40 ∷ 0x11 ∷ 0xd4 ∷ 0x90 ∷ 10 ∷ 0 ∷ 0 ∷ 1 ∷ 10 ∷ 0 ∷ 0 ∷ 2 ∷ replicate 16 7
  -- a fragment is read in the packet that is made of it
  pub read : fragment6 (fragment_packet6 middle) ≡ Some middle
