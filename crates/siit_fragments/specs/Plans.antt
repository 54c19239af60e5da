-- How a packet is cut: the plan, and each piece's bytes (RFC 791 section 3.2, RFC 8200 section 4.5).
use Rattle.std.specs.Prelude.{◌≡◌, ◌⊎◌, ℕ, ◌+◌, ◌-◌, ◌*◌, ◌/◌, ◌%◌, ◌<◌, ◌≤◌, List, length, take, drop, ◌==◌, if◌then◌else◌}
use Rattle.siit_model.specs.Bytes.{field16, part}
use Rattle.siit_model.specs.Fragments.{Fragment, packet4, fragment_packet6}
use Rattle.siit_model.specs.Ipv4.{ipv4_bytes}
use Rattle.siit_model.specs.Ipv6.{ipv6_bytes}
use Rattle.siit_fragments.specs.Fronts.{fragment_word_on, fronted4, fronted6, word_on}
use Rattle.siit_fragments.specs.Pieces.{blocks_of, piece_count, piece_of}
use Rattle.siit_fragments.specs.declared.cut.CutPlan.{CutPlan}

abbrev pub plan_of : (total header mtu : ℕ) → CutPlan
plan_of total header mtu = record {
  header = header;
  unit = 8 * blocks_of header mtu;
  count = piece_count (blocks_of header mtu) (total - header);
}

-- a plan for a packet of so many bytes, by an MTU that it exceeds
pub record IsPlanFor (total : ℕ) (plan : CutPlan) : Type 0 where
  pub mtu : ℕ
  pub header : (plan.header ≡ 20) ⊎ (plan.header ≡ 48)
  pub room : plan.header + 8 ≤ mtu
  pub long : mtu < total
  pub most : mtu ≤ 65535
  pub is : plan ≡ plan_of total plan.header mtu

-- The packet's own offset, in units of 8 bytes, as its header says it: in the word of flags and offset of IPv4, or in a
-- Fragment header behind an IPv6 header.
abbrev pub offset_in : (header : ℕ) → List ℕ → ℕ
offset_in header bytes = if header == 20 then field16 bytes 6 % 8192 else field16 bytes 42 / 8

-- the bytes of piece k behind its header: as many as a piece holds, or what is left
abbrev pub piece_payload : CutPlan → (whole : List ℕ) → (k : ℕ) → List ℕ
piece_payload plan whole k = part (drop plan.header whole) (k * plan.unit) plan.unit

-- Piece k of a packet, counted from 0, byte for byte. Its header is the packet's own, but that the length is that of
-- the piece, that the offset is further on by the bytes before the piece, and that More is set unless the piece is the
-- last and the packet's own More is 0. The header checksum of IPv4 is written anew.
abbrev pub piece_bytes : CutPlan → (whole : List ℕ) → (k : ℕ) → List ℕ
piece_bytes plan whole k =
    let payload = piece_payload plan whole k in
    let blocks = k * (plan.unit / 8) in
    let last = k + 1 == plan.count in
    if plan.header == 20 then fronted4 (take 20 whole) (20 + length payload) (word_on (field16 whole 6) blocks last) payload
    else fronted6 (take 48 whole) (8 + length payload) (fragment_word_on (field16 whole 42) blocks last) payload

-- Bytes that are piece k of a packet. Where the packet is written of a fragment, in either family, they are the packet
-- of that fragment's piece.
pub record IsPiece (plan : CutPlan) (whole : List ℕ) (k : ℕ) (piece : List ℕ) : Type 0 where
  pub bytes : piece ≡ piece_bytes plan whole k
  pub four : (df : ℕ) (f : Fragment)
      → plan.header ≡ 20 → df < 2 → f.offset < 8192 → whole ≡ ipv4_bytes (packet4 df f)
      → piece ≡ ipv4_bytes (packet4 df (piece_of (plan.unit / 8) f k))
  pub six : (f : Fragment) → plan.header ≡ 48 → f.offset < 8192 → whole ≡ ipv6_bytes (fragment_packet6 f)
      → piece ≡ ipv6_bytes (fragment_packet6 (piece_of (plan.unit / 8) f k))
