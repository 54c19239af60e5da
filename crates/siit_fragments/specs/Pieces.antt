-- The pieces that a fragment or a whole packet is cut into (RFC 791 section 3.2, RFC 8200 section 4.5).
use Rattle.std.specs.Prelude.{ℕ, ◌+◌, ◌-◌, ◌*◌, ◌/◌, List, length, map, ◌||◌, nat_lt}
use Rattle.std.specs.List.{range_with_len}
use Rattle.siit_model.specs.Bytes.{part}
use Rattle.siit_model.specs.Fragments.{Fragment, fragment4, packet4}
use Rattle.siit_model.specs.Ipv4.{Ipv4Packet}

-- how many units of 8 bytes fit behind a header (RFC 791's number of fragment blocks)
abbrev pub blocks_of : (header mtu : ℕ) → ℕ
blocks_of header mtu = (mtu - header) / 8

-- into how many pieces of so many units some bytes are cut
abbrev pub piece_count : (blocks len : ℕ) → ℕ
piece_count blocks len = (len + (8 * blocks - 1)) / (8 * blocks)

-- Piece k, counted from 0. More is set unless it is the last piece of a fragment that is itself the last.
abbrev pub piece_of : (blocks : ℕ) → Fragment → ℕ → Fragment
piece_of blocks f k = record f {
  offset = f.offset + k * blocks;
  more = f.more || nat_lt (8 * (k * blocks) + 8 * blocks) (length f.bytes);
  bytes = part f.bytes (8 * (k * blocks)) (8 * blocks);
}

abbrev pub pieces_of : (blocks : ℕ) → Fragment → List Fragment
pieces_of blocks f = map (piece_of blocks f) (range_with_len 0 (piece_count blocks (length f.bytes)))

-- the pieces of an IPv4 packet without options
abbrev pub pieces4 : (blocks : ℕ) → Ipv4Packet → List Ipv4Packet
pieces4 blocks packet = map (packet4 packet.df) (pieces_of blocks (fragment4 packet))
