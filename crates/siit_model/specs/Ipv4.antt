-- The IPv4 packet of some bytes, and its one written form (RFC 791 section 3.1).
use Rattle.std.specs.Prelude.{◌≡◌, ℕ, ◌+◌, ◌*◌, ◌-◌, ◌/◌, ◌%◌, ◌<◌, ◌≤◌, List, ◌∷◌, ◌++◌, length, take, Bool, not, ◌&&◌, ◌||◌, ◌==◌, nat_lt, nat_le, if◌then◌else◌, Option, Some, None}
use Rattle.siit_model.specs.Bytes.{AreBytes, part, field8, field16, field32, bytes16, bytes32}
use Rattle.siit_model.specs.Checksum.{residue, checksum_of}

-- The fragment offset counts units of 8 bytes. The flags are 0 or 1.
pub record Ipv4Packet : Type 0 where
  pub tos : ℕ
  pub id : ℕ
  pub df : ℕ
  pub mf : ℕ
  pub offset : ℕ
  pub ttl : ℕ
  pub protocol : ℕ
  pub source : ℕ
  pub destination : ℕ
  pub options : List ℕ
  pub payload : List ℕ

-- what the first byte says: the version, and the header's length in bytes
abbrev pub version_in : List ℕ → ℕ
version_in bytes = field8 bytes 0 / 16

abbrev pub header_length_in : List ℕ → ℕ
header_length_in bytes = (field8 bytes 0 % 16) * 4

abbrev pub total_length_in : List ℕ → ℕ
total_length_in bytes = field16 bytes 2

-- fewer bytes than a header, or than a good first byte or the total length says
abbrev pub is_short4 : List ℕ → Bool
is_short4 bytes =
    nat_lt (length bytes) 20
    || ((version_in bytes == 4) && nat_le 20 (header_length_in bytes)
    && (nat_lt (length bytes) (header_length_in bytes) || nat_lt (length bytes) (total_length_in bytes)))

-- a header that no IPv4 packet has; a header checksum is right where the residue of the whole header is 0
abbrev pub is_bad_header4 : List ℕ → Bool
is_bad_header4 bytes =
    not (version_in bytes == 4)
    || nat_lt (header_length_in bytes) 20
    || nat_lt (total_length_in bytes) (header_length_in bytes)
    || not (residue (take (header_length_in bytes) bytes) == 0)

-- The fields. Bytes past the total length are padding of the link, and the reserved flag isn't read.
abbrev pub ipv4_fields : List ℕ → Ipv4Packet
ipv4_fields bytes = record {
  tos = field8 bytes 1;
  id = field16 bytes 4;
  df = field16 bytes 6 / 16384 % 2;
  mf = field16 bytes 6 / 8192 % 2;
  offset = field16 bytes 6 % 8192;
  ttl = field8 bytes 8;
  protocol = field8 bytes 9;
  source = field32 bytes 12;
  destination = field32 bytes 16;
  options = part bytes 20 (header_length_in bytes - 20);
  payload = part bytes (header_length_in bytes) (total_length_in bytes - header_length_in bytes);
}

-- the packet of some bytes, or none where they are no IPv4 packet
abbrev pub ipv4_of : List ℕ → Option Ipv4Packet
ipv4_of bytes = if is_short4 bytes || is_bad_header4 bytes then None else Some (ipv4_fields bytes)

abbrev pub total_length4 : Ipv4Packet → ℕ
total_length4 packet = 20 + length packet.options + length packet.payload

-- the header with a total length and a checksum in its fields
abbrev pub ipv4_header : (total : ℕ) → Ipv4Packet → (checksum : ℕ) → List ℕ
ipv4_header total packet checksum =
    (64 + 5 + length packet.options / 4) ∷ packet.tos ∷ bytes16 total
    ++ bytes16 packet.id ++ bytes16 (packet.df * 16384 + packet.mf * 8192 + packet.offset)
    ++ packet.ttl ∷ packet.protocol ∷ bytes16 checksum
    ++ bytes32 packet.source ++ bytes32 packet.destination ++ packet.options

-- The packet with a total length as it is told, which in a quote may be more than is there. The reserved flag is 0, the
-- header checksum right and below 65535.
abbrev pub ipv4_bytes_as : (total : ℕ) → Ipv4Packet → List ℕ
ipv4_bytes_as total packet = ipv4_header total packet (checksum_of (residue (ipv4_header total packet 0))) ++ packet.payload

-- the one written form
abbrev pub ipv4_bytes : Ipv4Packet → List ℕ
ipv4_bytes packet = ipv4_bytes_as (total_length4 packet) packet

-- what has a written form
pub record IsGoodIpv4 (packet : Ipv4Packet) : Type 0 where
  pub tos : packet.tos < 256
  pub id : packet.id < 65536
  pub df : packet.df < 2
  pub mf : packet.mf < 2
  pub offset : packet.offset < 8192
  pub ttl : packet.ttl < 256
  pub protocol : packet.protocol < 256
  pub source : packet.source < 4294967296
  pub destination : packet.destination < 4294967296
  pub whole_words : length packet.options % 4 ≡ 0
  pub few_options : length packet.options ≤ 40
  pub fits : total_length4 packet ≤ 65535
  pub option_bytes : AreBytes packet.options
  pub payload_bytes : AreBytes packet.payload

-- a whole packet is no fragment
abbrev pub is_whole4 : Ipv4Packet → Bool
is_whole4 packet = (packet.offset == 0) && (packet.mf == 0)
