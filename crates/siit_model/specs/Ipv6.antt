-- The IPv6 packet of some bytes, and its one written form (RFC 8200 section 3).
use Rattle.std.specs.Prelude.{ℕ, ◌+◌, ◌*◌, ◌^◌, ◌/◌, ◌%◌, ◌<◌, ◌≤◌, List, ◌∷◌, ◌++◌, length, Bool, not, ◌&&◌, ◌||◌, ◌==◌, nat_lt, if◌then◌else◌, Option, Some, None}
use Rattle.siit_model.specs.Bytes.{AreBytes, part, field8, field16, field32, field128, bytes16, bytes32, bytes128}

-- `next` is the next header, and the body is all that follows the header of 40 bytes.
pub record Ipv6Packet : Type 0 where
  pub class : ℕ
  pub flow : ℕ
  pub hop : ℕ
  pub source : ℕ
  pub destination : ℕ
  pub next : ℕ
  pub body : List ℕ

abbrev pub version6_in : List ℕ → ℕ
version6_in bytes = field8 bytes 0 / 16

abbrev pub payload_length_in : List ℕ → ℕ
payload_length_in bytes = field16 bytes 4

-- fewer bytes than a header, or of version 6 and fewer than the payload length says
abbrev pub is_short6 : List ℕ → Bool
is_short6 bytes =
    nat_lt (length bytes) 40 || ((version6_in bytes == 6) && nat_lt (length bytes) (40 + payload_length_in bytes))

abbrev pub is_bad_header6 : List ℕ → Bool
is_bad_header6 bytes = not (version6_in bytes == 6)

-- The fields. Bytes past the payload length are padding of the link.
abbrev pub ipv6_fields : List ℕ → Ipv6Packet
ipv6_fields bytes = record {
  class = field16 bytes 0 / 16 % 256;
  flow = field32 bytes 0 % 1048576;
  hop = field8 bytes 7;
  source = field128 bytes 8;
  destination = field128 bytes 24;
  next = field8 bytes 6;
  body = part bytes 40 (payload_length_in bytes);
}

-- the packet of some bytes, or none where they are no IPv6 packet
abbrev pub ipv6_of : List ℕ → Option Ipv6Packet
ipv6_of bytes = if is_short6 bytes || is_bad_header6 bytes then None else Some (ipv6_fields bytes)

-- the header with a payload length in its field
abbrev pub ipv6_header : (len : ℕ) → Ipv6Packet → List ℕ
ipv6_header len packet =
    bytes32 (6 * 2 ^ 28 + packet.class * 2 ^ 20 + packet.flow) ++ bytes16 len
    ++ packet.next ∷ packet.hop ∷ bytes128 packet.source ++ bytes128 packet.destination

-- The packet with a payload length as it is told, which in a quote may be more than is there.
abbrev pub ipv6_bytes_as : (len : ℕ) → Ipv6Packet → List ℕ
ipv6_bytes_as len packet = ipv6_header len packet ++ packet.body

-- the one written form
abbrev pub ipv6_bytes : Ipv6Packet → List ℕ
ipv6_bytes packet = ipv6_bytes_as (length packet.body) packet

-- what has a written form
pub record IsGoodIpv6 (packet : Ipv6Packet) : Type 0 where
  pub class : packet.class < 256
  pub flow : packet.flow < 1048576
  pub hop : packet.hop < 256
  pub source : packet.source < 2 ^ 128
  pub destination : packet.destination < 2 ^ 128
  pub next : packet.next < 256
  pub fits : length packet.body ≤ 65535
  pub bytes : AreBytes packet.body
