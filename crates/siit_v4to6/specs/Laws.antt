-- Laws of packets on their way to IPv6.
use Rattle.std.specs.Prelude.{◌≡◌, ℕ, ◌+◌, ◌%◌, ◌^◌, ◌<◌, ◌≤◌, List, length, Bool, true, Some}
use Rattle.siit_model.specs.Bytes.{AreBytes, field16}
use Rattle.siit_model.specs.Checksum.{pseudo4, pseudo6, residue}
use Rattle.siit_model.specs.Fragments.{Fragment, fragment4}
use Rattle.siit_model.specs.Ipv4.{Ipv4Packet, IsGoodIpv4}
use Rattle.siit_model.specs.Ipv6.{Ipv6Packet, IsGoodIpv6, ipv6_of, ipv6_bytes, ipv6_bytes_as, ipv6_fields}
use Rattle.siit_model.specs.Upper.{Ends}
use Rattle.siit_v4to6.specs.To6.{Head6, is_echo4, packet6, translated_to_6, upper_to_6}

-- the fields of a packet have room in its header, whatever its body is
pub record IsHeader6 (packet : Ipv6Packet) : Type 0 where
  pub class : packet.class < 256
  pub flow : packet.flow < 1048576
  pub source : packet.source < 2 ^ 128
  pub destination : packet.destination < 2 ^ 128

-- The written form of a packet with a payload length that is told, which may be more than is there, is read as that
-- packet (RFC 8200 section 3).
abbrev pub WrittenAsIsRead6 : Type 0
WrittenAsIsRead6 = (len : ℕ) (packet : Ipv6Packet) → IsHeader6 packet → length packet.body ≤ len → len < 65536
    → ipv6_fields (ipv6_bytes_as len packet) ≡ packet

-- the written form of a good packet is read as that packet
abbrev pub WrittenIsRead6 : Type 0
WrittenIsRead6 = (packet : Ipv6Packet) → IsGoodIpv6 packet → ipv6_of (ipv6_bytes packet) ≡ Some packet

-- a fragment whose fields and bytes have room in a packet of IPv6
pub record FitsIpv6 (f : Fragment) : Type 0 where
  pub class : f.common.class < 256
  pub hop : f.common.hop < 256
  pub protocol : f.common.protocol < 256
  pub source : f.common.source < 2 ^ 128
  pub destination : f.common.destination < 2 ^ 128
  pub bytes : AreBytes f.bytes
  pub fits : 8 + length f.bytes ≤ 65535

-- its packet, with a Fragment header or without one, has a written form
abbrev pub MadeIsGood6 : Type 0
MadeIsGood6 = (asked : Bool) (f : Fragment) → FitsIpv6 f → IsGoodIpv6 (packet6 asked f)

-- the translated packet of a good packet has a written form
abbrev pub TranslatedIsGood6 : Type 0
TranslatedIsGood6 = (asked : Bool) (head : Head6) (sent : ℕ) (packet : Ipv4Packet) → IsGoodIpv4 packet
    → head.source < 2 ^ 128 → head.destination < 2 ^ 128 → head.class < 256 → head.hop < 256
    → IsGoodIpv6 (packet6 asked (translated_to_6 head sent (fragment4 packet)))

-- The residue of pseudo-header and upper part, the checksum among them, is the same before and after, whether it was
-- right or wrong (RFC 7915 section 4.5): of a TCP segment, of a UDP datagram that has a checksum, and of an ICMP echo
-- message, which ICMPv4 counts without a pseudo-header.
pub record ResidueStaysTo6 : Type 0 where
  pub tcp : (ends : Ends) (whole : ℕ) (part : List ℕ) → 18 ≤ length part
      → (pseudo6 ends.source6 ends.destination6 6 whole + residue (upper_to_6 6 ends whole part)) % 65535
      ≡ (pseudo4 ends.source4 ends.destination4 6 whole + residue part) % 65535
  pub udp : (ends : Ends) (whole : ℕ) (part : List ℕ) → 8 ≤ length part → 0 < field16 part 6
      → (pseudo6 ends.source6 ends.destination6 17 whole + residue (upper_to_6 17 ends whole part)) % 65535
      ≡ (pseudo4 ends.source4 ends.destination4 17 whole + residue part) % 65535
  pub echo : (ends : Ends) (whole : ℕ) (part : List ℕ) → AreBytes part → 4 ≤ length part → is_echo4 part ≡ true
      → (pseudo6 ends.source6 ends.destination6 58 whole + residue (upper_to_6 1 ends whole part)) % 65535 ≡ residue part
