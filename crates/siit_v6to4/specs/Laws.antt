-- Laws of packets on their way to IPv4.
use Rattle.std.specs.Prelude.{◌≡◌, ℕ, ◌+◌, ◌%◌, ◌<◌, ◌≤◌, List, length, drop, true, Some, Ok}
use Rattle.siit_model.specs.Bytes.{AreBytes, field16}
use Rattle.siit_model.specs.Checksum.{pseudo4, pseudo6, residue}
use Rattle.siit_model.specs.Extensions.{Walked, walk_of}
use Rattle.siit_model.specs.Fragments.{Fragment, fragment4, fragment_by, packet4}
use Rattle.siit_model.specs.Ipv4.{Ipv4Packet, IsGoodIpv4, ipv4_of, ipv4_bytes, ipv4_bytes_as, ipv4_fields}
use Rattle.siit_model.specs.Ipv6.{Ipv6Packet, IsGoodIpv6}
use Rattle.siit_model.specs.Upper.{Ends}
use Rattle.siit_v6to4.specs.To4.{Head4, is_echo6, translated_to_4, upper_to_4}
use Rattle.siit_v6to4.specs.Turns.{turned_upper}

-- the fields of a packet have room in its header, whatever its payload is
pub record IsHeader4 (packet : Ipv4Packet) : Type 0 where
  pub id : packet.id < 65536
  pub df : packet.df < 2
  pub mf : packet.mf < 2
  pub offset : packet.offset < 8192
  pub source : packet.source < 4294967296
  pub destination : packet.destination < 4294967296
  pub whole_words : length packet.options % 4 ≡ 0
  pub few_options : length packet.options ≤ 40

-- The written form of a packet with a total length that is told, which may be more than is there, is read as that
-- packet (RFC 791 section 3.1).
abbrev pub WrittenAsIsRead4 : Type 0
WrittenAsIsRead4 = (total : ℕ) (packet : Ipv4Packet) → IsHeader4 packet → 20 + length packet.options + length packet.payload ≤ total → total < 65536
    → ipv4_fields (ipv4_bytes_as total packet) ≡ packet

-- the written form of a good packet is read as that packet
abbrev pub WrittenIsRead4 : Type 0
WrittenIsRead4 = (packet : Ipv4Packet) → IsGoodIpv4 packet → ipv4_of (ipv4_bytes packet) ≡ Some packet

-- a fragment is read in the packet that is made of it
abbrev pub FragmentIsRead4 : Type 0
FragmentIsRead4 = (df : ℕ) (f : Fragment) → fragment4 (packet4 df f) ≡ f

-- a fragment whose fields and bytes have room in a packet of IPv4
pub record FitsIpv4 (f : Fragment) : Type 0 where
  pub class : f.common.class < 256
  pub hop : f.common.hop < 256
  pub protocol : f.common.protocol < 256
  pub source : f.common.source < 4294967296
  pub destination : f.common.destination < 4294967296
  pub id : f.id < 65536
  pub offset : f.offset < 8192
  pub bytes : AreBytes f.bytes
  pub fits : 20 + length f.bytes ≤ 65535

-- its packet has a written form
abbrev pub MadeIsGood4 : Type 0
MadeIsGood4 = (df : ℕ) (f : Fragment) → df < 2 → FitsIpv4 f → IsGoodIpv4 (packet4 df f)

-- the translated packet of a good packet whose extension headers are accepted has a written form, where its upper part
-- isn't too long
abbrev pub TranslatedIsGood4 : Type 0
TranslatedIsGood4 = (df : ℕ) (head : Head4) (sent : ℕ) (walked : Walked) (packet : Ipv6Packet) → df < 2 → IsGoodIpv6 packet
    → walk_of packet.next packet.body ≡ Ok walked → 20 + length (drop walked.at packet.body) ≤ 65535
    → head.source < 4294967296 → head.destination < 4294967296 → head.tos < 256 → head.ttl < 256 → head.id < 65536
    → IsGoodIpv4 (packet4 df (translated_to_4 head sent (fragment_by packet walked)))

-- The residue of pseudo-header and upper part, the checksum among them, is the same before and after, whether it was
-- right or wrong (RFC 7915 section 5.5): of a TCP segment, of a UDP datagram that has a checksum, and of an ICMPv6 echo
-- message, which ICMPv4 counts without a pseudo-header.
pub record ResidueStaysTo4 : Type 0 where
  pub tcp : (ends : Ends) (whole : ℕ) (part : List ℕ) → 18 ≤ length part
      → (pseudo4 ends.source4 ends.destination4 6 whole + residue (upper_to_4 6 ends whole part)) % 65535
      ≡ (pseudo6 ends.source6 ends.destination6 6 whole + residue part) % 65535
  pub udp : (ends : Ends) (whole : ℕ) (part : List ℕ) → 8 ≤ length part → 0 < field16 part 6
      → (pseudo4 ends.source4 ends.destination4 17 whole + residue (upper_to_4 17 ends whole part)) % 65535
      ≡ (pseudo6 ends.source6 ends.destination6 17 whole + residue part) % 65535
  pub echo : (ends : Ends) (whole : ℕ) (part : List ℕ) → AreBytes part → 4 ≤ length part → is_echo6 part ≡ true
      → residue (upper_to_4 58 ends whole part) ≡ (pseudo6 ends.source6 ends.destination6 58 whole + residue part) % 65535

-- the same of a packet that is turned, for residues of the pseudo-headers of at most 65535
pub record ResidueStaysTurned : Type 0 where
  pub tcp : (old new : ℕ) (part : List ℕ) → old ≤ 65535 → new ≤ 65535 → 18 ≤ length part
      → (new + residue (turned_upper 6 old new part)) % 65535 ≡ (old + residue part) % 65535
  pub udp : (old new : ℕ) (part : List ℕ) → old ≤ 65535 → new ≤ 65535 → 8 ≤ length part → 0 < field16 part 6
      → (new + residue (turned_upper 17 old new part)) % 65535 ≡ (old + residue part) % 65535
  pub icmp : (old new : ℕ) (part : List ℕ) → old ≤ 65535 → new ≤ 65535 → 4 ≤ length part
      → (new + residue (turned_upper 58 old new part)) % 65535 ≡ (old + residue part) % 65535
