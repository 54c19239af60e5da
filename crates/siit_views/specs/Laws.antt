-- Laws of packets that are read.
use Rattle.std.specs.Prelude.{◌≡◌, List, ℕ, Some}
use Rattle.siit_model.specs.Bytes.{AreBytes}
use Rattle.siit_model.specs.Ipv4.{Ipv4Packet, IsGoodIpv4, ipv4_of}
use Rattle.siit_model.specs.Ipv6.{Ipv6Packet, IsGoodIpv6, ipv6_of}

-- a packet that is read of bytes has a written form
abbrev pub ReadIsGood4 : Type 0
ReadIsGood4 = (bytes : List ℕ) (packet : Ipv4Packet) → AreBytes bytes → ipv4_of bytes ≡ Some packet → IsGoodIpv4 packet

abbrev pub ReadIsGood6 : Type 0
ReadIsGood6 = (bytes : List ℕ) (packet : Ipv6Packet) → AreBytes bytes → ipv6_of bytes ≡ Some packet → IsGoodIpv6 packet
