-- Cutting and translating commute (RFC 7915 sections 4 and 5): whatever way a datagram was cut, what a device gives for
-- its fragments joins to what it makes of the datagram.
use Rattle.std.specs.Prelude.{ℕ, ◌^◌, ◌<◌, ◌≤◌, ◌≡◌, List, [], ◌∷◌, length, map, Some, Result, Ok, Err, IsOk}
use Rattle.std.specs.List.{All, flat_map}
use Rattle.siit_model.specs.Extensions.{Walked, Trouble, walk_of}
use Rattle.siit_model.specs.Fragments.{Common, Datagram, Fragment, datagram4, fragment4, fragment6}
use Rattle.siit_model.specs.Ipv4.{Ipv4Packet, IsGoodIpv4}
use Rattle.siit_model.specs.Ipv6.{Ipv6Packet}
use Rattle.siit_fragments.specs.Covers.{Covers4, Covers6}
use Rattle.siit_roles.specs.Limits.{IsWithinLimits}
use Rattle.siit_roles.specs.declared.settings.Settings.{Settings}
use Rattle.siit_device.specs.Addresses.{to4, to6}
use Rattle.siit_device.specs.Backward.{image4, packets_to_4}
use Rattle.siit_device.specs.Forward.{image6, packets_to_6}
use Rattle.siit_arrival4.specs.Unruled.{IsUnruled}
use Rattle.siit_arrival6.specs.Unruled.{IsUnruled6}

-- TO IPV6

-- an IPv4 packet that is read, and that no rule drops
pub record IsTaken4 (packet : Ipv4Packet) : Type 0 where
  pub good : IsGoodIpv4 packet
  pub unruled : IsUnruled (fragment4 packet)

-- the walk over its extension headers is accepted
abbrev pub IsWalked : Ipv6Packet → Type 0
IsWalked packet = IsOk (walk_of packet.next packet.body)

-- the addresses that a device gives a datagram's have their 128 bits
pub record HasAddresses6 (settings : Settings) (common : Common) : Type 0 where
  pub source : to6 settings common.source < 2 ^ 128
  pub destination : to6 settings common.destination < 2 ^ 128

-- To IPv6. No walk over the packets that are given has a trouble: behind a Fragment header some protocols have one.
abbrev pub CuttingCommutesTo6 : Type 0
CuttingCommutesTo6 =
    (settings : Settings) (d : Ipv4Packet) (packets : List Ipv4Packet)
    → IsWithinLimits settings → HasAddresses6 settings (datagram4 d).common → length d.payload ≤ 65515
    → Covers4 d packets → All IsTaken4 packets → All IsWalked (flat_map (packets_to_6 settings) packets)
    → Covers6 (image6 settings (datagram4 d)) (flat_map (packets_to_6 settings) packets)

-- TO IPV4

-- a packet with the number that is handed in for it
abbrev pub Numbered : Type 0
Numbered = Ipv6Packet × ℕ

-- an IPv6 packet that no rule drops
pub record IsTaken6 (numbered : Numbered) : Type 0 where
  pub fragment : Fragment
  pub read : fragment6 numbered.0 ≡ Some fragment
  pub unruled : IsUnruled6 fragment

-- the addresses that a device gives a datagram's have their 32 bits
pub record HasAddresses4 (settings : Settings) (common : Common) : Type 0 where
  pub source : to4 settings common.source < 2 ^ 32
  pub destination : to4 settings common.destination < 2 ^ 32

-- what is given for a packet, by the walk over its extension headers
abbrev pub given_by : Settings → Ipv6Packet → (number : ℕ) → Result Walked Trouble → List Ipv4Packet
given_by settings packet number (Ok walked) = packets_to_4 settings (record { packet = packet; walked = walked }) number
given_by settings packet number (Err trouble) = []

abbrev pub given_to_4 : Settings → Numbered → List Ipv4Packet
given_to_4 settings x = given_by settings x.0 x.1 (walk_of x.0.next x.0.body)

-- the identification of the first packet, which picks the source of an ICMPv6 error without mapping
abbrev pub first_id : List Ipv4Packet → ℕ
first_id [] = 0
first_id (packet ∷ rest) = packet.id

-- To IPv4, of packets that aren't turned.
abbrev pub CuttingCommutesTo4 : Type 0
CuttingCommutesTo4 =
    (settings : Settings) (e : Datagram) (packets : List Numbered)
    → IsWithinLimits settings → HasAddresses4 settings e.common → length e.payload ≤ 65535
    → Covers6 e (map (λ x. x.0) packets) → All IsTaken6 packets
    → (let given = flat_map (given_to_4 settings) packets in Covers4 (image4 settings e (first_id given)) given)
