-- The IP packet of a record, by its link type (Ethernet: RFC 894, RFC 2464; VLAN tags: IEEE 802.1Q).
use Rattle.std.specs.Prelude.{ℕ, ◌/◌, List, length, drop, Bool, ◌&&◌, ◌||◌, ◌==◌, nat_le, nat_lt, if◌then◌else◌, Option, Some, None}
use Rattle.siit_model.specs.Bytes.{field8, field16}
use Rattle.siit_rules.specs.declared.rule.Family.{Family}
use Rattle.siit_rules.specs.declared.rule.Family.TheVariants.{Four, Six}
use Rattle.siit_capture.specs.declared.form.LinkType.{LinkType}
use Rattle.siit_capture.specs.declared.form.LinkType.TheVariants.{Ethernet, Ipv4, Ipv6, Raw}

pub record IpPacket : Type 0 where
  pub family : Family
  pub bytes : List ℕ

-- all the bytes, as a packet of this family
abbrev pub packet_as : Family → List ℕ → Option IpPacket
packet_as family bytes = Some (record { family = family; bytes = bytes })

-- the bytes begin with a VLAN tag
abbrev pub is_tagged : List ℕ → Bool
is_tagged bytes = nat_le 2 (length bytes) && ((field16 bytes 0 == 0x8100) || (field16 bytes 0 == 0x88a8))

-- the bytes behind a tag of four bytes, where one stands in front
abbrev pub untagged : List ℕ → List ℕ
untagged bytes = if is_tagged bytes then drop 4 bytes else bytes

-- the packet behind an ethertype
abbrev pub typed_packet : List ℕ → Option IpPacket
typed_packet bytes =
    if nat_lt (length bytes) 2 then None
    else if field16 bytes 0 == 0x0800 then packet_as Four (drop 2 bytes)
    else if field16 bytes 0 == 0x86dd then packet_as Six (drop 2 bytes)
    else None

-- the packet of a frame: two addresses of six bytes, at most two tags, the ethertype
abbrev pub ethernet_packet : List ℕ → Option IpPacket
ethernet_packet frame = typed_packet (untagged (untagged (drop 12 frame)))

-- the packet of a record that has no link header, by its version
abbrev pub raw_packet : List ℕ → Option IpPacket
raw_packet bytes =
    if field8 bytes 0 / 16 == 4 then packet_as Four bytes
    else if field8 bytes 0 / 16 == 6 then packet_as Six bytes
    else None

-- the IP packet of a record of this link type, or none
abbrev pub packet_of : LinkType → List ℕ → Option IpPacket
packet_of Ethernet bytes = ethernet_packet bytes
packet_of Raw bytes = raw_packet bytes
packet_of Ipv4 bytes = if length bytes == 0 then None else packet_as Four bytes
packet_of Ipv6 bytes = if length bytes == 0 then None else packet_as Six bytes
