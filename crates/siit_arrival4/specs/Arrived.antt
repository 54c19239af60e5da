-- What is known of an IPv4 packet that no rule drops.
use Rattle.std.specs.Prelude.{◌≡◌, ℕ, ◌≤◌, List, length, true, false, None, Ok, IsOk, IsSome}
use Rattle.siit_model.specs.Bytes.{field8}
use Rattle.siit_model.specs.Fragments.{fragment4}
use Rattle.siit_model.specs.Ipv4.{Ipv4Packet, ipv4_fields, header_length_in, total_length_in}
use Rattle.siit_addr.specs.declared.addr.Addresses4.{Addresses4}
use Rattle.siit_addr.specs.declared.addr.Addresses6.{Addresses6}
use Rattle.siit_icmp.specs.Icmp.{icmp_to_6, pointer_to_6}
use Rattle.siit_icmp.specs.declared.kinds.Rest.TheVariants.{Pointer}
use Rattle.siit_map.specs.Mapping.{ipv6_for}
use Rattle.siit_quoted.specs.Refusals.{quote_refusal4}
use Rattle.siit_roles.specs.declared.settings.Settings.{Settings}
use Rattle.siit_views.specs.Headers.{HasLengths4}
use Rattle.siit_device.specs.Addresses.{to6}
use Rattle.siit_device.specs.Arrival4.{is_error4, is_misshapen4, quoted_part4}
use Rattle.siit_device.specs.Forward.{lacks_checksum}
use Rattle.siit_arrival4.specs.declared.arrived.Arrived4.{Arrived4}
use Rattle.siit_arrival4.specs.declared.arrived.Error4.{Error4}
use Rattle.siit_arrival4.specs.declared.arrived.Upper4.{Upper4}
use Rattle.siit_arrival4.specs.declared.arrived.Upper4.TheVariants.{Moved, Bare, Error}

-- the addresses of a packet
pub record AreAddresses4 (source destination : ℕ) (addresses : Addresses4) : Type 0 where
  pub source_is : addresses.src.0 ≡ source
  pub destination_is : addresses.dst.0 ≡ destination

-- the IPv6 addresses that a device gives two IPv4 addresses
pub record AreMapped6 (settings : Settings) (source destination : ℕ) (addresses : Addresses6) : Type 0 where
  pub source_ok : IsOk (ipv6_for settings.mapping source)
  pub destination_ok : IsOk (ipv6_for settings.mapping destination)
  pub source_is : to6 settings source ≡ addresses.src.0
  pub destination_is : to6 settings destination ≡ addresses.dst.0

-- those that it gives a packet's
abbrev pub IsMapped4 : Settings → Ipv4Packet → Addresses6 → Type 0
IsMapped4 settings packet addresses = AreMapped6 settings packet.source packet.destination addresses

-- and those that it gives the packet's that an ICMP error quotes
abbrev pub IsQuoteMapped4 : Settings → (message : List ℕ) → Addresses6 → Type 0
IsQuoteMapped4 settings message addresses = IsMapped4 settings (ipv4_fields (quoted_part4 message)) addresses

-- an ICMP error whose quote is accepted and whose type, code and pointer have rows
pub record HasError4 (settings : Settings) (message : List ℕ) (error : Error4) : Type 0 where
  pub kind : icmp_to_6 (field8 message 0) (field8 message 1) ≡ Ok error.new
  pub pointer : error.new.rest ≡ Pointer → IsSome (pointer_to_6 (field8 message 4))
  pub accepted : quote_refusal4 (quoted_part4 message) ≡ None
  pub quote : AreMapped6 settings (ipv4_fields (quoted_part4 message)).source (ipv4_fields (quoted_part4 message)).destination error.quote

pub record HasMoved4 (packet : Ipv4Packet) : Type 0 where
  pub no_error : is_error4 packet ≡ false
  pub has_checksum : lacks_checksum (fragment4 packet) ≡ false

pub record HasBare4 (packet : Ipv4Packet) : Type 0 where
  pub no_error : is_error4 packet ≡ false
  pub no_checksum : lacks_checksum (fragment4 packet) ≡ true
  pub header : 8 ≤ length packet.payload

pub record HasErrorPacket4 (settings : Settings) (packet : Ipv4Packet) (error : Error4) : Type 0 where
  pub is_error : is_error4 packet ≡ true
  pub header : 8 ≤ length packet.payload
  pub message : HasError4 settings packet.payload error

abbrev pub HasUpper4 : Settings → Ipv4Packet → Upper4 → Type 0
HasUpper4 settings packet Moved = HasMoved4 packet
HasUpper4 settings packet Bare = HasBare4 packet
HasUpper4 settings packet (Error error) = HasErrorPacket4 settings packet error

-- what a packet's bytes say, and what its rules have found
pub record HasArrived4 (settings : Settings) (bytes : List ℕ) (arrived : Arrived4) : Type 0 where
  pub lengths : HasLengths4 bytes
  pub header_len : arrived.header_len ≡ header_length_in bytes
  pub total : arrived.total ≡ total_length_in bytes
  pub alive : 2 ≤ (ipv4_fields bytes).ttl
  pub shape : is_misshapen4 (ipv4_fields bytes) ≡ false
  pub protocol : arrived.protocol ≡ (ipv4_fields bytes).protocol
  pub old : AreAddresses4 (ipv4_fields bytes).source (ipv4_fields bytes).destination arrived.old
  pub new : AreMapped6 settings (ipv4_fields bytes).source (ipv4_fields bytes).destination arrived.new
  pub upper : HasUpper4 settings (ipv4_fields bytes) arrived.upper
