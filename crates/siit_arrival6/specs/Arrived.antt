-- What is known of an IPv6 packet that no rule drops.
use Rattle.std.specs.Prelude.{◌≡◌, ℕ, ◌+◌, ◌-◌, ◌<◌, ◌≤◌, List, length, true, false, Option, Some, None, Ok, IsOk, IsErr, IsSome, IfSome}
use Rattle.siit_model.specs.Bytes.{field8, field32}
use Rattle.siit_model.specs.Ipv6.{ipv6_fields, payload_length_in}
use Rattle.siit_addr.specs.declared.addr.Addr4.{Addr4}
use Rattle.siit_addr.specs.declared.addr.Addresses4.{Addresses4}
use Rattle.siit_addr.specs.declared.addr.Addresses6.{Addresses6}
use Rattle.siit_hairpin.specs.declared.hairpin.TurnAnswer.TheVariants.{Pair}
use Rattle.siit_icmp.specs.Icmp.{icmp_to_4, pointer_to_4}
use Rattle.siit_icmp.specs.declared.kinds.Rest.TheVariants.{Pointer}
use Rattle.siit_map.specs.Mapping.{ipv4_for}
use Rattle.siit_quoted.specs.Refusals.{quote_refusal6}
use Rattle.siit_roles.specs.declared.settings.Settings.{Settings}
use Rattle.siit_upper.specs.Walks.{walked}
use Rattle.siit_upper.specs.declared.walk.Walk.{Walk}
use Rattle.siit_v6to4.specs.To4.{walk_in}
use Rattle.siit_views.specs.Headers.{HasLength6}
use Rattle.siit_device.specs.Addresses.{to4}
use Rattle.siit_device.specs.Arrival6.{Arrived, arrived_fragment, is_error6, is_pair, quoted_part6, quote_turn_for, turn_for}
use Rattle.siit_device.specs.Backward.{sent4}
use Rattle.siit_arrival6.specs.declared.arrived.Arrived6.{Arrived6}
use Rattle.siit_arrival6.specs.declared.arrived.Error6.{Error6}
use Rattle.siit_arrival6.specs.declared.arrived.Way6.{Way6}
use Rattle.siit_arrival6.specs.declared.arrived.Way6.TheVariants.{On, Back}

-- the packet and its walk, as the definitions have them
abbrev pub arrival_of : List ℕ → Arrived6 → Arrived
arrival_of bytes arrived = record { packet = ipv6_fields bytes; walked = walked arrived.walk }

-- the IPv4 addresses that a device gives two IPv6 addresses
pub record AreMapped4 (settings : Settings) (source destination : ℕ) (addresses : Addresses4) : Type 0 where
  pub source_ok : IsOk (ipv4_for settings.mapping source)
  pub destination_ok : IsOk (ipv4_for settings.mapping destination)
  pub source_is : to4 settings source ≡ addresses.src.0
  pub destination_is : to4 settings destination ≡ addresses.dst.0

-- an ICMPv6 error whose quote is accepted and whose type, code and pointer have rows
pub record HasError6 (settings : Settings) (message : List ℕ) (error : Error6) : Type 0 where
  pub header : 8 ≤ length message
  pub kind : icmp_to_4 (field8 message 0) (field8 message 1) ≡ Ok error.new
  pub pointer : error.new.rest ≡ Pointer → IsSome (pointer_to_4 (field32 message 4))
  pub accepted : quote_refusal6 (quoted_part6 message) ≡ None
  pub quote : AreMapped4 settings (ipv6_fields (quoted_part6 message)).source (ipv6_fields (quoted_part6 message)).destination error.quote

-- the source of a packet on its way to IPv4: mapped, or none
abbrev pub HasSource4 : Settings → (source : ℕ) → Option Addr4 → Type 0
HasSource4 settings source (Some address) = IsOk (ipv4_for settings.mapping source) × (to4 settings source ≡ address.0)
HasSource4 settings source None = IsErr (ipv4_for settings.mapping source)

-- the message of a packet on its way to IPv4: an ICMPv6 error, or none
abbrev pub HasMessage6 : Settings → Arrived → Option Error6 → Type 0
HasMessage6 settings arrived None = is_error6 (arrived_fragment arrived) ≡ false
HasMessage6 settings arrived (Some error) =
    (is_error6 (arrived_fragment arrived) ≡ true) × HasError6 settings (arrived_fragment arrived).bytes error

abbrev pub HasErrorOrNone6 : Settings → List ℕ → Arrived6 → Option Error6 → Type 0
HasErrorOrNone6 settings bytes arrived error = HasMessage6 settings (arrival_of bytes arrived) error

-- to the IPv4 side
pub record GoesOn (settings : Settings) (bytes : List ℕ) (arrived : Arrived6) (src : Option Addr4) (dst : Addr4) (error : Option Error6) : Type 0 where
  pub not_turned : is_pair (turn_for settings (arrival_of bytes arrived)) ≡ false
  pub source : HasSource4 settings (ipv6_fields bytes).source src
  -- only an ICMPv6 error has none
  pub sourceless : src ≡ None → is_error6 (arrived_fragment (arrival_of bytes arrived)) ≡ true
  pub destination_ok : IsOk (ipv4_for settings.mapping (ipv6_fields bytes).destination)
  pub destination_is : to4 settings (ipv6_fields bytes).destination ≡ dst.0
  pub message : HasErrorOrNone6 settings bytes arrived error
  -- the length of the IPv4 form, and where the message isn't translated with its quote that is this length
  pub sent : 20 + length (sent4 settings (arrival_of bytes arrived) 0).bytes ≤ 65535
  pub fits : is_error6 (arrived_fragment (arrival_of bytes arrived)) ≡ false → 20 + (payload_length_in bytes - arrived.walk.at) ≤ 65535

-- an ICMPv6 error whose quote is turned between these addresses
pub record HasTurnedQuote (settings : Settings) (message : List ℕ) (quote : Addresses6) : Type 0 where
  pub header : 8 ≤ length message
  pub accepted : quote_refusal6 (quoted_part6 message) ≡ None
  pub pair : quote_turn_for settings (quoted_part6 message) ≡ Pair quote

-- the message of a packet that is turned
abbrev pub HasTurnedMessage6 : Settings → Arrived → Option Addresses6 → Type 0
HasTurnedMessage6 settings arrived None = is_error6 (arrived_fragment arrived) ≡ false
HasTurnedMessage6 settings arrived (Some quote) =
    (is_error6 (arrived_fragment arrived) ≡ true) × HasTurnedQuote settings (arrived_fragment arrived).bytes quote

abbrev pub HasQuoteOrNone6 : Settings → List ℕ → Arrived6 → Option Addresses6 → Type 0
HasQuoteOrNone6 settings bytes arrived quote = HasTurnedMessage6 settings (arrival_of bytes arrived) quote

-- back to the IPv6 side
pub record GoesBack (settings : Settings) (bytes : List ℕ) (arrived : Arrived6) (new : Addresses6) (quote : Option Addresses6) : Type 0 where
  pub pair : turn_for settings (arrival_of bytes arrived) ≡ Pair new
  pub message : HasQuoteOrNone6 settings bytes arrived quote

abbrev pub HasWay6 : Settings → List ℕ → Arrived6 → Way6 → Type 0
HasWay6 settings bytes arrived (On src dst error) = GoesOn settings bytes arrived src dst error
HasWay6 settings bytes arrived (Back new quote) = GoesBack settings bytes arrived new quote

-- what a packet's bytes say, and what its rules have found
pub record HasArrived6 (settings : Settings) (bytes : List ℕ) (arrived : Arrived6) : Type 0 where
  pub lengths : HasLength6 bytes
  pub walk : walk_in bytes ≡ Ok (walked arrived.walk)
  pub within : arrived.walk.at ≤ payload_length_in bytes
  pub offset : IfSome arrived.walk.frag (λ frag. frag.offset < 8192)
  pub len : arrived.len ≡ payload_length_in bytes
  pub alive : 2 ≤ (ipv6_fields bytes).hop
  pub source_is : arrived.old.src.0 ≡ (ipv6_fields bytes).source
  pub destination_is : arrived.old.dst.0 ≡ (ipv6_fields bytes).destination
  pub way : HasWay6 settings bytes arrived arrived.way

-- the walk over the extension headers of a packet whose length is right
pub record HasWalk (bytes : List ℕ) (walk : Walk) : Type 0 where
  pub lengths : HasLength6 bytes
  pub walk_is : walk_in bytes ≡ Ok (walked walk)
  pub within : walk.at ≤ payload_length_in bytes
