-- What a device sends on of a packet which no rule drops, and which it doesn't turn.
use Rattle.std.specs.Prelude.{◌≡◌, ℕ, List, [], ◌∷◌, map, true, false, Option, Some, None, Ok}
use Rattle.siit_model.specs.Extensions.{Walked}
use Rattle.siit_model.specs.Ipv4.{ipv4_bytes, ipv4_fields}
use Rattle.siit_model.specs.Ipv6.{ipv6_bytes, ipv6_fields}
use Rattle.siit_rules.specs.declared.rule.Family.TheVariants.{Four, Six}
use Rattle.siit_roles.specs.declared.settings.Settings.{Settings}
use Rattle.siit_v6to4.specs.To4.{walk_in}
use Rattle.siit_chain.specs.Outcome.{Outcome, dropped, turned, through, pieces}
use Rattle.siit_device.specs.Arrival6.{Arrived, is_pair, turn_for}
use Rattle.siit_device.specs.Backward.{packets_to_4}
use Rattle.siit_device.specs.Forward.{packets_to_6}
use Rattle.siit_device.specs.Outcome.{outcome_of}
use Rattle.siit_device.specs.Rules4.{first_rule4}
use Rattle.siit_device.specs.Rules6.{first_rule6}

-- the packets that go on, or none where the packet is dropped or goes back
abbrev pub packets_sent : Outcome → Option (List (List ℕ))
packets_sent (dropped rule answer) = None
packets_sent (turned packet) = None
packets_sent (through used packet) = Some (packet ∷ [])
packets_sent (pieces used packets) = Some packets

-- To IPv6 go the packets that the translation gives.
abbrev pub DevicesSendTo6 : Type 0
DevicesSendTo6 = (settings : Settings) (bytes : List ℕ) (number : ℕ) → first_rule4 settings bytes ≡ None
    → packets_sent (outcome_of settings Four bytes number) ≡ Some (map ipv6_bytes (packets_to_6 settings (ipv4_fields bytes)))

-- an IPv6 packet with the walk over its extension headers
abbrev pub arrived_in : List ℕ → Walked → Arrived
arrived_in bytes walked = record { packet = ipv6_fields bytes; walked = walked }

-- To IPv4 go the packets that the translation gives with the number that is handed in.
abbrev pub DevicesSendTo4 : Type 0
DevicesSendTo4 = (settings : Settings) (bytes : List ℕ) (number : ℕ) (walked : Walked) → first_rule6 settings bytes ≡ None
    → walk_in bytes ≡ Ok walked → is_pair (turn_for settings (arrived_in bytes walked)) ≡ false
    → packets_sent (outcome_of settings Six bytes number) ≡ Some (map ipv4_bytes (packets_to_4 settings (arrived_in bytes walked) number))

-- an IPv6 packet for whose addresses the table has a pair to go back by
pub record HasPair (settings : Settings) (bytes : List ℕ) : Type 0 where
  pub walked : Walked
  pub walk : walk_in bytes ≡ Ok walked
  pub pair : is_pair (turn_for settings (arrived_in bytes walked)) ≡ true

-- No other packet is turned.
pub record PairsAloneTurn : Type 0 where
  pub four : (settings : Settings) (bytes packet : List ℕ) (number : ℕ) → outcome_of settings Four bytes number ≡ turned packet → ⊥
  pub six : (settings : Settings) (bytes packet : List ℕ) (number : ℕ) → outcome_of settings Six bytes number ≡ turned packet
      → HasPair settings bytes
