-- Packets that cross two devices between IPv4 links, the first to IPv6 and the second back, without a drop and without
-- being turned.
use Rattle.std.specs.Prelude.{◌≡◌, ℕ, List, [], ◌∷◌, map, false, Some, None, Ok}
use Rattle.std.specs.List.{All, flat_map}
use Rattle.siit_model.specs.Bytes.{AreBytes}
use Rattle.siit_model.specs.Extensions.{Walked, walk_of}
use Rattle.siit_model.specs.Ipv4.{ipv4_bytes, ipv4_fields}
use Rattle.siit_model.specs.Ipv6.{Ipv6Packet, ipv6_bytes, ipv6_fields}
use Rattle.siit_rules.specs.declared.rule.Family.TheVariants.{Four}
use Rattle.siit_roles.specs.Limits.{IsWithinLimits}
use Rattle.siit_roles.specs.declared.settings.Settings.{Settings}
use Rattle.siit_chain.specs.Carried.{Chain, other_end}
use Rattle.siit_chain.specs.Log.{Entry, leaves}
use Rattle.siit_chain.specs.declared.origin.End.{End}
use Rattle.siit_chain.specs.declared.origin.End.TheVariants.{Left, Right}
use Rattle.siit_chain.specs.declared.origin.Origin.{Origin}
use Rattle.siit_run.specs.Runs.{origin_of}
use Rattle.siit_device.specs.Arrival6.{is_pair, turn_for}
use Rattle.siit_device.specs.Forward.{packets_to_6}
use Rattle.siit_device.specs.Rules4.{first_rule4}
use Rattle.siit_device.specs.Rules6.{first_rule6}
use Rattle.siit_arrival4.specs.Unruled.{IsLeft4}
use Rattle.siit_arrival6.specs.Unruled.{IsLeft6}
use Rattle.siit_cutting.specs.Laws.{Numbered, given_to_4}
use Rattle.siit_engine.specs.Placed.{Placed}
use Rattle.siit_network.specs.Networks.{network}
use Rattle.siit_crossing.specs.Carrying.{Captured, IsComing, packet_entering}
use Rattle.siit_crossing.specs.Entries.{entries_of_records, packets_leaving}
use Rattle.siit_crossing.specs.Sent.{arrived_in}

-- TWO DEVICES

-- the devices with these settings, from left to right, and IPv4 links at both ends
abbrev pub two_devices : (left right : Settings) → Chain Placed
two_devices left right = network (record { left = Four; devices = left ∷ right ∷ [] })

-- of two devices that next to an end
abbrev pub settings_at : End → (left right : Settings) → Settings
settings_at Left left right = left
settings_at Right left right = right

-- the device that a packet which entered at an end meets last; device 1 is the leftmost
abbrev pub last_met : End → ℕ
last_met Left = 2
last_met Right = 1

-- ONE DEVICE

-- an IPv4 packet that no rule drops, with what the rules leave
pub record GoesTo6 (settings : Settings) (bytes : List ℕ) : Type 0 where
  pub limits : IsWithinLimits settings
  pub small : AreBytes bytes
  pub no_rule : first_rule4 settings bytes ≡ None
  pub left : IsLeft4 settings bytes

-- an IPv6 packet that no rule drops, with what the rules leave, and that isn't turned
pub record GoesTo4 (settings : Settings) (bytes : List ℕ) : Type 0 where
  pub limits : IsWithinLimits settings
  pub small : AreBytes bytes
  pub no_rule : first_rule6 settings bytes ≡ None
  pub left : IsLeft6 settings bytes
  pub no_pair : is_pair (turn_for settings (arrived_in bytes left.walked)) ≡ false

-- The device doesn't turn the packet, where it accepts the walk over its extension headers.
abbrev pub IsNotTurned : Settings → Ipv6Packet → Type 0
IsNotTurned settings packet = (walked : Walked) → walk_of packet.next packet.body ≡ Ok walked
    → is_pair (turn_for settings (record { packet = packet; walked = walked })) ≡ false

-- BOTH

-- the written packet, as the next device reads it
abbrev pub read_again : Ipv6Packet → Ipv6Packet
read_again packet = ipv6_fields (ipv6_bytes packet)

-- The second device turns none of the packets that the first makes of an IPv4 packet.
abbrev pub NoneTurns : (first second : Settings) → (bytes : List ℕ) → Type 0
NoneTurns first second bytes = All (λ packet. IsNotTurned second (read_again packet)) (packets_to_6 first (ipv4_fields bytes))

-- what the second device gives for packets between both, each with the number that it was handed
abbrev pub packets_across : (second : Settings) → List Numbered → List (List ℕ)
packets_across second between = map ipv4_bytes (flat_map (λ x. given_to_4 second (read_again x.0, x.1)) between)

-- An IPv4 packet crosses both devices: no rule drops it at the first; these are the packets that the first sends, with
-- the numbers that the second is handed; no rule drops them there, and none is turned.
pub record CrossesBoth (coming : ℕ → ℕ → ℕ) (end : End) (first second : Settings) (bytes : List ℕ) (between : List Numbered) : Type 0 where
  pub first_goes : GoesTo6 first bytes
  pub sent : map (λ x. x.0) between ≡ packets_to_6 first (ipv4_fields bytes)
  pub numbers : All (λ x. IsComing coming (last_met end) x.1) between
  pub second_goes : All (λ x. GoesTo4 second (ipv6_bytes x.0)) between

-- All that is written of a packet which entered at an end leaves at the far end: what the second device gives for the
-- packets that cross.
pub record PacketCrosses (coming : ℕ → ℕ → ℕ) (origin : Origin) (end : End) (first second : Settings) (bytes : List ℕ) (log : List Entry) : Type 0 where
  pub between : List Numbered
  pub crosses : CrossesBoth coming end first second bytes between
  pub written : log ≡ map (leaves origin (other_end end)) (packets_across second between)

-- RECORDS

-- a record, the bytes of its packet that enter, and the packets between the devices with their numbers
pub record Passage : Type 0 where
  pub captured : Captured
  pub bytes : List ℕ
  pub between : List Numbered

-- the record's packet is of IPv4, and crosses
pub record IsPassage (coming : ℕ → ℕ → ℕ) (end : End) (first second : Settings) (passage : Passage) : Type 0 where
  pub enters : packet_entering Four passage.captured.found ≡ Some passage.bytes
  pub crosses : CrossesBoth coming end first second passage.bytes passage.between

-- what is written of it
abbrev pub entries_across : End → (second : Settings) → Passage → List Entry
entries_across end second passage =
    map (leaves (origin_of end passage.captured.number passage.captured.found) (other_end end)) (packets_across second passage.between)

-- the packets that enter, of all records, and the packets between the devices
abbrev pub all_entering : List Passage → List (List ℕ)
all_entering passages = map (λ passage. passage.bytes) passages

abbrev pub all_between : List Passage → List Numbered
all_between passages = flat_map (λ passage. passage.between) passages

-- Records of one capture cross both devices, and these are all their entries in the log. The same is said of them
-- together: what enters, what goes between the devices, what leaves at the far end, and that nothing leaves at the near
-- one.
pub record RecordsCrossBoth (coming : ℕ → ℕ → ℕ) (end : End) (first second : Settings) (records : List Captured) (log : List Entry) : Type 0 where
  pub passages : List Passage
  pub records_are : map (λ passage. passage.captured) passages ≡ records
  pub each : All (IsPassage coming end first second) passages
  pub entries : entries_of_records end (map (λ captured. captured.number) records) log ≡ flat_map (entries_across end second) passages
  pub first_goes : All (GoesTo6 first) (all_entering passages)
  pub sent : map (λ x. x.0) (all_between passages) ≡ flat_map (packets_to_6 first) (map ipv4_fields (all_entering passages))
  pub numbers : All (λ x. IsComing coming (last_met end) x.1) (all_between passages)
  pub second_goes : All (λ x. GoesTo4 second (ipv6_bytes x.0)) (all_between passages)
  pub far : packets_leaving (other_end end) (entries_of_records end (map (λ captured. captured.number) records) log)
      ≡ packets_across second (all_between passages)
  pub near : packets_leaving end (entries_of_records end (map (λ captured. captured.number) records) log) ≡ []
