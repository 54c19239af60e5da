-- Laws of what a finished run writes of its records.
use Rattle.std.specs.Prelude.{◌≡◌, ℕ, ◌^◌, ◌<◌, List, Some, None}
use Rattle.std.specs.List.{All}
use Rattle.siit_model.specs.Ipv4.{ipv4_fields}
use Rattle.siit_rules.specs.declared.rule.Family.TheVariants.{Four}
use Rattle.siit_capture.specs.Captures.{Records}
use Rattle.siit_eamt.specs.Faults.{table_fault}
use Rattle.siit_map.specs.Mapping.{entries_of}
use Rattle.siit_map.specs.Reversible.{IsReversible}
use Rattle.siit_roles.specs.declared.settings.Settings.{Settings}
use Rattle.siit_chain.specs.Carried.{Chain, carry, entering_at, fresh, other_end}
use Rattle.siit_chain.specs.Log.{drops_in}
use Rattle.siit_chain.specs.declared.origin.End.{End}
use Rattle.siit_chain.specs.declared.origin.Origin.{Origin}
use Rattle.siit_run.specs.Runs.{after, finished, run_of, started}
use Rattle.siit_device.specs.Addresses.{to6}
use Rattle.siit_crossing.specs.Across.{NoneTurns, PacketCrosses, RecordsCrossBoth, settings_at, two_devices}
use Rattle.siit_crossing.specs.Carrying.{Captured, HasCarriedAll, IsCaptured, IsRecordCarried, IsStillToCome, capture_at, packet_entering}
use Rattle.siit_crossing.specs.Entries.{IsUnnamed}

-- ANY DEVICES

-- All that a finished run writes of a record is what carrying the record writes, with the numbers that were still to
-- come when its turn came.
abbrev pub EachRecordIsCarried : {D : Type 0} → Chain D → Type 0
EachRecordIsCarried chain = (coming : ℕ → ℕ → ℕ) (left right : Records) → (run_of chain coming left right).course ≡ finished
    → (end : End) (captured : Captured) → IsCaptured (capture_at end left right) captured
    → IsRecordCarried chain coming end captured (run_of chain coming left right).trace.log

-- A finished run has carried every record of both captures, each capture in its order.
abbrev pub FinishedRunsCarryAll : {D : Type 0} → Chain D → Type 0
FinishedRunsCarryAll chain = (coming : ℕ → ℕ → ℕ) (left right : Records) → (run_of chain coming left right).course ≡ finished
    → HasCarriedAll left right (run_of chain coming left right)

-- After however many turns the numbers that a device is still handed are some of those that were to come at first.
abbrev pub NumbersAreComing : {D : Type 0} → Chain D → Type 0
NumbersAreComing chain = (coming : ℕ → ℕ → ℕ) (left right : Records) (turns : ℕ)
    → IsStillToCome coming (after chain turns (started coming left right)).trace.coming

-- TWO DEVICES BETWEEN IPV4 LINKS

-- A packet that enters at an end crosses both, where no drop is written and none of the packets between is turned.
abbrev pub PacketsCrossBoth : Type 0
PacketsCrossBoth = (left right : Settings) (coming : ℕ → ℕ → ℕ) (origin : Origin) (end : End) (bytes : List ℕ)
    → NoneTurns (settings_at end left right) (settings_at (other_end end) left right) bytes
    → drops_in (carry (two_devices left right) origin (fresh coming) (entering_at 2 end bytes)).log ≡ 0
    → PacketCrosses coming origin end (settings_at end left right) (settings_at (other_end end) left right) bytes
    (carry (two_devices left right) origin (fresh coming) (entering_at 2 end bytes)).log

-- The second device turns none of the packets that the first makes of the record's packet.
abbrev pub NoneTurnsOf : (first second : Settings) → Captured → Type 0
NoneTurnsOf first second captured = (bytes : List ℕ) → packet_entering Four captured.found ≡ Some bytes → NoneTurns first second bytes

-- Records of one capture cross both, where no drop in the log of the finished run names them and none of the packets
-- between is turned.
abbrev pub UnnamedRecordsCrossBoth : Type 0
UnnamedRecordsCrossBoth = (settings_left settings_right : Settings) (coming : ℕ → ℕ → ℕ) (left right : Records)
    → (run_of (two_devices settings_left settings_right) coming left right).course ≡ finished
    → (end : End) (records : List Captured) → All (IsCaptured (capture_at end left right)) records
    → All (λ captured. IsUnnamed end captured.number (run_of (two_devices settings_left settings_right) coming left right).trace.log) records
    → All (NoneTurnsOf (settings_at end settings_left settings_right) (settings_at (other_end end) settings_left settings_right)) records
    → RecordsCrossBoth coming end (settings_at end settings_left settings_right) (settings_at (other_end end) settings_left settings_right) records
    (run_of (two_devices settings_left settings_right) coming left right).trace.log

-- Where both devices have one table, the second turns none of the packets that the first makes of a packet whose
-- destination maps back.
abbrev pub NoneTurnsInPairs : Type 0
NoneTurnsInPairs = (first second : Settings) (bytes : List ℕ) → first.mapping ≡ second.mapping
    → table_fault (entries_of second.mapping) ≡ None → IsReversible second.mapping (ipv4_fields bytes).destination
    → to6 first (ipv4_fields bytes).destination < 2 ^ 128 → NoneTurns first second bytes
