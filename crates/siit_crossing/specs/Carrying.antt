-- What a finished run writes of each record is what carrying the record writes.
use Rattle.std.specs.Prelude.{◌≡◌, ℕ, zero, suc, ◌+◌, List, length, Option, Some, None, if◌then◌else◌, slice_get, take}
use Rattle.std.specs.List.{range_with_len}
use Rattle.siit_capture.specs.Captures.{Records, list_of}
use Rattle.siit_capture.specs.LinkPackets.{IpPacket, packet_of}
use Rattle.siit_capture.specs.Records.{Record}
use Rattle.siit_rules.specs.declared.rule.Family.{Family}
use Rattle.siit_chain.specs.Carried.{Chain, fresh, is_family, most_bytes}
use Rattle.siit_chain.specs.Log.{Entry}
use Rattle.siit_chain.specs.declared.origin.End.{End}
use Rattle.siit_chain.specs.declared.origin.End.TheVariants.{Left, Right}
use Rattle.siit_run.specs.Runs.{Run, carry_record}
use Rattle.siit_crossing.specs.Entries.{entries_of_capture, entries_of_record, entries_of_records}

-- of both captures, that at an end
abbrev pub capture_at : End → (left right : Records) → Records
capture_at Left left right = left
capture_at Right left right = right

-- how many records a run has carried of it
abbrev pub read_at : End → Run → ℕ
read_at Left run = run.left_read
read_at Right run = run.right_read

-- the record of a capture with this number, which counts from 1
abbrev pub record_numbered : Records → (number : ℕ) → Option Record
record_numbered capture zero = None
record_numbered capture (suc place) = slice_get (list_of capture) place

-- a record, and its number in its capture
pub record Captured : Type 0 where
  pub number : ℕ
  pub found : Record

abbrev pub IsCaptured : Records → Captured → Type 0
IsCaptured capture captured = record_numbered capture captured.number ≡ Some captured.found

-- the packet of a record that enters a link of this family: its first bytes, or none where it has no such packet
abbrev pub entering_of : Family → Option IpPacket → Option (List ℕ)
entering_of family None = None
entering_of family (Some packet) = if is_family packet.family family then Some (take most_bytes packet.bytes) else None

abbrev pub packet_entering : Family → Record → Option (List ℕ)
packet_entering family found = entering_of family (packet_of found.link found.bytes)

-- a number that a device is given at some time
abbrev pub IsComing : (coming : ℕ → ℕ → ℕ) → (device number : ℕ) → Type 0
IsComing coming device number = (k : ℕ) × (coming device k ≡ number)

-- The numbers that are still to come, of those that were to come at first: of each device so many are gone.
pub record IsStillToCome (coming now : ℕ → ℕ → ℕ) : Type 0 where
  pub gone : ℕ → ℕ
  pub is : (device k : ℕ) → now device k ≡ coming device (gone device + k)

-- All that a log has of a record is what carrying the record writes, with the numbers that were still to come then.
pub record IsRecordCarried {D : Type 0} (chain : Chain D) (coming : ℕ → ℕ → ℕ) (end : End) (captured : Captured) (log : List Entry) : Type 0 where
  pub now : ℕ → ℕ → ℕ
  pub still : IsStillToCome coming now
  pub entries : entries_of_record end captured.number log ≡ (carry_record chain end captured.number captured.found (fresh now)).log

-- Every record of both captures was carried, and what is written of each capture stands in its order.
pub record HasCarriedAll (left right : Records) (run : Run) : Type 0 where
  pub read : (end : End) → read_at end run ≡ length (list_of (capture_at end left right))
  pub order : (end : End) → entries_of_capture end run.trace.log
      ≡ entries_of_records end (range_with_len 1 (length (list_of (capture_at end left right)))) run.trace.log
