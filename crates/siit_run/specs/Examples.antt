-- Runs as worked by hand, over a chain without devices: what enters at one end leaves at the other.
use Rattle.std.specs.Prelude.{◌≡◌, ℕ, List, [], ◌∷◌, false}
use Rattle.siit_capture.specs.Captures.{Records, ended, faulty, one_more}
use Rattle.siit_capture.specs.Records.{Record}
use Rattle.siit_capture.specs.declared.form.CaptureFault.TheVariants.{BadMagic, BadTime, CutRecord}
use Rattle.siit_capture.specs.declared.form.LinkType.TheVariants.{Raw}
use Rattle.siit_rules.specs.declared.rule.Family.TheVariants.{Four}
use Rattle.siit_rules.specs.declared.rule.Rule.TheVariants.{NotIp, OtherFamily}
use Rattle.siit_chain.specs.Carried.{Chain}
use Rattle.siit_chain.specs.Log.{Entry, begins, drops, finishes, leaves}
use Rattle.siit_chain.specs.Outcome.{turned}
use Rattle.siit_chain.specs.declared.origin.End.TheVariants.{Left, Right}
use Rattle.siit_run.specs.Runs.{after, going, origin_of, run_of, started, stopped}

abbrev pub no_devices : Chain ℕ
no_devices = record { outcome = λ device side packet ident. turned packet; measure = λ packet. 0; devices = []; left = Four; right = Four }

-- a record of one byte
abbrev pub at_time : (seconds byte : ℕ) → Record
at_time seconds byte = record { link = Raw; seconds = seconds; nanoseconds = 7; bytes = byte ∷ [] }

abbrev pub no_numbers : ℕ → ℕ → ℕ
no_numbers device k = 0

abbrev pub log_of : (left right : Records) → List Entry
log_of left right = (run_of no_devices no_numbers left right).trace.log

pub record RunExamples : Type 0 where
  pub empty : log_of ended ended
      ≡ begins Left ∷ begins Right ∷ finishes (record { left_read = 0; right_read = 0; left = 0; right = 0; dropped = 0 }) ∷ []
  -- at equal times the left record goes first
  pub tie : log_of (one_more (at_time 5 0x45) 41 ended) (one_more (at_time 5 0x46) 41 ended)
      ≡ begins Left ∷ begins Right ∷ leaves (origin_of Left 1 (at_time 5 0x45)) Right (0x45 ∷ [])
      ∷ leaves (origin_of Right 1 (at_time 5 0x46)) Left (0x46 ∷ [])
      ∷ finishes (record { left_read = 1; right_read = 1; left = 1; right = 1; dropped = 0 }) ∷ []
  -- the earlier one goes first, and each capture counts its own records
  pub merged : log_of (one_more (at_time 5 0x45) 41 (one_more (at_time 9 0x47) 58 ended)) (one_more (at_time 6 0x46) 41 ended)
      ≡ begins Left ∷ begins Right ∷ leaves (origin_of Left 1 (at_time 5 0x45)) Right (0x45 ∷ [])
      ∷ leaves (origin_of Right 1 (at_time 6 0x46)) Left (0x46 ∷ [])
      ∷ leaves (origin_of Left 2 (at_time 9 0x47)) Right (0x47 ∷ [])
      ∷ finishes (record { left_read = 2; right_read = 1; left = 1; right = 2; dropped = 0 }) ∷ []
  -- a record without an IP packet, and one of the other family
  pub dropped : log_of (one_more (at_time 5 0x00) 41 (one_more (at_time 5 0x60) 58 ended)) ended
      ≡ begins Left ∷ begins Right ∷ drops (origin_of Left 1 (at_time 5 0x00)) 0 NotIp false
      ∷ drops (origin_of Left 2 (at_time 5 0x60)) 0 OtherFamily false
      ∷ finishes (record { left_read = 2; right_read = 0; left = 0; right = 0; dropped = 2 }) ∷ []
  -- a fault of the right head comes before one of the left's first record
  pub right_head : (run_of no_devices no_numbers (faulty 24 BadTime) (faulty 0 BadMagic)).course ≡ stopped Right 0 BadMagic
  pub left_head : (run_of no_devices no_numbers (faulty 0 CutRecord) (faulty 0 BadMagic)).course ≡ stopped Left 0 CutRecord
  -- a fault behind a record that is still to be carried isn't looked at yet
  pub not_yet : (after no_devices 1 (started no_numbers (one_more (at_time 9 0x45) 41 (faulty 41 CutRecord)) (one_more (at_time 5 0x45) 41 ended))).course ≡ going
  pub then_stopped : (run_of no_devices no_numbers (one_more (at_time 9 0x45) 41 (faulty 41 CutRecord)) (one_more (at_time 5 0x45) 41 ended)).course
      ≡ stopped Left 41 CutRecord
