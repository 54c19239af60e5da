-- What a run finds next in a capture.
use Rattle.std.specs.Prelude.{◌≡◌, ℕ, ◌+◌, ◌<◌, List, drop, Option, Some, None, Result, Ok, Err}
use Rattle.siit_capture.specs.Captures.{Records, ended, faulty, one_more}
use Rattle.siit_capture.specs.Readings.{Reading, fed, records_to_come}
use Rattle.siit_capture.specs.Records.{Record}
use Rattle.siit_capture.specs.declared.head.Head.{Head}
use Rattle.siit_run.specs.declared.looking.Stop.{Stop}
use Rattle.siit_run.specs.declared.looking.Stop.TheVariants.{Bad, Failed, TooLong}

-- the records that are left of a capture of these bytes, of which a part was fed to a reader
abbrev pub records_left : (bytes : List ℕ) → Reading → Records
records_left bytes reading = records_to_come reading (drop (fed reading) bytes)

-- A head tells of the record that was given last which it is, and its time.
pub record IsHeadOf (head : Head) (reading : Reading) : Type 0 where
  pub record_found : Record
  pub given : reading.found ≡ Some record_found
  pub number : head.number ≡ reading.count
  pub seconds : head.seconds ≡ record_found.seconds
  pub nanoseconds : head.nanos ≡ record_found.nanoseconds

-- One record more was given, by its head.
pub record GivesOne (head : Head) (old new : Reading) : Type 0 where
  pub is_head : IsHeadOf head new
  pub counted : new.count ≡ old.count + 1
  pub further : old.place < new.place

-- A record was next, and was given.
pub record FindsRecord (head : Head) (bytes : List ℕ) (old new : Reading) : Type 0 where
  pub record_found : Record
  pub next : records_left bytes old ≡ one_more record_found new.place (records_left bytes new)
  pub given : new.found ≡ Some record_found
  pub seconds : head.seconds ≡ record_found.seconds
  pub nanoseconds : head.nanos ≡ record_found.nanoseconds

-- the answer to the question for the next record, by what was left before
abbrev pub Finds : Result (Option Head) Stop → (bytes : List ℕ) → (old new : Reading) → Type 0
Finds (Ok (Some head)) bytes old new = FindsRecord head bytes old new
Finds (Ok None) bytes old new = records_left bytes old ≡ ended
Finds (Err (Bad fault)) bytes old new = records_left bytes old ≡ faulty new.place fault
Finds (Err Failed) bytes old new = Unit {0}
Finds (Err TooLong) bytes old new = Unit {0}

-- how a capture ends of which all was read
abbrev pub EndsSo : Result (Option Head) Stop → (place : ℕ) → Records → Type 0
EndsSo (Ok None) place records = records ≡ ended
EndsSo (Ok (Some head)) place records = ⊥
EndsSo (Err (Bad fault)) place records = records ≡ faulty place fault
EndsSo (Err Failed) place records = ⊥
EndsSo (Err TooLong) place records = ⊥
