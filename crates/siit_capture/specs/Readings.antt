-- What a reader of a capture that comes in pieces has told and still holds.
use Rattle.std.specs.Prelude.{◌≡◌, ℕ, ◌+◌, List, [], ◌++◌, length, drop, Option, Some, None, Result, Ok, Err}
use Rattle.siit_capture.specs.Fronts.{Front, bad, cut, done, whole}
use Rattle.siit_capture.specs.Heads.{head_front}
use Rattle.siit_capture.specs.Records.{Record}
use Rattle.siit_capture.specs.Captures.{Records, ended, faulty, one_more, past, records_at}
use Rattle.siit_capture.specs.declared.form.CaptureFault.{CaptureFault}
use Rattle.siit_capture.specs.declared.form.CaptureFault.TheVariants.{CutRecord}
use Rattle.siit_capture.specs.declared.form.Form.{Form}
use Rattle.siit_capture.specs.declared.head.Head.{Head}

pub record Reading : Type 0 where
  -- what the head tells, once it is there
  pub form : Option Form
  -- where the next item begins
  pub place : ℕ
  -- how many records were given
  pub count : ℕ
  -- the record that was given last, where nothing was asked or fed since
  pub found : Option Record
  -- the bytes that were fed from the place on
  pub rest : List ℕ

-- nothing was fed
abbrev pub nothing_fed : Reading
nothing_fed = record { form = None; place = 0; count = 0; found = None; rest = [] }

-- how many bytes were fed in all
abbrev pub fed : Reading → ℕ
fed reading = reading.place + length reading.rest

-- The records that come next, where these bytes follow what was fed, and the capture then ends.
abbrev pub records_to_come : Reading → (more : List ℕ) → Records
records_to_come reading more = records_at reading.form reading.place (reading.rest ++ more)

-- the records that come next in what was fed
abbrev pub records_fed : Reading → Records
records_fed reading = records_to_come reading []

-- a reading behind the head, where a whole one was in front
abbrev pub behind_head : Option Form → Front Form → Reading → Reading
behind_head (Some form) front reading = reading
behind_head None done reading = reading
behind_head None cut reading = reading
behind_head None (bad fault) reading = reading
behind_head None (whole form behind) reading = record reading { form = Some form; place = reading.place + 24; rest = behind }

abbrev pub past_head : Reading → Reading
past_head reading = behind_head reading.form (head_front reading.rest) reading

-- a reading once a piece more was fed
abbrev pub with_piece : Reading → List ℕ → Reading
with_piece reading piece = past_head (record reading { found = None; rest = reading.rest ++ piece })

-- No record is next, nor any fault but that bytes are missing.
abbrev pub WaitsForBytes : Records → Type 0
WaitsForBytes ended = Unit {0}
WaitsForBytes (faulty place fault) = fault ≡ CutRecord
WaitsForBytes (one_more found ends rest) = ⊥

-- No record is next.
abbrev pub HasNoRecord : Records → Type 0
HasNoRecord ended = Unit {0}
HasNoRecord (faulty place fault) = Unit {0}
HasNoRecord (one_more found ends rest) = ⊥

-- a reading once this record, which is next in it, was given
abbrev pub with_record : Record → Reading → Reading
with_record found reading = record reading {
  place = past reading.place found;
  count = reading.count + 1;
  found = Some found;
  rest = drop (16 + length found.bytes) reading.rest;
}

-- This record was given.
pub record IsGiven (head : Head) (found : Record) (old new : Reading) : Type 0 where
  -- it is the next one, whatever follows what was fed
  pub records : (more : List ℕ) → records_to_come old more ≡ one_more found new.place (records_to_come new more)
  pub reading : new ≡ with_record found old
  pub number : head.number ≡ old.count + 1
  pub place : head.place ≡ old.place
  pub seconds : head.seconds ≡ found.seconds
  pub nanoseconds : head.nanos ≡ found.nanoseconds

-- a reading of which nothing was asked but whether it has a record
abbrev pub without_record : Reading → Reading
without_record reading = record reading { found = None }

-- facts of an answer to the question for the next record, by its kind
abbrev pub OnRecord : Result (Option Head) CaptureFault → (Head → Type 0) → Type 0
OnRecord (Ok (Some head)) P = P head
OnRecord (Ok None) P = Unit {0}
OnRecord (Err fault) P = Unit {0}

abbrev pub OnNone : Result (Option Head) CaptureFault → Type 0 → Type 0
OnNone (Ok (Some head)) P = Unit {0}
OnNone (Ok None) P = P
OnNone (Err fault) P = Unit {0}

abbrev pub OnFault : Result (Option Head) CaptureFault → (CaptureFault → Type 0) → Type 0
OnFault (Ok (Some head)) P = Unit {0}
OnFault (Ok None) P = Unit {0}
OnFault (Err fault) P = P fault

-- of either of the last two kinds
abbrev pub OnNoRecord : Result (Option Head) CaptureFault → Type 0 → Type 0
OnNoRecord (Ok (Some head)) P = Unit {0}
OnNoRecord (Ok None) P = P
OnNoRecord (Err fault) P = P

-- what ends a capture here: nothing, or a fault at a place
abbrev pub IsEndOf : Result (Unit {0}) CaptureFault → (place : ℕ) → Records → Type 0
IsEndOf (Ok u) place records = records ≡ ended
IsEndOf (Err fault) place records = records ≡ faulty place fault
