-- What stands next in a reading.
use Rattle.std.specs.Prelude.{◌≡◌, ◌≢◌, ℕ, ◌+◌, ◌<◌, ◌≤◌, List, [], ◌∷◌, length, Option, Some, None, Result, Ok, Err}
use Rattle.siit_capture.specs.Captures.{Records, ended, faulty, one_more}
use Rattle.siit_capture.specs.Readings.{Reading, fed, records_fed, records_to_come, with_record}
use Rattle.siit_capture.specs.Records.{Record}
use Rattle.siit_capture.specs.Told.{told_record}
use Rattle.siit_capture.specs.declared.form.CaptureFault.{CaptureFault}
use Rattle.siit_capture.specs.declared.form.CaptureFault.TheVariants.{CutRecord}
use Rattle.siit_capture.specs.declared.form.Form.{Form}
use Rattle.siit_capture.specs.declared.record.RecordHead.{RecordHead}

-- how a capture ends where no whole item is left
abbrev pub end_of : Option Form → (place : ℕ) → List ℕ → Records
end_of None place rest = faulty place CutRecord
end_of (Some form) place [] = ended
end_of (Some form) place (byte ∷ rest) = faulty place CutRecord

-- A whole record is next.
pub record IsNext (head : RecordHead) (reading : Reading) : Type 0 where
  pub fits : 16 + head.captured ≤ length reading.rest
  pub captured : length (told_record head reading.rest).bytes ≡ head.captured
  pub records : (more : List ℕ) → let after = with_record (told_record head reading.rest) reading in
      records_to_come reading more ≡ one_more (told_record head reading.rest) after.place (records_to_come after more)

-- Bytes are missing, or none are left.
pub record IsMissing (reading : Reading) : Type 0 where
  pub records : records_fed reading ≡ end_of reading.form reading.place reading.rest
  -- the next record ends behind what was fed
  pub ahead : (more : List ℕ) (found : Record) (ends : ℕ) (left : Records) → records_to_come reading more ≡ one_more found ends left → fed reading < ends

-- A fault is next.
pub record IsFaulty (fault : CaptureFault) (reading : Reading) : Type 0 where
  pub records : (more : List ℕ) → records_to_come reading more ≡ faulty reading.place fault
  pub uncut : fault ≢ CutRecord

abbrev pub Peeks : Result (Option RecordHead) CaptureFault → Reading → Type 0
Peeks (Ok (Some head)) reading = IsNext head reading
Peeks (Ok None) reading = IsMissing reading
Peeks (Err fault) reading = IsFaulty fault reading
