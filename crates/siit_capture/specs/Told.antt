-- What the reading of one item answers, and the item that it means.
use Rattle.std.specs.Prelude.{◌≡◌, ℕ, ◌+◌, ◌≤◌, List, drop, length, Option, Some, None, Result, Ok, Err}
use Rattle.siit_model.specs.Bytes.{part}
use Rattle.siit_capture.specs.Fronts.{Front, NeedsMore, bad, cut, done, whole}
use Rattle.siit_capture.specs.Heads.{head_front}
use Rattle.siit_capture.specs.Records.{Record, record_front}
use Rattle.siit_capture.specs.declared.form.CaptureFault.{CaptureFault}
use Rattle.siit_capture.specs.declared.form.Form.{Form}
use Rattle.siit_capture.specs.declared.record.RecordHead.{RecordHead}

abbrev pub told_head : Result (Option Form) CaptureFault → List ℕ → Front Form
told_head (Ok None) bytes = cut
told_head (Ok (Some form)) bytes = whole form (drop 24 bytes)
told_head (Err fault) bytes = bad fault

-- No whole head is at the front.
abbrev pub HasNoHead : Front Form → Type 0
HasNoHead done = Unit {0}
HasNoHead cut = Unit {0}
HasNoHead (bad fault) = Unit {0}
HasNoHead (whole form behind) = ⊥

abbrev pub IsWholeHead : Option Form → List ℕ → Type 0
IsWholeHead None bytes = HasNoHead (head_front bytes)
IsWholeHead (Some form) bytes = head_front bytes ≡ whole form (drop 24 bytes)

-- the record of a head, at the front of these bytes
abbrev pub told_record : RecordHead → List ℕ → Record
told_record head bytes = record {
  link = head.link;
  seconds = head.seconds;
  nanoseconds = head.nanos;
  bytes = part bytes 16 head.captured;
}

abbrev pub IsTold : Form → Result (Option RecordHead) CaptureFault → List ℕ → Type 0
IsTold form (Ok None) bytes = NeedsMore (record_front form bytes)
IsTold form (Ok (Some head)) bytes = (16 + head.captured ≤ length bytes) × (record_front form bytes ≡ whole (told_record head bytes) (drop (16 + head.captured) bytes))
IsTold form (Err fault) bytes = record_front form bytes ≡ bad fault
