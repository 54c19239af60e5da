-- The records of a capture: one after another up to its end or its first fault, and that fault with its place.
use Rattle.std.specs.Prelude.{ℕ, zero, suc, ◌+◌, List, [], ◌∷◌, length, Option, Some, None}
use Rattle.siit_capture.specs.Fronts.{Front, bad, cut, done, whole}
use Rattle.siit_capture.specs.Heads.{head_front}
use Rattle.siit_capture.specs.Records.{Record, record_front}
use Rattle.siit_capture.specs.declared.form.CaptureFault.{CaptureFault}
use Rattle.siit_capture.specs.declared.form.CaptureFault.TheVariants.{CutRecord}
use Rattle.siit_capture.specs.declared.form.Form.{Form}

-- what any form of capture is read as
pub data Records : Type 0 where
  ended : Records
  -- the fault, and the place of the item that has it
  faulty : (place : ℕ) (fault : CaptureFault) → Records
  -- a record, the place past its last byte, and what follows
  one_more : (found : Record) (ends : ℕ) (rest : Records) → Records

-- the records before the end or the fault
abbrev pub list_of : Records → List Record
list_of ended = []
list_of (faulty place fault) = []
list_of (one_more found ends rest) = found ∷ list_of rest

pub record Trouble : Type 0 where
  pub place : ℕ
  pub fault : CaptureFault

-- the fault behind them, or none
abbrev pub trouble_of : Records → Option Trouble
trouble_of ended = None
trouble_of (faulty place fault) = Some (record { place = place; fault = fault })
trouble_of (one_more found ends rest) = trouble_of rest

-- the place past a record that begins at a place
abbrev pub past : ℕ → Record → ℕ
past place found = place + 16 + length found.bytes

abbrev pub from_record : (ℕ → List ℕ → Records) → (place : ℕ) → Front Record → Records
from_record rest place done = ended
from_record rest place cut = faulty place CutRecord
from_record rest place (bad fault) = faulty place fault
from_record rest place (whole found behind) = one_more found (past place found) (rest (past place found) behind)

abbrev pub records_in : (turns : ℕ) → Form → (place : ℕ) → List ℕ → Records
records_in zero form place bytes = ended
records_in (suc turns) form place bytes = from_record (records_in turns form) place (record_front form bytes)

-- The records from a place behind the head on, where these bytes are left. Each takes a byte at least, so that one turn
-- more than there are bytes is enough.
unfoldable pub records_from : Form → (place : ℕ) → List ℕ → Records
records_from form place bytes = records_in (suc (length bytes)) form place bytes

abbrev pub from_head : (place : ℕ) → Front Form → Records
from_head place done = ended
from_head place cut = faulty place CutRecord
from_head place (bad fault) = faulty place fault
from_head place (whole form behind) = records_from form (place + 24) behind

-- the records from a place on, by the form that the head has told, if it was read
abbrev pub records_at : Option Form → (place : ℕ) → List ℕ → Records
records_at None place bytes = from_head place (head_front bytes)
records_at (Some form) place bytes = records_from form place bytes

-- the records of a whole capture
abbrev pub records_of : List ℕ → Records
records_of bytes = records_at None 0 bytes
