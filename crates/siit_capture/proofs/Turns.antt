-- The records of bytes, one step at a time.
use Rattle.std.proofs.Common.{◌≡◌, ℕ, zero, suc, ◌<◌, List, length, refl, ap, arith}
use Rattle.siit_capture.specs.Captures.{Records, from_record, one_more, past, records_from, records_in}
use Rattle.siit_capture.specs.Fronts.{Front, bad, cut, done, whole}
use Rattle.siit_capture.specs.Records.{Record, record_front}
use Rattle.siit_capture.specs.declared.form.Form.{Form}
use Rattle.siit_capture.proofs.RecordFronts.{whole_length}

from_record_same : (f g : ℕ → List ℕ → Records) (place : ℕ) (front : Front Record)
    → ((found : Record) (behind : List ℕ) → front ≡ whole found behind → f (past place found) behind ≡ g (past place found) behind)
    → from_record f place front ≡ from_record g place front
from_record_same f g place done h = refl
from_record_same f g place cut h = refl
from_record_same f g place (bad fault) h = refl
from_record_same f g place (whole found behind) h = ap (λ (rest : Records). one_more found (past place found) rest) (h found behind refl)

-- more turns than bytes change nothing
enough : (n m : ℕ) (form : Form) (place : ℕ) (bytes : List ℕ) → length bytes < n → length bytes < m → records_in n form place bytes ≡ records_in m form place bytes
enough zero m form place bytes h k = absurd (omega arith)
enough (suc n) zero form place bytes h k = absurd (omega arith)
enough (suc n) (suc m) form place bytes h k =
    from_record_same (records_in n form) (records_in m form) place (record_front form bytes) (λ found behind is.
    let long = whole_length form bytes found behind is in
    enough n m form (past place found) behind (omega (arith, long)) (omega (arith, long)))

-- the records are the one at the front and those behind it
pub records_step : (form : Form) (place : ℕ) (bytes : List ℕ) → records_from form place bytes ≡ from_record (records_from form) place (record_front form bytes)
unfolding records_from
records_step form place bytes =
    from_record_same (records_in (length bytes) form) (records_from form) place (record_front form bytes) (λ found behind is.
    let long = whole_length form bytes found behind is in
    enough (length bytes) (suc (length behind)) form (past place found) behind (omega (arith, long)) (omega arith))
