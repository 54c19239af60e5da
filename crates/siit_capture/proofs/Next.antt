-- What stands next in a reading, from what the reading of one item tells.
use Rattle.std.proofs.Common.{◌≡◌, ℕ, ◌+◌, ◌≤◌, List, [], ◌∷◌, ◌++◌, length, take, drop, Option, Some, None, Result, Ok, Err, refl, ap, sym, subst, ◌∙◌, arith, length-take, length-drop}
use Rattle.siit_capture.specs.Captures.{Records, from_record, one_more, past, records_from}
use Rattle.siit_capture.specs.Fronts.{NeedsMore, bad, cut}
use Rattle.siit_capture.specs.Heads.{head_front}
use Rattle.std.proofs.lemmas.List.{drop-take}
use Rattle.siit_capture.specs.Holding.{IsPastHead, found_record}
use Rattle.siit_capture.specs.Queues.{Queue}
use Rattle.siit_capture.specs.Peeks.{IsNext, Peeks, end_of}
use Rattle.siit_capture.specs.Readings.{with_record}
use Rattle.siit_capture.specs.Records.{Record, record_front}
use Rattle.siit_capture.specs.Told.{HasNoHead, IsTold, told_head, told_record}
use Rattle.siit_capture.specs.declared.form.CaptureFault.{CaptureFault}
use Rattle.siit_capture.specs.declared.form.Form.{Form}
use Rattle.siit_capture.specs.declared.record.RecordHead.{RecordHead}
use Rattle.siit_capture.proofs.Pieces.{head_ahead, head_cut, head_faulty, head_uncut, record_ahead, record_faulty, record_given, records_here}
use Rattle.siit_capture.proofs.RecordFronts.{bad_uncut, needs_cut}

end_by : (f : ℕ → List ℕ → Records) (form : Form) (place : ℕ) (rest : List ℕ) → NeedsMore (record_front form rest) → from_record f place (record_front form rest) ≡ end_of (Some form) place rest
end_by f form place [] needs = refl
end_by f form place (byte ∷ rest) needs = ap (from_record f place) (needs_cut form (byte ∷ rest) (omega arith) needs)

module _ (form : Form) (place count : ℕ) (last : Option Record) (rest : List ℕ) where
  captured_is : (head : RecordHead) → 16 + head.captured ≤ length rest → length (told_record head rest).bytes ≡ head.captured
  captured_is head h = omega (arith, length-take head.captured (drop 16 rest), length-drop 16 rest)

  next_by : (answer : Result (Option RecordHead) CaptureFault) → IsTold form answer rest → Peeks answer (record { form = Some form; place = place; count = count; found = last; rest = rest })
  next_by (Ok (Some head)) told =
      let within = told.0 in
      let size : length (told_record head rest).bytes ≡ head.captured = captured_is head within in
      record {
        fits = within;
        captured = size;
        records = λ more.
            record_given form place rest more (told_record head rest) (drop (16 + head.captured) rest) told.1
            ∙ ap (λ n. one_more (told_record head rest) (past place (told_record head rest)) (records_from form (past place (told_record head rest)) (drop (16 + n) rest ++ more))) (sym size);
      }
  next_by (Ok None) needs = record {
    records = records_here form place rest ∙ end_by (records_from form) form place rest needs;
    ahead = λ more found ends left h. record_ahead form place rest more found ends left needs h;
  }
  next_by (Err fault) told = record {
    records = λ more. record_faulty form place rest more fault told;
    uncut = bad_uncut form rest fault told;
  }

-- what a reader that is past the head answers
pub next_record : (of : Option Form) (form : Form) (place count : ℕ) (last : Option Record) (rest : List ℕ) (answer : Result (Option RecordHead) CaptureFault)
    → of ≡ Some form → IsTold form answer rest → Peeks answer (record { form = of; place = place; count = count; found = last; rest = rest })
next_record of form place count last rest answer is told =
    let P : Option Form → Type 0 = λ o. Peeks answer (record { form = o; place = place; count = count; found = last; rest = rest }) in
    subst P (sym is) (next_by form place count last rest answer told)

cut_by : (answer : Option Form) (rest : List ℕ) → HasNoHead (head_front rest) → told_head (Ok answer) rest ≡ head_front rest → head_front rest ≡ cut
cut_by None rest past_it told = sym told
cut_by (Some form) rest past_it told = absurd (subst HasNoHead (sym told) past_it)

-- what one answers that isn't
pub next_head : (of : Option Form) (place count : ℕ) (last : Option Record) (rest : List ℕ) (answer : Option Form)
    → of ≡ None → IsPastHead of rest → told_head (Ok answer) rest ≡ head_front rest → Peeks (Ok None) (record { form = of; place = place; count = count; found = last; rest = rest })
next_head (Some form) place count last rest answer is past_it told = cc
next_head None place count last rest answer is past_it told =
    let short : head_front rest ≡ cut = cut_by answer rest past_it told in
    record {
      records = head_cut place rest short;
      ahead = λ more found ends left h. head_ahead place rest more found ends left short h;
    }

pub faulty_head : (of : Option Form) (place count : ℕ) (last : Option Record) (rest : List ℕ) (fault : CaptureFault)
    → of ≡ None → bad fault ≡ head_front rest → Peeks (Err fault) (record { form = of; place = place; count = count; found = last; rest = rest })
faulty_head (Some form) place count last rest fault is told = cc
faulty_head None place count last rest fault is told = record {
  records = λ more. head_faulty place rest more fault (sym told);
  uncut = head_uncut rest fault (sym told);
}

-- what a reader holds once the record that is next was given
pub given_reading : (of : Option Form) (place count : ℕ) (last : Option Record) (queue : Queue) (rest : List ℕ) (head : RecordHead)
    → queue ≡ record { taken = take (16 + head.captured) rest; rest = drop (16 + head.captured) rest } → IsNext head (record { form = of; place = place; count = count; found = last; rest = rest })
    → record { form = of; place = place + (16 + head.captured); count = count + 1; found = Some (found_record queue.taken head); rest = queue.rest }
    ≡ with_record (told_record head rest) (record { form = of; place = place; count = count; found = last; rest = rest })
given_reading of place count last queue rest head is next =
    let place_is : place + (16 + head.captured) ≡ past place (told_record head rest) = omega (arith, next.captured) in
    let bytes : drop 16 queue.taken ≡ take head.captured (drop 16 rest) =
    ap (λ (q : Queue). drop 16 q.taken) is ∙ drop-take 16 head.captured rest in
    let found : Some (found_record queue.taken head) ≡ Some (told_record head rest) =
    λ i. Some (record { link = head.link; seconds = head.seconds; nanoseconds = head.nanos; bytes = bytes i }) in
    let left : queue.rest ≡ drop (16 + length (told_record head rest).bytes) rest =
    ap (λ (q : Queue). q.rest) is ∙ ap (λ n. drop (16 + n) rest) (sym next.captured) in
    λ i. record { form = of; place = place_is i; count = count + 1; found = found i; rest = left i }
