-- A run over captures without fault comes to its end behind both.
use Rattle.std.proofs.Common.{◌≡◌, ℕ, zero, suc, Bool, true, false, None, refl, ap, sym, subst, ◌∙◌, if◌then◌else◌}
use Rattle.siit_capture.specs.Captures.{Records, ended, faulty, one_more, trouble_of}
use Rattle.siit_chain.specs.Carried.{Chain}
use Rattle.siit_run.specs.Laws.{HasEnded}
use Rattle.siit_run.specs.Runs.{Course, Run, after, begun, carry_left, carry_right, finished, going, head_fault, is_earlier, run_of, started, stopped, turn_at, turn_on, turns_of}
use Rattle.siit_run.proofs.Turns.{run_ends_lem}

abbrev IsUnstopped : Course → Type 0
IsUnstopped going = Unit {0}
IsUnstopped finished = Unit {0}
IsUnstopped (stopped end place fault) = ⊥

record IsFine (run : Run) : Type 0 where
  left : trouble_of run.left ≡ None
  right : trouble_of run.right ≡ None
  course : IsUnstopped run.course

no_head_fault : (records : Records) → trouble_of records ≡ None → head_fault records ≡ None
no_head_fault ended fine = refl
no_head_fault (faulty place fault) fine = absurd (cc)
no_head_fault (one_more found ends rest) fine = refl

finishes_so : (course : Course) → HasEnded course → IsUnstopped course → course ≡ finished
finishes_so going ends fine = absurd ends
finishes_so finished ends fine = refl
finishes_so (stopped end place fault) ends fine = absurd fine

module _ {D : Type 0} (chain : Chain D) where
  either : (b : Bool) (x y : Run) → IsFine x → IsFine y → IsFine (if b then x else y)
  either true x y h k = h
  either false x y h k = k

  fine_at : (left right : Records) (run : Run) → trouble_of left ≡ None → trouble_of right ≡ None → IsFine run → IsFine (turn_at chain left right run)
  fine_at (faulty place fault) right run l r h = absurd (cc)
  fine_at ended (faulty place fault) run l r h = absurd (cc)
  fine_at (one_more found ends rest) (faulty place fault) run l r h = absurd (cc)
  fine_at ended ended run l r h = record { left = h.left; right = h.right; course = tt }
  fine_at (one_more found ends rest) ended run l r h = record { left = l; right = h.right; course = h.course }
  fine_at ended (one_more found ends rest) run l r h = record { left = h.left; right = r; course = h.course }
  fine_at (one_more found ends rest) (one_more other other_ends other_rest) run l r h =
      either (is_earlier other found) (carry_right chain other other_rest run) (carry_left chain found rest run)
      (record { left = h.left; right = r; course = h.course }) (record { left = l; right = h.right; course = h.course })

  fine_on : (course : Course) (run : Run) → IsFine run → IsFine (turn_on chain course run)
  fine_on going run h = fine_at run.left run.right run h.left h.right h
  fine_on finished run h = h
  fine_on (stopped end place fault) run h = h

  fine_after : (n : ℕ) (run : Run) → IsFine run → IsFine (after chain n run)
  unfolding after
  fine_after zero run h = h
  fine_after (suc n) run h = let now = after chain n run in fine_on now.course now (fine_after n run h)

  fine_start : (coming : ℕ → ℕ → ℕ) (left right : Records) → trouble_of left ≡ None → trouble_of right ≡ None → IsFine (started coming left right)
  fine_start coming left right l r =
      let course : begun (head_fault left) (head_fault right) ≡ going =
      ap (λ f. begun f (head_fault right)) (no_head_fault left l) ∙ ap (begun None) (no_head_fault right r) in
      record { left = l; right = r; course = subst (λ (c : Course). IsUnstopped c) (sym course) tt }

  pub run_finishes : (coming : ℕ → ℕ → ℕ) (left right : Records) → trouble_of left ≡ None → trouble_of right ≡ None
      → (run_of chain coming left right).course ≡ finished
  run_finishes coming left right l r =
      let start = started coming left right in
      let end = fine_after (turns_of start) start (fine_start coming left right l r) in
      finishes_so (run_of chain coming left right).course (run_ends_lem chain coming left right) end.course
