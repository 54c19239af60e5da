-- What a run has written of each record, turn by turn.
use Rattle.std.proofs.Common.{◌≡◌, ◌⊎◌, inl, inr, ⊎_elim, ℕ, zero, suc, ◌+◌, ◌<◌, ◌≤◌, List, [], ◌∷◌, ◌++◌, length, drop, Bool, true, false, ◌&&◌, ◌==◌, if◌then◌else◌, Option, Some, None, filter, slice_get, refl, ap, sym, subst, ◌∙◌, arith, ne_eqb, eq-eqb, length-drop}
use Rattle.std.specs.List.{AllByRecursion, range_with_len}
use Rattle.std.proofs.lemmas.Bool.{cases_eq}
use Rattle.std.proofs.lemmas.List.{append-nil}
use Rattle.std.proofs.lemmas.List.Concat.{flat_map-append}
use Rattle.std.proofs.lemmas.List.Elements.{filter-append}
use Rattle.siit_capture.specs.Captures.{Records, ended, faulty, list_of, one_more}
use Rattle.siit_capture.specs.Records.{Record}
use Rattle.siit_capture.specs.declared.form.CaptureFault.{CaptureFault}
use Rattle.siit_chain.specs.Carried.{Chain, Trace, fresh, other_end}
use Rattle.siit_chain.specs.Log.{Entry, finishes}
use Rattle.siit_chain.specs.declared.origin.End.{End}
use Rattle.siit_chain.specs.declared.origin.End.TheVariants.{Left, Right}
use Rattle.siit_chain.specs.declared.origin.Origin.{Origin}
use Rattle.siit_run.specs.Runs.{Course, Run, after, begun, carry_left, carry_record, carry_right, finish, finished, going, head_fault, is_earlier, origin_of, run_of, started, stop, stopped, totals_of, turn_at, turn_on, turns_of}
use Rattle.siit_crossing.specs.Carrying.{Captured, IsCaptured, IsRecordCarried, IsStillToCome, capture_at, read_at, record_numbered}
use Rattle.siit_crossing.specs.Entries.{comes_of, entries_of_capture, entries_of_record, entries_of_records, is_from, is_of, is_same_end}
use Rattle.siit_crossing.specs.Laws.{EachRecordIsCarried, FinishedRunsCarryAll, NumbersAreComing}
use Rattle.siit_crossing.proofs.Own.{Adds, filter-other, filter-own, record-adds, still-same}

-- ENDS

same-end : (end : End) → is_same_end end end ≡ true
same-end Left = refl
same-end Right = refl

-- one end is the other, or the tests know them apart
record AreApart (end other : End) : Type 0 where
  test : is_same_end end other ≡ false
  is : end ≡ other_end other

ends : (end other : End) → (end ≡ other) ⊎ AreApart end other
ends Left Left = inl refl
ends Right Right = inl refl
ends Left Right = inr (record { test = refl; is = refl })
ends Right Left = inr (record { test = refl; is = refl })

-- ENTRIES OF LOGS THAT ARE JOINED

and-false : (a b : Bool) → b ≡ false → (a && b) ≡ false
and-false true b is = is
and-false false b is = refl

and-first : (a b : Bool) → a ≡ false → (a && b) ≡ false
and-first true b is = absurd cc
and-first false b is = refl

and-true : (a b : Bool) → a ≡ true → b ≡ true → (a && b) ≡ true
and-true true b one two = two
and-true false b one two = absurd cc

-- a log with the entries of one record behind it
record Grows (e : End) (number : ℕ) (found : Record) (old new more : List Entry) : Type 0 where
  log : new ≡ old ++ more
  from_here : entries_of_capture e new ≡ entries_of_capture e old ++ more
  from_there : (end : End) → is_same_end end e ≡ false → entries_of_capture end new ≡ entries_of_capture end old
  of_it : entries_of_record e number new ≡ entries_of_record e number old ++ more
  of_others : (n : ℕ) → (n ≡ number → ⊥) → entries_of_record e n new ≡ entries_of_record e n old
  of_there : (end : End) (n : ℕ) → is_same_end end e ≡ false → entries_of_record end n new ≡ entries_of_record end n old

joined : (test : Entry → Bool) (old new more kept : List Entry) → new ≡ old ++ more → filter test more ≡ kept → filter test new ≡ filter test old ++ kept
joined test old new more kept is part = ap (filter test) is ∙ filter-append test old more ∙ ap (λ l. filter test old ++ l) part

joined-none : (test : Entry → Bool) (old new more : List Entry) → new ≡ old ++ more → filter test more ≡ [] → filter test new ≡ filter test old
joined-none test old new more is part = joined test old new more [] is part ∙ append-nil (filter test old)

grows : (e : End) (number : ℕ) (found : Record) (coming : ℕ → ℕ → ℕ) (t result : Trace) (more : List Entry) → Adds (origin_of e number found) coming t result more
    → Grows e number found t.log result.log more
grows e number found coming t result more adds =
    let origin : Origin = origin_of e number found in
    record {
      log = adds.log;
      from_here = joined (comes_of (is_from e)) t.log result.log more more adds.log (filter-own (is_from e) origin more adds.own (same-end e));
      from_there = λ end apart. joined-none (comes_of (is_from end)) t.log result.log more adds.log (filter-other (is_from end) origin more adds.own apart);
      of_it = joined (comes_of (is_of e number)) t.log result.log more more adds.log
          (filter-own (is_of e number) origin more adds.own (and-true (is_same_end e e) (number == number) (same-end e) (eq-eqb number number refl)));
      of_others = λ n other. joined-none (comes_of (is_of e n)) t.log result.log more adds.log
          (filter-other (is_of e n) origin more adds.own (and-false (is_same_end e e) (n == number) (ne_eqb n number other)));
      of_there = λ end n apart. joined-none (comes_of (is_of end n)) t.log result.log more adds.log
          (filter-other (is_of end n) origin more adds.own (and-first (is_same_end end e) (n == number) apart));
    }

-- entries of some records, where none of them has more
all-same : (end : End) (numbers : List ℕ) (old new : List Entry) → AllByRecursion (λ n. entries_of_record end n new ≡ entries_of_record end n old) numbers
    → entries_of_records end numbers new ≡ entries_of_records end numbers old
all-same end [] old new same = refl
all-same end (n ∷ numbers) old new same = λ i. same.0 i ++ all-same end numbers old new same.1 i

in-range : (P : ℕ → Type 0) (a n : ℕ) → ((k : ℕ) → a ≤ k → k < a + n → P k) → AllByRecursion P (range_with_len a n)
in-range P a zero each = tt
in-range P a (suc n) each = (each a (omega arith) (omega arith), in-range P (a + 1) n (λ k low high. each k (omega arith) (omega arith)))

range-last : (a n : ℕ) → range_with_len a (suc n) ≡ range_with_len a n ++ (a + n) ∷ []
range-last a zero = let e : a ≡ a + 0 = omega arith in ap (λ k. k ∷ []) e
range-last a (suc n) = let e : a + 1 + n ≡ a + suc n = omega arith in ap (λ l. a ∷ l) (range-last (a + 1) n ∙ ap (λ k. range_with_len (a + 1) n ++ k ∷ []) e)

-- LISTS, RECORD BY RECORD

some-is : {X : Type 0} (x y : X) → Some x ≡ Some y → x ≡ y
some-is x y e = cc

-- what is at a place, and behind it
drop-at : {X : Type 0} (xs : List X) (n : ℕ) (x : X) (rest : List X) → drop n xs ≡ x ∷ rest → slice_get xs n ≡ Some x
drop-at [] zero x rest is = absurd cc
drop-at [] (suc n) x rest is = absurd cc
drop-at (y ∷ xs) zero x rest is = cc
drop-at (y ∷ xs) (suc n) x rest is = drop-at xs n x rest is

drop-next : {X : Type 0} (xs : List X) (n : ℕ) (x : X) (rest : List X) → drop n xs ≡ x ∷ rest → drop (suc n) xs ≡ rest
drop-next [] zero x rest is = absurd cc
drop-next [] (suc n) x rest is = absurd cc
drop-next (y ∷ xs) zero x rest is = cc
drop-next (y ∷ xs) (suc n) x rest is = drop-next xs n x rest is

drop-within : {X : Type 0} (xs : List X) (n : ℕ) (x : X) (rest : List X) → drop n xs ≡ x ∷ rest → n < length xs
drop-within [] zero x rest is = absurd cc
drop-within [] (suc n) x rest is = absurd cc
drop-within (y ∷ xs) zero x rest is = omega arith
drop-within (y ∷ xs) (suc n) x rest is = omega (arith, drop-within xs n x rest is)

-- THE RUN

abbrev rest_at : End → Run → Records
rest_at Left run = run.left
rest_at Right run = run.right

module _ {D : Type 0} (chain : Chain D) (coming : ℕ → ℕ → ℕ) (left right : Records) where
  -- what is known of a run after some turns
  pub record SoFar (run : Run) : Type 0 where
    still : IsStillToCome coming run.trace.coming
    rest : (end : End) → drop (read_at end run) (list_of (capture_at end left right)) ≡ list_of (rest_at end run)
    within : (end : End) → read_at end run ≤ length (list_of (capture_at end left right))
    carried : (end : End) (captured : Captured) → IsCaptured (capture_at end left right) captured → captured.number ≤ read_at end run
        → IsRecordCarried chain coming end captured run.trace.log
    none : (end : End) (number : ℕ) → read_at end run < number → entries_of_record end number run.trace.log ≡ []
    order : (end : End) → entries_of_capture end run.trace.log ≡ entries_of_records end (range_with_len 1 (read_at end run)) run.trace.log
    behind_all : run.course ≡ finished → (end : End) → list_of (rest_at end run) ≡ []

  -- the record of an end that is carried next
  abbrev carry_at : End → Record → Records → Run → Run
  carry_at Left found rest run = carry_left chain found rest run
  carry_at Right found rest run = carry_right chain found rest run

  record CarriesAt (e : End) (found : Record) (rest : Records) (run next : Run) : Type 0 where
    read_here : read_at e next ≡ read_at e run + 1
    read_there : read_at (other_end e) next ≡ read_at (other_end e) run
    rest_here : rest_at e next ≡ rest
    rest_there : rest_at (other_end e) next ≡ rest_at (other_end e) run
    trace : next.trace ≡ carry_record chain e (read_at e run + 1) found run.trace
    course : next.course ≡ run.course

  carries-at : (e : End) (found : Record) (rest : Records) (run : Run) → CarriesAt e found rest run (carry_at e found rest run)
  carries-at Left found rest run = record { read_here = refl; read_there = refl; rest_here = refl; rest_there = refl; trace = refl; course = refl }
  carries-at Right found rest run = record { read_here = refl; read_there = refl; rest_here = refl; rest_there = refl; trace = refl; course = refl }

  module _ (e : End) (found : Record) (rest : Records) (run next : Run) (so_far : SoFar run) (is : CarriesAt e found rest run next)
      (here : list_of (rest_at e run) ≡ found ∷ list_of rest) (on : run.course ≡ going) where
    abbrev number : ℕ
    number = read_at e run + 1

    abbrev more : List Entry
    more = (carry_record chain e (read_at e run + 1) found (fresh run.trace.coming)).log

    adds : Adds (origin_of e number found) coming run.trace next.trace more
    adds =
        subst (λ (x : Trace). Adds (origin_of e (read_at e run + 1) found) coming run.trace x (carry_record chain e (read_at e run + 1) found (fresh run.trace.coming)).log) (sym is.trace)
        (record-adds chain coming e (read_at e run + 1) found run.trace so_far.still)

    grown : Grows e number found run.trace.log next.trace.log more
    grown = grows e number found coming run.trace next.trace more adds

    next-read : read_at e next ≡ number
    next-read = is.read_here

    here-drop : drop (read_at e run) (list_of (capture_at e left right)) ≡ found ∷ list_of rest
    here-drop = so_far.rest e ∙ here

    carried-kept : (end : End) (captured : Captured) → IsRecordCarried chain coming end captured run.trace.log
        → entries_of_record end captured.number next.trace.log ≡ entries_of_record end captured.number run.trace.log → IsRecordCarried chain coming end captured next.trace.log
    carried-kept end captured c same = record { now = c.now; still = c.still; entries = same ∙ c.entries }

    carried-now : (captured : Captured) → IsCaptured (capture_at e left right) captured → captured.number ≡ number → IsRecordCarried chain coming e captured next.trace.log
    carried-now captured captured_is last =
        let last_suc : captured.number ≡ suc (read_at e run) = omega (arith, last) in
        let at : slice_get (list_of (capture_at e left right)) (read_at e run) ≡ Some captured.found =
        subst (λ n. record_numbered (capture_at e left right) n ≡ Some captured.found) last_suc captured_is in
        let same : found ≡ captured.found =
        some-is found captured.found (sym (drop-at (list_of (capture_at e left right)) (read_at e run) found (list_of rest) here-drop) ∙ at) in
        record {
          now = run.trace.coming;
          still = so_far.still;
          entries =
              ap (λ n. entries_of_record e n next.trace.log) last
              ∙ grown.of_it
              ∙ ap (λ l. l ++ more) (so_far.none e number (omega arith))
              ∙ ap (λ f. (carry_record chain e (read_at e run + 1) f (fresh run.trace.coming)).log) same
              ∙ ap (λ n. (carry_record chain e n captured.found (fresh run.trace.coming)).log) (sym last);
        }

    there-read : (end : End) → end ≡ other_end e → read_at end next ≡ read_at end run
    there-read end apart = subst (λ x. read_at x next ≡ read_at x run) (sym apart) is.read_there

    there-rest : (end : End) → end ≡ other_end e → rest_at end next ≡ rest_at end run
    there-rest end apart = subst (λ x. rest_at x next ≡ rest_at x run) (sym apart) is.rest_there

    next-rest : (end : End) → (end ≡ e) ⊎ AreApart end e → drop (read_at end next) (list_of (capture_at end left right)) ≡ list_of (rest_at end next)
    next-rest end by = elim by [
      | inl same ↦ subst (λ x. drop (read_at x next) (list_of (capture_at x left right)) ≡ list_of (rest_at x next)) (sym same) (at_it (omega (arith, is.read_here)))
      | inr apart ↦ ap (λ n. drop n (list_of (capture_at end left right))) (there-read end apart.is) ∙ so_far.rest end ∙ ap list_of (sym (there-rest end apart.is))
    ]
      where
        at_it : read_at e next ≡ suc (read_at e run) → drop (read_at e next) (list_of (capture_at e left right)) ≡ list_of (rest_at e next)
        at_it one = ap (λ n. drop n (list_of (capture_at e left right))) one
            ∙ drop-next (list_of (capture_at e left right)) (read_at e run) found (list_of rest) here-drop
            ∙ ap list_of (sym is.rest_here)

    next-within : (end : End) → (end ≡ e) ⊎ AreApart end e → read_at end next ≤ length (list_of (capture_at end left right))
    next-within end by = elim by [
      | inl same ↦ subst (λ x. read_at x next ≤ length (list_of (capture_at x left right))) (sym same)
          (omega (arith, is.read_here, drop-within (list_of (capture_at e left right)) (read_at e run) found (list_of rest) here-drop))
      | inr apart ↦ omega (arith, there-read end apart.is, so_far.within end)
    ]

    next-carried : (end : End) (captured : Captured) → (end ≡ e) ⊎ AreApart end e → IsCaptured (capture_at end left right) captured → captured.number ≤ read_at end next
        → IsRecordCarried chain coming end captured next.trace.log
    next-carried end captured by captured_is few = elim by [
      | inl same ↦ subst (λ x. IsCaptured (capture_at x left right) captured → captured.number ≤ read_at x next → IsRecordCarried chain coming x captured next.trace.log) (sym same) at_it
          captured_is few
      | inr apart ↦ carried-kept end captured (so_far.carried end captured captured_is (omega (arith, there-read end apart.is, few)))
          (grown.of_there end captured.number apart.test)
    ]
      where
        at_it : IsCaptured (capture_at e left right) captured → captured.number ≤ read_at e next → IsRecordCarried chain coming e captured next.trace.log
        at_it captured_here few_here =
            ⊎_elim (λ last. carried-now captured captured_here last)
            (λ other. carried-kept e captured (so_far.carried e captured captured_here (omega (arith, is.read_here, few_here, other))) (grown.of_others captured.number other))
            (cases_eq captured.number (read_at e run + 1))

    next-none : (end : End) (n : ℕ) → (end ≡ e) ⊎ AreApart end e → read_at end next < n → entries_of_record end n next.trace.log ≡ []
    next-none end n by above = elim by [
      | inl same ↦ subst (λ x. read_at x next < n → entries_of_record x n next.trace.log ≡ []) (sym same) at_it above
      | inr apart ↦ grown.of_there end n apart.test ∙ so_far.none end n (omega (arith, there-read end apart.is, above))
    ]
      where
        at_it : read_at e next < n → entries_of_record e n next.trace.log ≡ []
        at_it beyond = grown.of_others n (λ same. omega (arith, is.read_here, beyond, same)) ∙ so_far.none e n (omega (arith, is.read_here, beyond))

    next-order : (end : End) → (end ≡ e) ⊎ AreApart end e → entries_of_capture end next.trace.log ≡ entries_of_records end (range_with_len 1 (read_at end next)) next.trace.log
    next-order end by = elim by [
      | inl same ↦ subst (λ x. entries_of_capture x next.trace.log ≡ entries_of_records x (range_with_len 1 (read_at x next)) next.trace.log) (sym same) (at_it (omega (arith, is.read_here)))
      | inr apart ↦
          grown.from_there end apart.test ∙ so_far.order end
          ∙ sym (all-same end (range_with_len 1 (read_at end run)) run.trace.log next.trace.log
          (in-range (λ n. entries_of_record end n next.trace.log ≡ entries_of_record end n run.trace.log) 1 (read_at end run) (λ n low high. grown.of_there end n apart.test)))
          ∙ ap (λ k. entries_of_records end (range_with_len 1 k) next.trace.log) (sym (there-read end apart.is))
    ]
      where
        at_it : read_at e next ≡ suc (read_at e run) → entries_of_capture e next.trace.log ≡ entries_of_records e (range_with_len 1 (read_at e next)) next.trace.log
        at_it one =
            let numbers : List ℕ = range_with_len 1 (read_at e run) in
            let last : 1 + read_at e run ≡ read_at e run + 1 = omega arith in
            grown.from_here
            ∙ ap (λ l. l ++ more) (so_far.order e)
            ∙ ap (λ l. l ++ more)
            (sym (all-same e numbers run.trace.log next.trace.log
            (in-range (λ n. entries_of_record e n next.trace.log ≡ entries_of_record e n run.trace.log) 1 (read_at e run) (λ n low high. grown.of_others n (λ same. omega (arith, high, same))))))
            ∙ ap (λ l. entries_of_records e numbers next.trace.log ++ l)
            (sym (ap (λ n. entries_of_record e n next.trace.log ++ []) last
            ∙ append-nil (entries_of_record e (read_at e run + 1) next.trace.log)
            ∙ grown.of_it
            ∙ ap (λ l. l ++ more) (so_far.none e (read_at e run + 1) (omega arith))))
            ∙ sym (flat_map-append (λ n. entries_of_record e n next.trace.log) numbers ((1 + read_at e run) ∷ []))
            ∙ ap (λ l. entries_of_records e l next.trace.log) (sym (range-last 1 (read_at e run)))
            ∙ ap (λ k. entries_of_records e (range_with_len 1 k) next.trace.log) (sym one)

    going-not : (course : Course) → course ≡ going → course ≡ finished → ⊥
    going-not course one two = cc

    carried-next : SoFar next
    carried-next = record {
      still = adds.still;
      rest = λ end. next-rest end (ends end e);
      within = λ end. next-within end (ends end e);
      carried = λ end captured. next-carried end captured (ends end e);
      none = λ end n. next-none end n (ends end e);
      order = λ end. next-order end (ends end e);
      behind_all = λ over end. absurd (going-not next.course (is.course ∙ on) over);
    }

  -- A turn that carries no record keeps all of this.
  module _ (run next : Run) (so_far : SoFar run) (read : (end : End) → read_at end next ≡ read_at end run) (rest : (end : End) → rest_at end next ≡ rest_at end run)
      (coming_same : next.trace.coming ≡ run.trace.coming) (tail : List Entry) (log : next.trace.log ≡ run.trace.log ++ tail)
      (tail_none : (test : Origin → Bool) → filter (comes_of test) tail ≡ []) where
    kept-of : (end : End) (n : ℕ) → entries_of_record end n next.trace.log ≡ entries_of_record end n run.trace.log
    kept-of end n = joined-none (comes_of (is_of end n)) run.trace.log next.trace.log tail log (tail_none (is_of end n))

    kept-so : (next.course ≡ finished → (end : End) → list_of (rest_at end run) ≡ []) → SoFar next
    kept-so over = record {
      still = subst (λ x. IsStillToCome coming x) (sym coming_same) so_far.still;
      rest = λ end. ap (λ n. drop n (list_of (capture_at end left right))) (read end) ∙ so_far.rest end ∙ ap list_of (sym (rest end));
      within = λ end. omega (arith, read end, so_far.within end);
      carried = λ end captured captured_is few.
          let c = so_far.carried end captured captured_is (omega (arith, read end, few)) in
          record { now = c.now; still = c.still; entries = kept-of end captured.number ∙ c.entries };
      none = λ end n above. kept-of end n ∙ so_far.none end n (omega (arith, read end, above));
      order = λ end.
          joined-none (comes_of (is_from end)) run.trace.log next.trace.log tail log (tail_none (is_from end))
          ∙ so_far.order end
          ∙ sym (all-same end (range_with_len 1 (read_at end run)) run.trace.log next.trace.log
          (in-range (λ n. entries_of_record end n next.trace.log ≡ entries_of_record end n run.trace.log) 1 (read_at end run) (λ n low high. kept-of end n)))
          ∙ ap (λ n. entries_of_records end (range_with_len 1 n) next.trace.log) (sym (read end));
      behind_all = λ is_over end. ap list_of (rest end) ∙ over is_over end;
    }

  -- the last turn
  finished-all : (run : Run) → SoFar run → run.left ≡ ended → run.right ≡ ended → SoFar (finish run)
  finished-all run so_far no_left no_right =
      kept-so run (finish run) so_far (elim [ Left ↦ refl | Right ↦ refl ]) (elim [ Left ↦ refl | Right ↦ refl ]) refl (finishes (totals_of run) ∷ []) refl (λ test. refl)
      (λ over. elim [ Left ↦ ap list_of no_left | Right ↦ ap list_of no_right ])

  stop-not : (end : End) (place : ℕ) (fault : CaptureFault) → stopped end place fault ≡ finished → ⊥
  stop-not end place fault is = cc

  stopped-so : (end : End) (place : ℕ) (fault : CaptureFault) (run : Run) → SoFar run → SoFar (stop end place fault run)
  stopped-so end place fault run so_far =
      kept-so run (stop end place fault run) so_far (elim [ Left ↦ refl | Right ↦ refl ]) (elim [ Left ↦ refl | Right ↦ refl ]) refl [] (sym (append-nil run.trace.log)) (λ test. refl)
      (λ over. absurd (stop-not end place fault over))

  one-carried : (e : End) (found : Record) (ends_at : ℕ) (rest : Records) (run : Run) → SoFar run → rest_at e run ≡ one_more found ends_at rest → run.course ≡ going
      → SoFar (carry_at e found rest run)
  one-carried e found ends_at rest run so_far is on =
      carried-next e found rest run (carry_at e found rest run) so_far (carries-at e found rest run) (ap list_of is) on

  turn_at-so : (one other : Records) (run : Run) → SoFar run → run.left ≡ one → run.right ≡ other → run.course ≡ going → SoFar (turn_at chain one other run)
  turn_at-so (faulty place fault) other run so_far l r on = stopped-so Left place fault run so_far
  turn_at-so ended (faulty place fault) run so_far l r on = stopped-so Right place fault run so_far
  turn_at-so (one_more found ends_at rest) (faulty place fault) run so_far l r on = stopped-so Right place fault run so_far
  turn_at-so ended ended run so_far l r on = finished-all run so_far l r
  turn_at-so (one_more found ends_at rest) ended run so_far l r on = one-carried Left found ends_at rest run so_far l on
  turn_at-so ended (one_more found ends_at rest) run so_far l r on = one-carried Right found ends_at rest run so_far r on
  turn_at-so (one_more found ends_at rest) (one_more other other_ends other_rest) run so_far l r on =
      either (is_earlier other found) (one-carried Right other other_ends other_rest run so_far r on) (one-carried Left found ends_at rest run so_far l on)
    where
      either : (b : Bool) → SoFar (carry_at Right other other_rest run) → SoFar (carry_at Left found rest run)
          → SoFar (if b then carry_at Right other other_rest run else carry_at Left found rest run)
      either true x y = x
      either false x y = y

  turn_on-so : (course : Course) (run : Run) → run.course ≡ course → SoFar run → SoFar (turn_on chain course run)
  turn_on-so going run is so_far = turn_at-so run.left run.right run so_far refl refl is
  turn_on-so finished run is so_far = so_far
  turn_on-so (stopped end place fault) run is so_far = so_far

  begun-not : (one other : Option CaptureFault) → begun one other ≡ finished → ⊥
  begun-not (Some fault) other is = cc
  begun-not None (Some fault) is = cc
  begun-not None None is = cc

  started-so : SoFar (started coming left right)
  started-so = record {
    still = still-same coming;
    rest = elim [ Left ↦ refl | Right ↦ refl ];
    within = elim [ Left ↦ omega arith | Right ↦ omega arith ];
    carried = elim [
      | Left ↦ λ captured captured_is few. absurd (no-zero left captured captured_is few)
      | Right ↦ λ captured captured_is few. absurd (no-zero right captured captured_is few)
    ];
    none = λ end n above. refl;
    order = elim [ Left ↦ refl | Right ↦ refl ];
    behind_all = λ over end. absurd (begun-not (head_fault left) (head_fault right) over);
  }
    where
      none-some : (found : Record) → None ≡ Some found → ⊥
      none-some found is = cc

      no-zero : (capture : Records) (captured : Captured) → IsCaptured capture captured → captured.number ≤ 0 → ⊥
      no-zero capture captured is few =
          let zeroth : captured.number ≡ 0 = omega (arith, few) in
          none-some captured.found (subst (λ n. record_numbered capture n ≡ Some captured.found) zeroth is)

  pub after-so : (turns : ℕ) → SoFar (after chain turns (started coming left right))
  unfolding after
  after-so zero = started-so
  after-so (suc turns) = let run = after chain turns (started coming left right) in turn_on-so run.course run refl (after-so turns)

  whole-so : SoFar (run_of chain coming left right)
  whole-so = after-so (turns_of (started coming left right))

  -- behind both captures every record was read
  all-read : (run_of chain coming left right).course ≡ finished → (end : End) → read_at end (run_of chain coming left right) ≡ length (list_of (capture_at end left right))
  all-read over end =
      let run = run_of chain coming left right in
      let so_far = whole-so in
      let left_over : length (drop (read_at end run) (list_of (capture_at end left right))) ≡ 0 = ap length (so_far.rest end ∙ so_far.behind_all over end) in
      omega (arith, left_over, length-drop (read_at end run) (list_of (capture_at end left right)), so_far.within end)

  numbered-within : (capture : Records) (captured : Captured) → IsCaptured capture captured → captured.number ≤ length (list_of capture)
  numbered-within capture captured is = by captured.number is
    where
      inside : {X : Type 0} (xs : List X) (place : ℕ) (x : X) → slice_get xs place ≡ Some x → place < length xs
      inside [] place x at = absurd cc
      inside (y ∷ xs) zero x at = omega arith
      inside (y ∷ xs) (suc place) x at = omega (arith, inside xs place x at)

      by : (n : ℕ) → record_numbered capture n ≡ Some captured.found → n ≤ length (list_of capture)
      by zero at = omega arith
      by (suc place) at = omega (arith, inside (list_of capture) place captured.found at)

pub each_record_is_carried : {D : Type 0} (chain : Chain D) → EachRecordIsCarried chain
each_record_is_carried chain coming left right over end captured captured_is =
    (whole-so chain coming left right).carried end captured captured_is
    (omega (arith, all-read chain coming left right over end, numbered-within chain coming left right (capture_at end left right) captured captured_is))

pub finished_runs_carry_all : {D : Type 0} (chain : Chain D) → FinishedRunsCarryAll chain
finished_runs_carry_all chain coming left right over =
    let run = run_of chain coming left right in
    record {
      read = all-read chain coming left right over;
      order = λ end.
          (whole-so chain coming left right).order end
          ∙ ap (λ n. entries_of_records end (range_with_len 1 n) run.trace.log) (all-read chain coming left right over end);
    }

pub numbers_are_coming : {D : Type 0} (chain : Chain D) → NumbersAreComing chain
numbers_are_coming chain coming left right turns = (after-so chain coming left right turns).still
