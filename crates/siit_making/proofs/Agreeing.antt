-- What holds of a crossing holds of one whose files agree at all names that it speaks of.
use Rattle.std.proofs.Common.{◌≡◌, inl, inr, ℕ, suc, ◌≤◌, List, length, Bool, Option, Some, None, IsTrue, Result, Ok, Err, refl, ap, sym, subst, ◌∙◌, arith}
use Rattle.siit_word.specs.Causes.{Rose}
use Rattle.siit_word.specs.Files.{FilesMeaning, held}
use Rattle.siit_capture.specs.Captures.{Records, records_of}
use Rattle.siit_chain.specs.Carried.{Chain, HasComing, other_end}
use Rattle.siit_chain.specs.Log.{text_of}
use Rattle.siit_chain.specs.Outputs.{WriteFailedIn}
use Rattle.siit_chain.specs.declared.origin.End.{End}
use Rattle.siit_chain.specs.declared.origin.End.TheVariants.{Left, Right}
use Rattle.siit_chain.specs.declared.origin.Output.{Output}
use Rattle.siit_engine.specs.Placed.{Placed}
use Rattle.siit_network.specs.Crossings.{Crossing, HasWritten, HoldsAfter, IsPart, IsTold, KeepsNear, StopsNear, run_over, start_of}
use Rattle.siit_network.specs.Holding.{HoldBetween, HoldParts, HoldTexts}
use Rattle.siit_run.specs.Ahead.{IsReadAhead}
use Rattle.siit_run.specs.Runs.{Course, Run, after, finished, run_of, started}
use Rattle.siit_running.specs.Answers.{AreCounts, IsNearIn, rest_at}
use Rattle.siit_running.specs.Inputs as inputs
use Rattle.siit_running.specs.Inputs.{IsWithin, records_named}
use Rattle.siit_running.specs.declared.fault.RunFault.{RunFault}
use Rattle.siit_running.specs.declared.fault.RunFault.TheVariants as faults
use Rattle.siit_running.specs.declared.running.RunCounts.{RunCounts}
use Rattle.siit_making.specs.Crossings.{IsNoCaptureFault}

-- At this name the same is known of what the file holds.
pub record Agree (a b : FilesMeaning) (q : List ℕ) : Type 0 where
  pub told : a.told q ≡ b.told q
  pub contents : a.contents q ≡ b.contents q

-- So is it at an output, before and after, and writing it failed as often at least between.
pub record AgreeOut (a b c d : FilesMeaning) (q : List ℕ) : Type 0 where
  pub before : Agree a b q
  pub now : Agree c d q
  pub fewer : b.write_faults q ≤ a.write_faults q
  pub more : c.write_faults q ≤ d.write_faults q

abbrev pub AgreeIn : (a b : FilesMeaning) → Option (List ℕ) → Type 0
AgreeIn a b None = Unit {0}
AgreeIn a b (Some q) = Agree a b q × (a.given q ≡ b.given q)

-- ONE CAPTURE

module _ (a b : FilesMeaning) where
  records_as : (n : Option (List ℕ)) → AgreeIn a b n → records_named a n ≡ records_named b n
  records_as None h = refl
  records_as (Some q) h = ap (λ f. records_of (held f)) h.0.contents

  told_as : (n : Option (List ℕ)) → AgreeIn a b n → inputs.IsTold b n → inputs.IsTold a n
  told_as None h told = tt
  told_as (Some q) h told = subst (λ (t : Bool). IsTrue t) (sym h.0.told) told

  within_as : (n : Option (List ℕ)) → AgreeIn a b n → IsWithin a n → IsWithin b n
  within_as None h within = tt
  within_as (Some q) h within = subst (λ (f : Option (List ℕ)). length (held f) ≤ 4294967296) h.0.contents within

near_as : (a b c d : FilesMeaning) (n other : Option (List ℕ)) (rest : Records) → AgreeIn a b n → AgreeIn c d n → IsNearIn a c n other rest → IsNearIn b d n other rest
near_as a b c d None other rest first last near = tt
near_as a b c d (Some q) other rest first last near = λ apart.
    subst (λ (g : Option ℕ). IsReadAhead g (d.given q) rest) first.1
    (subst (λ (g : Option ℕ). IsReadAhead (a.given q) g rest) last.1 (near apart))

-- A CROSSING

module _ (chain : Chain Placed) (names : End → Option (List ℕ)) (outs : Output → Option (List ℕ)) (a b c d : FilesMeaning) (coming coming_now : ℕ → ℕ → ℕ) (captures : (end : End) → AgreeIn a b (names end) × AgreeIn c d (names end)) (outputs : (o : Output) (q : List ℕ) → outs o ≡ Some q → AgreeOut a b c d q) where
  abbrev crossing : (before now : FilesMeaning) → Crossing
  crossing before now = record {
    network = chain;
    captures = names;
    outputs = outs;
    before = before;
    now = now;
    coming_before = coming;
    coming_now = coming_now;
  }

  same_start : start_of (crossing a c) ≡ start_of (crossing b d)
  same_start =
      ap (λ left. started coming left (records_named a (names Right))) (records_as a b (names Left) (captures Left).0)
      ∙ ap (started coming (records_named b (names Left))) (records_as a b (names Right) (captures Right).0)

  same_run : run_over (crossing a c) ≡ run_over (crossing b d)
  same_run =
      ap (λ left. run_of chain coming left (records_named a (names Right))) (records_as a b (names Left) (captures Left).0)
      ∙ ap (run_of chain coming (records_named b (names Left))) (records_as a b (names Right) (captures Right).0)

  told_same : IsTold (crossing b d) → IsTold (crossing a c)
  told_same told end = told_as a b (names end) (captures end).0 (told end)

  texts_as : (texts : Output → List ℕ) → HoldTexts outs c texts → HoldTexts outs d texts
  texts_as texts h = record {
    each = λ o q is told.
        let same = (outputs o q is).now in
        sym same.contents ∙ h.each o q is (subst (λ (t : Bool). IsTrue t) (sym same.told) told);
  }

  parts_as : (texts : Output → List ℕ) → HoldParts outs a c texts → HoldParts outs b d texts
  parts_as texts h = record {
    each = λ o q is told.
        let before = (outputs o q is).before in
        let same = (outputs o q is).now in
        elim (h.each o q is (subst (λ (t : Bool). IsTrue t) (sym same.told) told)) [
          | inl kept ↦ inl (sym same.contents ∙ kept ∙ before.contents)
          | inr part ↦ inr (part.0, part.1, sym same.contents ∙ part.2)
        ];
  }

  between_as : (least most : Output → List ℕ) → HoldBetween outs c least most → HoldBetween outs d least most
  between_as least most h = record {
    each = λ o q is told.
        let same = (outputs o q is).now in
        let part = h.each o q is (subst (λ (t : Bool). IsTrue t) (sym same.told) told) in
        (part.0, part.1, part.2, sym same.contents ∙ part.3);
  }

  written_as : (course : Course) → HasWritten (crossing a c) course → HasWritten (crossing b d) course
  written_as course h = record {
    ends = ap (λ (r : Run). r.course) (sym same_run) ∙ h.ends;
    holds = subst (λ (r : Run). HoldTexts outs d (text_of r.trace.log)) same_run (texts_as (text_of (run_over (crossing a c)).trace.log) h.holds);
    comes = subst (λ (r : Run). HasComing coming_now r.trace) same_run h.comes;
  }

  part_as : IsPart (crossing a c) → IsPart (crossing b d)
  part_as h = subst (λ (r : Run). HoldParts outs b d (text_of r.trace.log)) same_run (parts_as (text_of (run_over (crossing a c)).trace.log) h)

  keeps_near : KeepsNear (crossing a c) → KeepsNear (crossing b d)
  keeps_near h = record {
    turns = h.turns;
    written = subst (λ (r : Run). HoldBetween outs d (text_of (after chain h.turns r).trace.log) (text_of (after chain (suc h.turns) r).trace.log)) same_start
        (between_as _ _ h.written);
    near = λ end. subst (λ (r : Run). IsNearIn b d (names end) (names (other_end end)) (rest_at end (after chain h.turns r))) same_start
        (near_as a b c d (names end) (names (other_end end)) _ (captures end).0 (captures end).1 (h.near end));
  }

  unread_at : (n : Option (List ℕ)) (q : List ℕ) → n ≡ Some q → AgreeIn a b n → AgreeIn c d n → c.given q ≡ a.given q → d.given q ≡ b.given q
  unread_at None q is first last same = absurd (cc)
  unread_at (Some p) q is first last same =
      let e : p ≡ q = cc in
      sym (subst (λ (x : List ℕ). c.given x ≡ d.given x) e last.1) ∙ same ∙ subst (λ (x : List ℕ). a.given x ≡ b.given x) e first.1

  stops_near : StopsNear (crossing a c) → StopsNear (crossing b d)
  stops_near h = record {
    part = part_as h.part;
    ahead = elim h.ahead [
      | inl unread ↦ inl (λ end q is. unread_at (names end) q is (captures end).0 (captures end).1 (unread end q is))
      | inr near ↦ inr (keeps_near near)
    ];
  }

  failed_as : WriteFailedIn outs a c → WriteFailedIn outs b d
  failed_as h =
      let same = outputs h.output h.name h.named in
      record {
        output = h.output;
        name = h.name;
        named = h.named;
        failed = omega (arith, h.failed, same.fewer, same.more);
      }

  pub holds_as : (result : Result RunCounts RunFault) → (faultless : (fault : RunFault) → result ≡ Err fault → IsNoCaptureFault fault)
      → HoldsAfter (crossing a c) result → HoldsAfter (crossing b d) result
  holds_as (Ok counts) faultless h = λ told.
      let all = h (told_same told) in
      record {
        written = written_as finished all.written;
        counted = subst (λ (r : Run). AreCounts counts r) same_run all.counted;
        within = λ end. within_as a b (names end) (captures end).0 (all.within end);
      }
  holds_as (Err (faults.ReadFault end)) faultless h = absurd (faultless (faults.ReadFault end) refl)
  holds_as (Err faults.WriteFault) faultless h = (failed_as h.0, λ told. stops_near (h.1 (told_same told)))
  holds_as (Err (faults.BadCapture end place fault)) faultless h = absurd (faultless (faults.BadCapture end place fault) refl)
  holds_as (Err (faults.TooLong end)) faultless h = absurd (faultless (faults.TooLong end) refl)
  holds_as (Err faults.NoMemory) faultless h = λ told. part_as (h (told_same told))
