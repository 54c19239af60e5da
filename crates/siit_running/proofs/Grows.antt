-- Files that grow by the log of a run, with captures read in between.
use Rattle.std.proofs.Common.{◌≡◌, inl, inr, ℕ, ◌+◌, ◌-◌, List, [], ◌++◌, length, take, drop, Option, refl, ap, sym, subst, ◌∙◌, arith, length-append}
use Rattle.std.proofs.lemmas.Bool.{cases_lt}
use Rattle.std.proofs.lemmas.List.{take-append-le, take_at, drop_at}
use Rattle.std.proofs.Math.Seq.{take-add}
use Rattle.siit_word.specs.Files.{FilesMeaning, Touches, grown}
use Rattle.siit_word.proofs.Touched.{grown-grown, told_after}
use Rattle.siit_capture.specs.Captures.{Records}
use Rattle.siit_chain.specs.Carried.{Chain}
use Rattle.siit_chain.specs.Log.{Entry, text_of}
use Rattle.siit_chain.specs.Outputs.{GrewBy, GrewByPart, WriteFailedIn}
use Rattle.siit_chain.specs.declared.origin.Output.{Output}
use Rattle.siit_chain.proofs.Grown.{grew_as, grown_nothing, joined, text_of-append}
use Rattle.siit_run.specs.Runs.{Run, after, run_of, started, turns_of}
use Rattle.siit_run.proofs.Turns.{Extends, after_adds, after_stays, extends_none, run_ends_lem}
use Rattle.siit_running.specs.Answers.{GrewBetween}

take_into : (first more : List ℕ) (n : ℕ) → take (length first + n) (first ++ more) ≡ first ++ take n more
take_into first more n =
    take-add (length first) n (first ++ more)
    ∙ ap (λ xs. xs ++ take n (drop (length first) (first ++ more))) (take_at first more (length first) refl)
    ∙ ap (λ xs. first ++ take n xs) (drop_at first more (length first) refl)

module _ {names : Output → Option (List ℕ)} {a b c : FilesMeaning} {reads : List (List ℕ)} where
  -- Captures were read, and nothing was written.
  pub grew_read : {texts : Output → List ℕ} → GrewBy names a b texts → Touches b c reads [] → GrewBy names a c texts
  grew_read x only = record { each = λ o name is told. only.contents name tt ∙ x.each o name is told }

module _ {names : Output → Option (List ℕ)} {a b c : FilesMeaning} {reads writes : List (List ℕ)} where
  -- one log behind another
  pub log_behind : (first more : List Entry) → Touches a b reads writes → GrewBy names a b (text_of first) → GrewBy names b c (text_of more) → GrewBy names a c (text_of (first ++ more))
  log_behind first more only x y = grew_as (joined (text_of first) (text_of more)) (text_of (first ++ more)) (λ o. sym (text_of-append first more o)) (record {
    each = λ o name is told.
        y.each o name is (told_after only name told)
        ∙ ap (λ f. grown f (text_of more o)) (x.each o name is told)
        ∙ grown-grown (a.contents name) (text_of first o) (text_of more o);
  })

  -- Writing failed in a later call.
  pub failed_on : Touches a b reads writes → WriteFailedIn names b c → WriteFailedIn names a c
  failed_on only x = let before = only.write_faults x.name in record {
    output = x.output;
    name = x.name;
    named = x.named;
    failed = omega (arith, before, x.failed);
  }

  -- a log, and a part of what comes behind it
  pub log_between : (first more : List Entry) → Touches a b reads writes → GrewBy names a b (text_of first) → GrewByPart names b c (text_of more) → GrewBetween names a c (text_of first) (text_of (first ++ more))
  log_between first more only x y = record {
    each = λ o name is told.
        let part = y.each o name is (told_after only name told) in
        let text = text_of first o in
        let whole = text_of-append first more o in (
          length text + part.0,
          omega arith,
          omega (arith, part.1, length-append text (text_of more o), ap length whole),
          part.2
              ∙ ap (λ f. grown f (take part.0 (text_of more o))) (x.each o name is told)
              ∙ grown-grown (a.contents name) text (take part.0 (text_of more o))
              ∙ ap (grown (a.contents name)) (sym (take_into text (text_of more o) part.0) ∙ ap (take (length text + part.0)) (sym whole)),
        );
  }

module _ {names : Output → Option (List ℕ)} {a : FilesMeaning} where
  pub part_none : (texts : Output → List ℕ) → GrewByPart names a a texts
  part_none texts = record { each = λ o name is told. (0, omega arith, sym (grown_nothing (a.contents name))) }

module _ {names : Output → Option (List ℕ)} {a b : FilesMeaning} where
  -- a part of a longer text
  pub part_of_between : (least most whole : List Entry) → Extends most whole → GrewBetween names a b (text_of least) (text_of most) → GrewByPart names a b (text_of whole)
  part_of_between least most whole e x = record {
    each = λ o name is told.
        let part = x.each o name is told in
        let text : text_of whole o ≡ text_of most o ++ text_of e.more o = ap (λ l. text_of l o) e.is ∙ text_of-append most e.more o in (
          part.0,
          omega (arith, part.2, length-append (text_of most o) (text_of e.more o), ap length text),
          part.3
              ∙ ap (grown (a.contents name)) (sym (take-append-le part.0 (text_of most o) (text_of e.more o) part.2) ∙ ap (take part.0) (sym text)),
        );
  }

module _ {D : Type 0} (chain : Chain D) (coming : ℕ → ℕ → ℕ) (left right : Records) where
  -- what is written in some turns is the front of what the whole run writes
  pub whole_extends : (n : ℕ) → Extends (after chain n (started coming left right)).trace.log (run_of chain coming left right).trace.log
  whole_extends n = elim (cases_lt n (turns_of (started coming left right))) [
    | inl less ↦
        let sum : n + (turns_of (started coming left right) - n) ≡ turns_of (started coming left right) = omega arith in
        subst (λ m. Extends (after chain n (started coming left right)).trace.log (after chain m (started coming left right)).trace.log) sum (after_adds chain n (turns_of (started coming left right) - n) (started coming left right))
    | inr more ↦
        let sum : turns_of (started coming left right) + (n - turns_of (started coming left right)) ≡ n = omega arith in
        let stays = after_stays chain (turns_of (started coming left right)) (n - turns_of (started coming left right)) (started coming left right) (run_ends_lem chain coming left right) in
        subst (λ (r : Run). Extends r.trace.log (run_of chain coming left right).trace.log) (sym stays ∙ ap (λ m. after chain m (started coming left right)) sum) extends_none
  ]
