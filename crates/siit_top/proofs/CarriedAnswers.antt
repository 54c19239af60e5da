-- What holds of captures that were carried, as it is seen from before another file was read, and by the status.
use Rattle.std.proofs.Common.{◌≡◌, ◌≢◌, ◌⊎◌, inl, inr, ℕ, ◌≤◌, List, [], ◌∷◌, ◌++◌, length, take, Option, Some, None, Result, Ok, Err, IsTrue, arith, refl, ap, sym, subst, ◌∙◌}
use Rattle.std.proofs.Math.Path.{fun_ext}
use Rattle.std.proofs.lemmas.List.{take_all}
use Rattle.siit_chain.specs.Log.{entry_text, finishes, text_of}
use Rattle.siit_chain.specs.Outputs.{WriteFailedIn}
use Rattle.siit_chain.specs.Texts.{end_line}
use Rattle.siit_chain.specs.declared.origin.End.{End}
use Rattle.siit_chain.specs.declared.origin.Output.{Output}
use Rattle.siit_network.specs.Crossings.{Crossing, HasWritten, HoldsAfter, IsCrossed, IsPart, IsTold, KeepsNear, StopsNear, run_over}
use Rattle.siit_network.specs.Holding.{HoldParts, HoldTexts}
use Rattle.siit_run.specs.Runs.{Course, Run as Turned, totals_of}
use Rattle.siit_running.specs.Answers.{totals_told, AreCounts, AreUnread}
use Rattle.siit_running.specs.Inputs.{ReadFailedAt}
use Rattle.siit_running.proofs.Stops.{line_is}
use Rattle.siit_running.specs.declared.fault.RunFault.{RunFault}
use Rattle.siit_running.specs.declared.fault.RunFault.TheVariants as faults
use Rattle.siit_running.specs.declared.running.RunCounts.{RunCounts}
use Rattle.siit_word.specs.Causes.{NeverFalls}
use Rattle.siit_word.specs.Files.{FilesMeaning, Touches}
use Rattle.siit_top.specs.Carried.{carried_status, CarriedAnswer, EndsSo, IsDone}
use Rattle.siit_top.specs.declared.status.Status.{Status}
use Rattle.siit_top.specs.declared.status.Status.TheVariants as status

-- THE END LINE

line_told : (whole : Turned) (counts : RunCounts) → AreCounts counts whole → end_line (totals_told counts) ≡ end_line (totals_of whole)
unfolding entry_text
line_told whole counts are = line_is whole counts are.left_read are.right_read are.written

pub is_done : (c : Crossing) (counts : RunCounts) (old new : List ℕ) → HoldsAfter c (Ok counts) → new ≡ old ++ end_line (totals_told counts) → IsDone c old new
is_done c counts old new holds line = record {
  counts = counts;
  holds = holds;
  line = line;
  told_line = λ told. line ∙ ap (λ (text : List ℕ). old ++ text) (line_told (run_over c) counts (holds told).counted);
}

-- What was written whole was written in part.
whole_part : {names : Output → Option (List ℕ)} (before : FilesMeaning) {now : FilesMeaning} (texts : Output → List ℕ) → HoldTexts names now texts → HoldParts names before now texts
whole_part before texts whole = record {
  each = λ o name is told. inr (length (texts o), omega arith, whole.each o name is told ∙ ap Some (sym (take_all (length (texts o)) (texts o) (omega arith))));
}

-- the line wasn't printed, for want of memory
pub not_printed : (c : Crossing) (counts : RunCounts) → HoldsAfter c (Ok counts) → HoldsAfter c (Err faults.NoMemory)
not_printed c counts holds = λ told. whole_part c.before (text_of (run_over c).trace.log) (holds told).written.holds

-- SEEN FROM BEFORE

-- A crossing as it is seen where less had failed yet.
module _ (c : Crossing) (reads writes : List ℕ → ℕ) (fewer_reads : NeverFalls reads c.before.read_faults) (fewer_writes : NeverFalls writes c.before.write_faults) where
  abbrev earlier : Crossing
  earlier = record c { before = record c.before { read_faults = reads; write_faults = writes } }

  written_earlier : (course : Course) → HasWritten c course → HasWritten earlier course
  written_earlier course w = record { ends = w.ends; holds = w.holds; comes = w.comes }

  part_earlier : IsPart c → IsPart earlier
  part_earlier part = record { each = part.each }

  near_earlier : KeepsNear c → KeepsNear earlier
  near_earlier k = record { turns = k.turns; written = k.written; near = k.near }

  ahead_earlier : AreUnread c.before c.now c.captures ⊎ KeepsNear c → AreUnread earlier.before c.now c.captures ⊎ KeepsNear earlier
  ahead_earlier (inl unread) = inl unread
  ahead_earlier (inr near) = inr (near_earlier near)

  stops_earlier : StopsNear c → StopsNear earlier
  stops_earlier s = record { part = part_earlier s.part; ahead = ahead_earlier s.ahead }

  read_failed_earlier : (name : Option (List ℕ)) → ReadFailedAt c.before c.now name → ReadFailedAt earlier.before c.now name
  read_failed_earlier None failed = failed
  read_failed_earlier (Some name) failed = let fewer = fewer_reads name in omega (arith, fewer, failed)

  write_failed_earlier : WriteFailedIn c.outputs c.before c.now → WriteFailedIn c.outputs earlier.before c.now
  write_failed_earlier w =
      let fewer = fewer_writes w.name in
      let failed = w.failed in
      record { output = w.output; name = w.name; named = w.named; failed = omega (arith, fewer, failed) }

  pub holds_earlier : (result : Result RunCounts RunFault) → HoldsAfter c result → HoldsAfter earlier result
  holds_earlier (Ok counts) h = λ told.
      let is = h told in
      record { written = written_earlier _ is.written; counted = is.counted; within = is.within }
  holds_earlier (Err (faults.ReadFault end)) h = (read_failed_earlier (c.captures end) h.0, λ told. stops_earlier (h.1 told))
  holds_earlier (Err faults.WriteFault) h = (write_failed_earlier h.0, λ told. stops_earlier (h.1 told))
  holds_earlier (Err (faults.BadCapture end place fault)) h = (h.0, λ told. written_earlier _ (h.1 told))
  holds_earlier (Err (faults.TooLong end)) h = (h.0, λ told. part_earlier (h.1 told))
  holds_earlier (Err faults.NoMemory) h = λ told. part_earlier (h told)

-- Once a file was read, nothing else than how far is other than before.
module _ (c : Crossing) (before : FilesMeaning) (reads : List (List ℕ)) (read : Touches before c.before reads []) where
  abbrev begun : Crossing
  begun = record c { before = record before { given = c.before.given } }

  abbrev mixed : FilesMeaning
  mixed = record c.before { told = before.told; contents = before.contents }

  is_mixed : c.before ≡ mixed
  is_mixed =
      let told = fun_ext read.told in
      let contents = fun_ext (λ q. read.contents q tt) in
      λ i. record c.before { told = told i; contents = contents i }

  pub holds_begun : (result : Result RunCounts RunFault) → HoldsAfter c result → HoldsAfter begun result
  holds_begun result h =
      holds_earlier (record c { before = mixed }) before.read_faults before.write_faults read.read_faults read.write_faults result
      (subst (λ (files : FilesMeaning). HoldsAfter (record c { before = files }) result) is_mixed h)

  pub ends_begun : (result : Result (Unit {0}) RunFault) (old new : List ℕ) → EndsSo c old new result → EndsSo begun old new result
  ends_begun (Ok done) old new e = is_done begun e.counts old new (holds_begun (Ok e.counts) e.holds) e.line
  ends_begun (Err fault) old new e = (holds_begun (Err fault) e.0, e.1)

-- BY THE STATUS

pub carried_answer : (left right : ℕ) (c : Crossing) (old new : List ℕ) (result : Result (Unit {0}) RunFault) → EndsSo c old new result
    → CarriedAnswer left right c old new (carried_status left right result)
carried_answer left right c old new (Ok done) e = e
carried_answer left right c old new (Err (faults.ReadFault end)) e = record { end = end; holds = e.0 }
carried_answer left right c old new (Err faults.WriteFault) e = e.0
carried_answer left right c old new (Err (faults.BadCapture end place fault)) e = e.0
carried_answer left right c old new (Err (faults.TooLong end)) e = record { end = end; word_of = refl; holds = e.0 }
carried_answer left right c old new (Err faults.NoMemory) e = e.0

pub carried_silent : (left right : ℕ) (c : Crossing) (old new : List ℕ) (result : Result (Unit {0}) RunFault) → EndsSo c old new result
    → carried_status left right result ≢ status.Ok → new ≡ old
carried_silent left right c old new (Ok done) e isnt = absurd (isnt refl)
carried_silent left right c old new (Err fault) e isnt = e.1

-- the capture whose reading failed
pub record HasFailedCapture (c : Crossing) : Type 0 where
  pub end : End
  pub failed : ReadFailedAt c.before c.now (c.captures end)

pub carried_read : (left right : ℕ) (c : Crossing) (old new : List ℕ) (result : Result (Unit {0}) RunFault) → EndsSo c old new result
    → carried_status left right result ≡ status.ReadFault → HasFailedCapture c
carried_read left right c old new (Ok done) e is = cc
carried_read left right c old new (Err (faults.ReadFault end)) e is = record { end = end; failed = e.0.0 }
carried_read left right c old new (Err faults.WriteFault) e is = cc
carried_read left right c old new (Err (faults.BadCapture end place fault)) e is = cc
carried_read left right c old new (Err (faults.TooLong end)) e is = cc
carried_read left right c old new (Err faults.NoMemory) e is = cc

pub carried_write : (left right : ℕ) (c : Crossing) (old new : List ℕ) (result : Result (Unit {0}) RunFault) → EndsSo c old new result
    → carried_status left right result ≡ status.WriteFault → WriteFailedIn c.outputs c.before c.now
carried_write left right c old new (Ok done) e is = cc
carried_write left right c old new (Err (faults.ReadFault end)) e is = cc
carried_write left right c old new (Err faults.WriteFault) e is = e.0.0
carried_write left right c old new (Err (faults.BadCapture end place fault)) e is = cc
carried_write left right c old new (Err (faults.TooLong end)) e is = cc
carried_write left right c old new (Err faults.NoMemory) e is = cc
