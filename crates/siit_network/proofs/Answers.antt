-- What holds after a run that begins with outputs made anew, by its answer.
use Rattle.std.proofs.Common.{◌≡◌, ◌⊎◌, inl, inr, ℕ, List, [], Option, Some, Result, Ok, Err, IfErr, IfOk, OnErr, OnOk, arith, refl, ap, subst, ◌∙◌}
use Rattle.std.proofs.Math.Seq.{take-nil}
use Rattle.siit_word.specs.Files.{FilesMeaning, Touches}
use Rattle.siit_capture.specs.declared.form.CaptureFault.{CaptureFault}
use Rattle.siit_chain.specs.Carried.{Chain}
use Rattle.siit_chain.specs.Log.{text_of}
use Rattle.siit_chain.specs.Outputs.{GrewByPart, WriteFailedIn}
use Rattle.siit_chain.specs.declared.origin.End.{End}
use Rattle.siit_chain.specs.declared.origin.Output.{Output}
use Rattle.siit_chain.proofs.Grown.{failed_later}
use Rattle.siit_engine.specs.Placed.{Placed}
use Rattle.siit_run.specs.Runs.{Course, Run, finished, stopped}
use Rattle.siit_running.specs.Answers.{AreCounts, AreUnread, HasRun, IsFileFault}
use Rattle.siit_running.specs.Answers as runs
use Rattle.siit_running.specs.Inputs.{AreNoneOf, AreTold, IsTooLong, IsWithin, ReadFailedAt, names_of, started_run, whole_run}
use Rattle.siit_running.specs.Sources.{CaptureFile, MayFailAt, file_named}
use Rattle.siit_running.specs.declared.fault.RunFault.{RunFault}
use Rattle.siit_running.proofs.Sides.{file_same}
use Rattle.siit_running.specs.declared.fault.RunFault.TheVariants as faults
use Rattle.siit_running.specs.declared.running.RunCounts.{RunCounts}
use Rattle.siit_network.specs.Crossings.{Crossing, HasWritten, HoldsAfter, KeepsNear, IsPart}
use Rattle.siit_network.specs.Holding.{HoldParts, HoldTexts}
use Rattle.siit_network.proofs.Anew.{holds_between, holds_part, holds_text}
use Rattle.siit_network.proofs.Creating.{nothing}
use Rattle.siit_network.proofs.Unread.{are_told, failed_before, long_before, near_before, same_run, same_start, unread_before, within_before}

-- OUTPUTS THAT WEREN'T MADE

part_of_none : {names : Output → Option (List ℕ)} {a b : FilesMeaning} {texts : Output → List ℕ} → HoldParts names a b nothing → HoldParts names a b texts
part_of_none {names} {a} {b} {texts} made = record {
  each = λ o name is told. elim (made.each o name is told) [
    | inl same ↦ inl same
    | inr part ↦ inr (0, omega arith, part.2 ∙ ap Some (take-nil part.0))
  ];
}

pub not_made : (c : Crossing) {writes : List (List ℕ)} → Touches c.before c.now [] writes → HoldParts c.outputs c.before c.now nothing
    → WriteFailedIn c.outputs c.before c.now → HoldsAfter c (Err faults.WriteFault)
not_made c wrote made failed =
    (failed, λ told. record { part = part_of_none made; ahead = inl (λ end name is. wrote.given name tt) })

-- A RUN

module _ (chain : Chain Placed) (coming coming_now : ℕ → ℕ → ℕ) (names : End → Option (List ℕ)) (outs : Output → Option (List ℕ)) (before mid now : FilesMeaning) {writes : List (List ℕ)} (apart : AreNoneOf names writes) (wrote : Touches before mid [] writes) (made : HoldTexts outs mid nothing) (ran : Touches mid now (names_of names) writes) where
  abbrev crossing : Crossing
  crossing = record {
    network = chain;
    captures = names;
    outputs = outs;
    before = before;
    now = now;
    coming_before = coming;
    coming_now = coming_now;
  }

  abbrev whole : Run
  whole = whole_run chain coming mid names

  is_whole : whole ≡ whole_run chain coming before names
  is_whole = same_run wrote names chain coming apart

  has_written : (course : Course) → HasRun outs mid now coming_now whole course → HasWritten crossing course
  has_written course has_run =
      let run : HasRun outs mid now coming_now (whole_run chain coming before names) course = subst (λ (w : Run). HasRun outs mid now coming_now w course) is_whole has_run in
      record { ends = run.ends; holds = holds_text made ran run.grew; comes = run.comes }

  is_part : GrewByPart outs mid now (text_of whole.trace.log) → IsPart crossing
  is_part part = holds_part made ran (subst (λ (w : Run). GrewByPart outs mid now (text_of w.trace.log)) is_whole part)

  not_far : runs.IsNotFarAhead chain (started_run coming mid names) names outs mid now → KeepsNear crossing
  not_far far =
      let start = same_start wrote names chain coming apart in
      let same : runs.IsNotFarAhead chain (started_run coming before names) names outs mid now =
      subst (λ (r : Run). runs.IsNotFarAhead chain r names outs mid now) start far in
      record {
        turns = same.turns;
        written = holds_between made ran same.written;
        near = λ end. near_before wrote now _ _ _ (same.near end);
      }

  ahead : AreUnread mid now names ⊎ runs.IsNotFarAhead chain (started_run coming mid names) names outs mid now
      → AreUnread before now names ⊎ KeepsNear crossing
  ahead (inl unread) = inl (unread_before wrote names now unread)
  ahead (inr far) = inr (not_far far)

  -- what a run says of its answer
  pub record Answers (result : Result RunCounts RunFault) : Type 0 where
    pub ok : AreTold mid names → OnOk result (HasRun outs mid now coming_now whole finished)
    pub counts : AreTold mid names → IfOk result (λ counts. AreCounts counts whole)
    pub within : AreTold mid names → OnOk result ((end : End) → IsWithin mid (names end))
    pub bad : (end : End) (place : ℕ) (fault : CaptureFault) → result ≡ Err (faults.BadCapture end place fault)
        → AreTold mid names → HasRun outs mid now coming_now whole (stopped end place fault)
    pub bad_place : (end : End) (place : ℕ) (fault : CaptureFault) → result ≡ Err (faults.BadCapture end place fault)
        → MayFailAt (file_named mid (names end)) place
    pub part : AreTold mid names → OnErr result (GrewByPart outs mid now (text_of whole.trace.log))
    pub near : AreTold mid names → IfErr result (λ fault. IsFileFault fault
        → AreUnread mid now names ⊎ runs.IsNotFarAhead chain (started_run coming mid names) names outs mid now)
    pub read_fault : (end : End) → result ≡ Err (faults.ReadFault end) → ReadFailedAt mid now (names end)
    pub write_fault : result ≡ Err faults.WriteFault → WriteFailedIn outs mid now
    pub too_long : (end : End) → result ≡ Err (faults.TooLong end) → IsTooLong mid (names end)

  pub holds_after : (result : Result RunCounts RunFault) → Answers result → HoldsAfter crossing result
  holds_after (Ok counts) h = λ told.
      let is = are_told wrote names told in
      record {
        written = has_written finished (h.ok is);
        counted = subst (λ (w : Run). AreCounts counts w) is_whole (h.counts is);
        within = λ end. within_before wrote (names end) (apart end) (h.within is end);
      }
  holds_after (Err (faults.ReadFault end)) h = (
    failed_before wrote now (names end) (h.read_fault end refl),
    λ told. let is = are_told wrote names told in record { part = is_part (h.part is); ahead = ahead (h.near is tt) },
  )
  holds_after (Err faults.WriteFault) h = (
    failed_later wrote (h.write_fault refl),
    λ told. let is = are_told wrote names told in record { part = is_part (h.part is); ahead = ahead (h.near is tt) },
  )
  holds_after (Err (faults.BadCapture end place fault)) h = (
    subst (λ (f : Option CaptureFile). MayFailAt f place) (file_same wrote (names end) (apart end)) (h.bad_place end place fault refl),
    λ told. has_written (stopped end place fault) (h.bad end place fault refl (are_told wrote names told)),
  )
  holds_after (Err (faults.TooLong end)) h = (
    long_before wrote (names end) (apart end) (h.too_long end refl),
    λ told. is_part (h.part (are_told wrote names told)),
  )
  holds_after (Err faults.NoMemory) h = λ told. is_part (h.part (are_told wrote names told))
