-- When `wkp` may end in which way.
use Rattle.std.proofs.Common.{◌≡◌, ◌⊎◌, inl, inr, ℕ, List, [], ◌∷◌, Option, Some, None, Result, Ok, Err, refl, ap, sym, subst, ◌∙◌}
use Rattle.siit_chain.specs.Outputs.{WriteFailedIn}
use Rattle.siit_chain.specs.declared.origin.End.{End}
use Rattle.siit_chain.specs.declared.origin.End.TheVariants as ends
use Rattle.siit_chain.specs.declared.origin.Output.{Output}
use Rattle.siit_chain.specs.declared.origin.Output.TheVariants as outputs
use Rattle.siit_network.specs.Crossings.{Crossing, HoldsAfter}
use Rattle.siit_network.specs.Networks.{network}
use Rattle.siit_running.specs.Inputs.{names_of, ReadFailedAt}
use Rattle.siit_running.specs.declared.fault.RunFault.{RunFault}
use Rattle.siit_running.specs.declared.fault.RunFault.TheVariants as faults
use Rattle.siit_word.specs.Causes.{Rose}
use Rattle.siit_word.specs.Files.{FilesMeaning, Touches}
use Rattle.siit_word.proofs.Touched.{touches_none}
use Rattle.siit_roles.specs.Chain.{Chain}
use Rattle.siit_top.specs.Carried.{carried_status, output_files, EndsSo}
use Rattle.siit_top.specs.Promises.{Promise}
use Rattle.siit_top.specs.Runs.{run_between, SomeRose}
use Rattle.siit_top.specs.WellKnown.{well_known_chain}
use Rattle.siit_top.specs.WkpRun.{wkp_captures, wkp_crossing, wkp_outputs}
use Rattle.siit_top.specs.Words.{wkp}
use Rattle.siit_top.specs.declared.status.Status.TheVariants as status
use Rattle.siit_top.proofs.CarriedAnswers.{carried_answer, carried_read, carried_silent, carried_write, HasFailedCapture}

-- there was no memory for the settings
pub wkp_no_room : {files : FilesMeaning} {coming : ℕ → ℕ → ℕ} {input output out : List ℕ} → Promise (wkp input output) (run_between files files coming coming out out status.NoMemory)
wkp_no_room = record {
  answer = λ told. record { each = λ o name is told. inl refl };
  read_fault = λ is. cc;
  write_fault = λ is. cc;
  only = touches_none;
  idents = tt;
  silent = λ isnt. refl;
}

-- at IN the count rose
some_input : (input : List ℕ) (before after : FilesMeaning) (end : End) → ReadFailedAt before after (wkp_captures input end) → SomeRose (input ∷ []) before.read_faults after.read_faults
some_input input before after ends.Left failed = inl failed
some_input input before after ends.Right failed = absurd failed

-- at OUT it did
some_output : (output : List ℕ) (before after : FilesMeaning) (o : Output) (name : List ℕ) → wkp_outputs output o ≡ Some name → Rose (before.write_faults name) (after.write_faults name)
    → SomeRose (output ∷ []) before.write_faults after.write_faults
some_output output before after outputs.Left name is rose = cc
some_output output before after outputs.Right name is rose =
    let same : output ≡ name = cc in
    inl (subst (λ (n : List ℕ). Rose (before.write_faults n) (after.write_faults n)) (sym same) rose)
some_output output before after outputs.Report name is rose = cc

wkp_carried : (input output : List ℕ) (before after : FilesMeaning) (coming coming_after : ℕ → ℕ → ℕ) (old new : List ℕ) (result : Result (Unit {0}) RunFault) → Touches before after (input ∷ []) (output ∷ [])
    → EndsSo (wkp_crossing input output (run_between before after coming coming_after old new status.Ok)) old new result
    → Promise (wkp input output) (run_between before after coming coming_after old new (carried_status 1 1 result))
wkp_carried input output before after coming coming_after old new result only ended =
    let c : Crossing = wkp_crossing input output (run_between before after coming coming_after old new status.Ok) in
    record {
      answer = carried_answer 1 1 c old new result ended;
      read_fault = λ is.
          let failed = carried_read 1 1 c old new result ended is in
          some_input input before after failed.end failed.failed;
      write_fault = λ is.
          let failed = carried_write 1 1 c old new result ended is in
          some_output output before after failed.output failed.name failed.named failed.failed;
      only = only;
      idents = tt;
      silent = λ isnt. carried_silent 1 1 c old new result ended isnt;
    }

-- what is said of files by their names alone, for names that are the same, and for these settings
pub wkp_ended : {input output : List ℕ} {before after : FilesMeaning} {coming coming_after : ℕ → ℕ → ℕ} {old new : List ℕ} {chain : Chain}
    (result : Result (Unit {0}) RunFault) (captures : End → Option (List ℕ)) (named : Output → Option (List ℕ)) → chain ≡ well_known_chain → captures ≡ wkp_captures input → named ≡ wkp_outputs output
    → Touches before after (names_of captures) (output_files named)
    → EndsSo (record { network = network chain; captures = captures; outputs = named; before = before; now = after; coming_before = coming; coming_now = coming_after }) old new result
    → Promise (wkp input output) (run_between before after coming coming_after old new (carried_status 1 1 result))
wkp_ended {input} {output} {before} {after} {coming} {coming_after} {old} {new} {chain} result captures named built is and touched ended =
    let files : Touches before after (input ∷ []) (output ∷ []) =
    subst (λ (n : Output → Option (List ℕ)). Touches before after (names_of (wkp_captures input)) (output_files n)) and
    (subst (λ (n : End → Option (List ℕ)). Touches before after (names_of n) (output_files named)) is touched) in
    let by_chain : EndsSo (record { network = network well_known_chain; captures = captures; outputs = named; before = before; now = after; coming_before = coming; coming_now = coming_after }) old new result =
    subst (λ (s : Chain). EndsSo (record { network = network s; captures = captures; outputs = named; before = before; now = after; coming_before = coming; coming_now = coming_after }) old new result) built ended in
    let crossed : EndsSo (record { network = network well_known_chain; captures = wkp_captures input; outputs = wkp_outputs output; before = before; now = after; coming_before = coming; coming_now = coming_after }) old new result =
    subst (λ (n : Output → Option (List ℕ)). EndsSo (record { network = network well_known_chain; captures = wkp_captures input; outputs = n; before = before; now = after; coming_before = coming; coming_now = coming_after }) old new result) and
    (subst (λ (n : End → Option (List ℕ)). EndsSo (record { network = network well_known_chain; captures = n; outputs = named; before = before; now = after; coming_before = coming; coming_now = coming_after }) old new result) is by_chain) in
    wkp_carried input output before after coming coming_after old new result files crossed
