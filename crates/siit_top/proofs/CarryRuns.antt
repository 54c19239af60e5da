-- When `run` may end in which way.
use Rattle.std.proofs.Math.Path.{fun_ext}
use Rattle.std.proofs.Common.{◌≡◌, ◌≢◌, ◌⊎◌, inl, inr, ℕ, ◌≤◌, List, [], ◌∷◌, ◌++◌, length, Option, Some, None, Result, Ok, Err, arith, refl, ap, sym, subst, ◌∙◌}
use Rattle.siit_chain.specs.Outputs.{some_name, WriteFailedIn}
use Rattle.siit_chain.specs.declared.origin.End.{End}
use Rattle.siit_chain.specs.declared.origin.End.TheVariants as ends
use Rattle.siit_chain.specs.declared.origin.Output.{Output}
use Rattle.siit_chain.specs.declared.origin.Output.TheVariants as outputs
use Rattle.siit_command.specs.Reading.{IsLonger, IsUnread, WasRead}
use Rattle.siit_command.specs.declared.reading.Unread.{Unread}
use Rattle.siit_command.specs.declared.reading.Unread.TheVariants as unread
use Rattle.siit_config.specs.Config.{config_of}
use Rattle.siit_config.specs.Faults.{Fault, Tells, bad_eam, bad_value, chain_length, eam, missing, mtu_order, not_symmetric, not_toml, unknown, wrong_kind}
use Rattle.siit_config.specs.declared.fault.ConfigFault.{ConfigFault}
use Rattle.siit_config.specs.declared.fault.ConfigFault.TheVariants as config
use Rattle.siit_network.specs.Crossings.{Crossing}
use Rattle.siit_network.specs.Networks.{network}
use Rattle.siit_roles.specs.Chain.{Chain}
use Rattle.siit_running.specs.Inputs.{names_of, AreNoneOf, ReadFailedAt}
use Rattle.siit_running.specs.declared.fault.RunFault.{RunFault}
use Rattle.siit_running.specs.declared.fault.RunFault.TheVariants as faults
use Rattle.siit_word.specs.Causes.{Rose}
use Rattle.siit_word.specs.Files.{FilesMeaning, IsNoneOf, ReadFailed, Touches}
use Rattle.siit_word.proofs.Touched.{touches_among, touches_then}
use Rattle.siit_top.specs.Carried.{carried_status, output_files, CarriedAnswer, EndsSo, HaveOwnFiles}
use Rattle.siit_top.specs.CarryRun.{captures_of, crossing_by, outputs_of, with_given, AreRefusedBy, CarryRunAnswer, HasFault, HasNoSettings, HasSettings, IsAccepted, IsUntouched}
use Rattle.siit_top.specs.Ends.{unset_status}
use Rattle.siit_top.specs.Promises.{Promise}
use Rattle.siit_top.specs.Runs.{run_between, Run, SomeRose}
use Rattle.siit_top.specs.Words.{carry_run, RunFiles}
use Rattle.siit_top.specs.declared.commands.settings.NoSettings.{NoSettings}
use Rattle.siit_top.specs.declared.commands.settings.NoSettings.TheVariants as unset
use Rattle.siit_top.specs.declared.status.Status.{Status}
use Rattle.siit_top.specs.declared.status.Status.TheVariants as status
use Rattle.siit_top.proofs.CarriedAnswers.{carried_answer, carried_read, carried_silent, carried_write, ends_begun, HasFailedCapture}

-- CONFIG GAVE NO SETTINGS

-- only CONFIG was read
untouched : (names : RunFiles) (before after : FilesMeaning) (coming : ℕ → ℕ → ℕ) (out : List ℕ) (s : Status) → Touches before after (names.configuration ∷ []) []
    → IsUntouched names (run_between before after coming coming out out s)
untouched names before after coming out s only = record {
  unread = λ q isnt. only.given q (isnt, tt);
  unwritten = λ q. only.contents q tt;
  untaken = λ device k. refl;
}

only_configuration : (names : RunFiles) {before after : FilesMeaning} → Touches before after (names.configuration ∷ []) []
    → Touches before after (names.configuration ∷ names_of (captures_of names)) (names.left_output ∷ names.right_output ∷ names.report ∷ [])
only_configuration names only = touches_among only (λ q none. (none.0, tt)) (λ q none. tt)

-- the answer, where CONFIG gave no settings
unset_answer : (none : NoSettings) (names : RunFiles) (before after : FilesMeaning) (coming : ℕ → ℕ → ℕ) (out : List ℕ) → Touches before after (names.configuration ∷ []) []
    → HasNoSettings before after names.configuration none → CarryRunAnswer names (run_between before after coming coming out out (unset_status none)) (unset_status none)
unset_answer (unset.Unread unread.Failed) names before after coming out only why = inl (record { failed = why; untouched = untouched names before after coming out status.ReadFault only })
unset_answer (unset.Unread unread.NoMemory) names before after coming out only why = inl (untouched names before after coming out status.NoMemory only)
unset_answer (unset.Unread unread.TooLong) names before after coming out only why = inl (record { word_of = refl; long = why; untouched = untouched names before after coming out (status.TooLong 1) only })
unset_answer (unset.BadConfig fault) names before after coming out only why = record { fault_there = why; untouched = untouched names before after coming out (status.BadConfig fault) only }
unset_answer unset.NoMemory names before after coming out only why = inl (untouched names before after coming out status.NoMemory only)

unset_read : (none : NoSettings) (names : RunFiles) (before after : FilesMeaning) → HasNoSettings before after names.configuration none → unset_status none ≡ status.ReadFault
    → ReadFailed before after names.configuration
unset_read (unset.Unread unread.Failed) names before after why is = why
unset_read (unset.Unread unread.NoMemory) names before after why is = cc
unset_read (unset.Unread unread.TooLong) names before after why is = cc
unset_read (unset.BadConfig fault) names before after why is = cc
unset_read unset.NoMemory names before after why is = cc

unset_write : (none : NoSettings) {A : Type 0} → unset_status none ≡ status.WriteFault → A
unset_write (unset.Unread unread.Failed) is = cc
unset_write (unset.Unread unread.NoMemory) is = cc
unset_write (unset.Unread unread.TooLong) is = cc
unset_write (unset.BadConfig fault) is = cc
unset_write unset.NoMemory is = cc

pub run_unset : (none : NoSettings) {names : RunFiles} {before after : FilesMeaning} {coming : ℕ → ℕ → ℕ} {out : List ℕ} → Touches before after (names.configuration ∷ []) []
    → HasNoSettings before after names.configuration none → Promise (carry_run names) (run_between before after coming coming out out (unset_status none))
run_unset none {names} {before} {after} {coming} {out} only why = record {
  answer = unset_answer none names before after coming out only why;
  read_fault = λ is. inl (unset_read none names before after why is);
  write_fault = λ is. unset_write none is;
  only = only_configuration names only;
  idents = tt;
  silent = λ isnt. refl;
}

-- THE CAPTURES WERE CARRIED

-- at a capture's name the count rose
left_rose : (left right : Option (List ℕ)) (before after : FilesMeaning) → ReadFailedAt before after left → SomeRose (some_name left ++ some_name right) before.read_faults after.read_faults
left_rose None right before after failed = absurd failed
left_rose (Some name) right before after failed = inl failed

right_rose : (left right : Option (List ℕ)) (before after : FilesMeaning) → ReadFailedAt before after right → SomeRose (some_name left ++ some_name right) before.read_faults after.read_faults
right_rose left None before after failed = absurd failed
right_rose None (Some name) before after failed = inl failed
right_rose (Some first) (Some name) before after failed = inr (inl failed)

some_rose : (names : End → Option (List ℕ)) (before after : FilesMeaning) (end : End) → ReadFailedAt before after (names end) → SomeRose (names_of names) before.read_faults after.read_faults
some_rose names before after ends.Left failed = left_rose (names ends.Left) (names ends.Right) before after failed
some_rose names before after ends.Right failed = right_rose (names ends.Left) (names ends.Right) before after failed

-- at an output's name the count rose
some_output : (names : RunFiles) (before after : FilesMeaning) (o : Output) (name : List ℕ) → outputs_of names o ≡ Some name → Rose (before.write_faults name) (after.write_faults name)
    → SomeRose (names.left_output ∷ names.right_output ∷ names.report ∷ []) before.write_faults after.write_faults
some_output names before after o name is rose = at o is
  where
    moved : (other : List ℕ) → Some other ≡ Some name → Rose (before.write_faults other) (after.write_faults other)
    moved other same =
        let one : other ≡ name = cc in
        subst (λ (n : List ℕ). Rose (before.write_faults n) (after.write_faults n)) (sym one) rose

    at : (p : Output) → outputs_of names p ≡ Some name
        → SomeRose (names.left_output ∷ names.right_output ∷ names.report ∷ []) before.write_faults after.write_faults
    at outputs.Left same = inl (moved names.left_output same)
    at outputs.Right same = inr (inl (moved names.right_output same))
    at outputs.Report same = inr (inr (inl (moved names.report same)))

module _ (names : RunFiles) (before mid after : FilesMeaning) (coming coming_after : ℕ → ℕ → ℕ) (old new : List ℕ) (chain : Chain) (read : Touches before mid (names.configuration ∷ []) []) (settings : HasSettings before names.configuration chain) (wrote : Touches mid after (names_of (captures_of names)) (output_files (outputs_of names))) where
  -- the crossing, once CONFIG was read, and as it is seen from before
  abbrev at_mid : Crossing
  at_mid = crossing_by chain names (run_between mid after coming coming_after old new status.Ok)

  abbrev run_by : Status → Run
  run_by s = run_between before after coming coming_after old new s

  abbrev seen : Crossing
  seen = crossing_by chain names (with_given mid.given (run_by status.Ok))

  accepted : (s : Status) → CarriedAnswer 2 3 seen old new s → IsAccepted names (run_by s) s
  accepted s answer = record {
    chain = chain;
    settings = settings;
    given = mid.given;
    given_else = λ q isnt. read.given q (isnt, tt);
    carried = answer;
  }

  answer_by : (result : Result (Unit {0}) RunFault) → CarriedAnswer 2 3 seen old new (carried_status 2 3 result)
      → CarryRunAnswer names (run_by (carried_status 2 3 result)) (carried_status 2 3 result)
  answer_by (Ok done) a = accepted status.Ok a
  answer_by (Err (faults.ReadFault end)) a = inr (accepted status.ReadFault a)
  answer_by (Err faults.WriteFault) a = accepted status.WriteFault a
  answer_by (Err (faults.BadCapture end place fault)) a = accepted (status.BadCapture end place fault) a
  answer_by (Err (faults.TooLong end)) a = inr (accepted (carried_status 2 3 (Err (faults.TooLong end))) a)
  answer_by (Err faults.NoMemory) a = inr (accepted status.NoMemory a)

  only : Touches before after (names.configuration ∷ names_of (captures_of names)) (names.left_output ∷ names.right_output ∷ names.report ∷ [])
  only = touches_then (only_configuration names read) (touches_among wrote (λ q none. none.1) (λ q none. none))

  pub run_carried : (result : Result (Unit {0}) RunFault) → EndsSo at_mid old new result → Promise (carry_run names) (run_by (carried_status 2 3 result))
  run_carried result ended =
      let begun = ends_begun at_mid before (names.configuration ∷ []) read result old new ended in
      record {
        answer = answer_by result (carried_answer 2 3 seen old new result begun);
        read_fault = λ is.
            let failed = carried_read 2 3 seen old new result begun is in
            inr (some_rose (captures_of names) before after failed.end failed.failed);
        write_fault = λ is.
            let failed = carried_write 2 3 seen old new result begun is in
            some_output names before after failed.output failed.name failed.named failed.failed;
        only = only;
        idents = tt;
        silent = λ isnt. carried_silent 2 3 seen old new result begun isnt;
      }

-- what is said of files by their names alone, for names that are the same
pub run_ended : {names : RunFiles} {before mid after : FilesMeaning} {coming coming_after : ℕ → ℕ → ℕ} {old new : List ℕ} {chain : Chain}
    (result : Result (Unit {0}) RunFault) (captures : End → Option (List ℕ)) (named : Output → Option (List ℕ)) → captures ≡ captures_of names → named ≡ outputs_of names
    → Touches before mid (names.configuration ∷ []) [] → HasSettings before names.configuration chain → Touches mid after (names_of captures) (output_files named)
    → EndsSo (record { network = network chain; captures = captures; outputs = named; before = mid; now = after; coming_before = coming; coming_now = coming_after }) old new result
    → Promise (carry_run names) (run_between before after coming coming_after old new (carried_status 2 3 result))
run_ended {names} {before} {mid} {after} {coming} {coming_after} {old} {new} {chain} result captures named is and read settings wrote ended =
    let files : Touches mid after (names_of (captures_of names)) (output_files (outputs_of names)) =
    subst (λ (n : Output → Option (List ℕ)). Touches mid after (names_of (captures_of names)) (output_files n)) and
    (subst (λ (n : End → Option (List ℕ)). Touches mid after (names_of n) (output_files named)) is wrote) in
    let crossed : EndsSo (record { network = network chain; captures = captures_of names; outputs = outputs_of names; before = mid; now = after; coming_before = coming; coming_now = coming_after }) old new result =
    subst (λ (n : Output → Option (List ℕ)). EndsSo (record { network = network chain; captures = captures_of names; outputs = n; before = mid; now = after; coming_before = coming; coming_now = coming_after }) old new result) and
    (subst (λ (n : End → Option (List ℕ)). EndsSo (record { network = network chain; captures = n; outputs = named; before = mid; now = after; coming_before = coming; coming_now = coming_after }) old new result) is ended) in
    run_carried names before mid after coming coming_after old new chain read settings files result crossed

-- FILES BY THEIR NAMES

pub own_none : {captures given : End → Option (List ℕ)} {named wanted : Output → Option (List ℕ)} → ((end : End) → given end ≡ captures end) → ((o : Output) → named o ≡ wanted o)
    → HaveOwnFiles captures wanted → AreNoneOf given (output_files named)
own_none {captures} {given} {named} {wanted} is same own =
    subst (λ (n : End → Option (List ℕ)). AreNoneOf n (output_files named)) (sym (fun_ext is))
    (subst (λ (n : Output → Option (List ℕ)). AreNoneOf captures (output_files n)) (sym (fun_ext same)) own.none_of)
