-- A run through a pair keeps datagrams.
use Rattle.std.proofs.Common.{◌≡◌, List, Option, Some, None, Result, Ok, IfSome, ◌∙◌, ap, sym, subst, refl}
use Rattle.siit_command.specs.Reading.{WasRead}
use Rattle.siit_config.specs.Config.{config_of}
use Rattle.siit_config.specs.Faults.{Fault}
use Rattle.siit_delivery.specs.Laws.{PairsDeliver}
use Rattle.siit_network.specs.Crossings.{Crossing, IsCrossed}
use Rattle.siit_pair.specs.Pairs.{IsPair}
use Rattle.siit_roles.specs.Chain.{Chain}
use Rattle.siit_running.specs.Inputs.{records_named}
use Rattle.siit_word.specs.Files.{held}
use Rattle.siit_chain.specs.declared.origin.End.TheVariants.{Left, Right}
use Rattle.siit_top.specs.CarryRun.{crossing_by, with_given, CarryRunAnswer, IsAccepted}
use Rattle.siit_top.specs.PairRun.{KeepsDatagrams, KeepsPair, PairPromise}
use Rattle.siit_top.specs.Promises.{Promise}
use Rattle.siit_top.specs.Runs.{Run}
use Rattle.siit_top.specs.Words.{Command, RunFiles, carry_run, discover, map_address, synthesis, wkp}
use Rattle.siit_top.specs.declared.status.Status.{Status}
use Rattle.siit_top.specs.declared.status.Status.TheVariants as status
use Rattle.siit_top.proofs.Completed.{held_is, told_names}

-- one outcome has one chain
ok_same : (r : Result Chain Fault) (x y : Chain) → r ≡ Ok x → r ≡ Ok y → x ≡ y
ok_same r x y h k = cc

-- the settings that were carried through are those that CONFIG holds
accepted_keeps : PairsDeliver → (names : RunFiles) (run : Run) → IsAccepted names run status.Ok → KeepsPair names run
accepted_keeps law names run accepted told chain config pair =
    let c : Crossing = crossing_by accepted.chain names (with_given accepted.given run) in
    let bytes = accepted.settings in
    let there : config_of (held (run.before.contents names.configuration)) ≡ Ok accepted.chain =
    ap config_of (held_is (bytes.read.file told.0)) ∙ bytes.settings in
    let same : accepted.chain ≡ chain = ok_same (config_of (held (run.before.contents names.configuration))) accepted.chain chain there config in
    let crossed : IsCrossed c accepted.carried.counts = accepted.carried.holds (told_names run.before names.left names.right told.1) in
    subst (λ (x : Chain). (p : IsPair x) → KeepsDatagrams (crossing_by x names run) x p) same
    (λ p. record {
      holds = crossed.written.holds;
      delivers = law (held (run.before.contents names.configuration)) accepted.chain there p run.coming_before
          (records_named run.before names.left) (records_named run.before names.right) crossed.written.ends;
    }) pair

-- by the status
ended_keeps : PairsDeliver → (names : RunFiles) (run : Run) → CarryRunAnswer names run run.status → run.status ≡ status.Ok → KeepsPair names run
ended_keeps law names run answer is = accepted_keeps law names run (subst (λ (s : Status). CarryRunAnswer names run s) is answer)

pair_promised : PairsDeliver → (command : Command) (run : Run) → Promise command run → PairPromise command run
pair_promised law (carry_run names) run promise = ended_keeps law names run promise.answer
pair_promised law (wkp input output) run promise = tt
pair_promised law (map_address configuration device address) run promise = tt
pair_promised law (discover answer) run promise = tt
pair_promised law (synthesis prefix names output) run promise = tt

pub pair_kept : {read : Option Command} {command : Command} {run : Run} → PairsDeliver → read ≡ Some command → Promise command run
    → IfSome read (λ c. PairPromise c run)
pair_kept {read} {command} {run} law is p = rw is (pair_promised law command run p)
