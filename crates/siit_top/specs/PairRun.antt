-- What a run promises through a pair of relays, a border and an edge with one table (RFC 7755, RFC 7756): each datagram
-- that no line of the report names comes out as itself.
use Rattle.std.specs.Prelude.{◌≡◌, Ok}
use Rattle.siit_chain.specs.Log.{text_of}
use Rattle.siit_chain.specs.declared.origin.End.TheVariants.{Left, Right}
use Rattle.siit_config.specs.Config.{config_of}
use Rattle.siit_delivery.specs.Deliveries.{Delivers}
use Rattle.siit_network.specs.Crossings.{Crossing, run_over}
use Rattle.siit_network.specs.Holding.{HoldTexts}
use Rattle.siit_pair.specs.Pairs.{IsPair}
use Rattle.siit_roles.specs.Chain.{Chain}
use Rattle.siit_running.specs.Inputs.{records_named}
use Rattle.siit_word.specs.Files.{held}
use Rattle.siit_top.specs.CarryRun.{crossing_by}
use Rattle.siit_top.specs.Promises.{reads_of}
use Rattle.siit_top.specs.Runs.{AllTold, Run}
use Rattle.siit_top.specs.Words.{Command, RunFiles, carry_run}
use Rattle.siit_top.specs.declared.status.Status.TheVariants as status

-- The outputs are exactly the texts of what the run wrote, record by record, and by that each datagram which was sent
-- as records of one capture was delivered.
pub record KeepsDatagrams (c : Crossing) (chain : Chain) (pair : IsPair chain) : Type 0 where
  pub holds : HoldTexts c.outputs c.now (text_of (run_over c).trace.log)
  pub delivers : Delivers pair.border pair.edge (records_named c.before (c.captures Left)) (records_named c.before (c.captures Right)) (run_over c).trace.log

-- So does `run`, where it is told what the files that it reads hold, and CONFIG is a pair.
abbrev pub KeepsPair : RunFiles → Run → Type 0
KeepsPair names run =
    AllTold (reads_of (carry_run names)) run.before
    → (chain : Chain) → config_of (held (run.before.contents names.configuration)) ≡ Ok chain
    → (pair : IsPair chain) → KeepsDatagrams (crossing_by chain names run) chain pair

-- what each command promises of pairs, once it ended with Ok
abbrev pub PairPromise : Command → Run → Type 0
PairPromise (carry_run names) run = run.status ≡ status.Ok → KeepsPair names run
PairPromise other run = Unit {0}
