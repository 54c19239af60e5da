use Rattle.std.proofs.Common.{refl}
use Rattle.siit_chain.specs.Carried.{carried, carry, event}
use Rattle.siit_run.specs.Runs.{after}
use Rattle.siit_run.proofs.examples.run_examples.Goals as goal

pub returns : goal.returns
unfolding carried carry event after
returns c = record {
  empty = refl;
  tie = refl;
  merged = refl;
  dropped = refl;
  right_head = refl;
  left_head = refl;
  not_yet = refl;
  then_stopped = refl;
}
