use Rattle.std.proofs.Common.{refl}
use Rattle.siit_chain.specs.Carried.{carried, carry, event}
use Rattle.siit_run.specs.Runs.{after}
use Rattle.siit_crossing.proofs.examples.toy_examples.Goals as goal

pub returns : goal.returns
unfolding carried carry event after
returns c = record {
  finishes = refl;
  read = refl;
  left_first = refl;
  right_first = refl;
  left_second = refl;
  left_third = refl;
  no_fourth = refl;
  together = refl;
  none_back = refl;
  in_order = refl;
  named = refl;
  answered = refl;
  second = refl;
  zeroth = refl;
  enters = refl;
  stays_out = refl;
}
