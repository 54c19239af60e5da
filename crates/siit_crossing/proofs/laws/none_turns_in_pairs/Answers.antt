use Rattle.siit_crossing.proofs.Turns.{none_turns_in_pairs}
use Rattle.siit_crossing.proofs.laws.none_turns_in_pairs.Goals as goal

pub returns : goal.returns
returns c = none_turns_in_pairs
