use Rattle.siit_arrival4.proofs.Left.{left}
use Rattle.siit_arrival4.proofs.laws.rules_leave4.Goals as goal

pub returns : goal.returns
returns c = left
