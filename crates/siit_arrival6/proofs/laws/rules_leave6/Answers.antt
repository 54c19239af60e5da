use Rattle.siit_arrival6.proofs.Left.{left}
use Rattle.siit_arrival6.proofs.laws.rules_leave6.Goals as goal

pub returns : goal.returns
returns c = left
