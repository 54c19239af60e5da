use Rattle.siit_quoted.proofs.Returns.{bodies-back}
use Rattle.siit_quoted.proofs.laws.bodies_come_back.Goals as goal

pub returns : goal.returns
returns c = bodies-back
