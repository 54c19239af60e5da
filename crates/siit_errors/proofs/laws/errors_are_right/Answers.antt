use Rattle.siit_errors.proofs.Right.{errors_right4, errors_right6}
use Rattle.siit_errors.proofs.laws.errors_are_right.Goals as goal

pub returns-clause-four : goal.returns-clause-four
returns-clause-four c = errors_right4

pub returns-clause-six : goal.returns-clause-six
returns-clause-six c = errors_right6
