use Rattle.siit_errors.proofs.Good.{errors_good4, errors_good6}
use Rattle.siit_errors.proofs.laws.errors_are_good.Goals as goal

pub returns-clause-four : goal.returns-clause-four
returns-clause-four c = errors_good4

pub returns-clause-six : goal.returns-clause-six
returns-clause-six c = errors_good6
