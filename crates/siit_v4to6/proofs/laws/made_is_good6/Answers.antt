use Rattle.siit_v4to6.proofs.Good.{made_is_good6}
use Rattle.siit_v4to6.proofs.laws.made_is_good6.Goals as goal

pub returns : goal.returns
returns c = made_is_good6
