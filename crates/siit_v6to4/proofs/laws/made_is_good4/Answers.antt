use Rattle.siit_v6to4.proofs.Good.{made_is_good4}
use Rattle.siit_v6to4.proofs.laws.made_is_good4.Goals as goal

pub returns : goal.returns
returns c = made_is_good4
