use Rattle.siit_v6to4.proofs.Good.{translated_is_good4}
use Rattle.siit_v6to4.proofs.laws.translated_is_good4.Goals as goal

pub returns : goal.returns
returns c = translated_is_good4
