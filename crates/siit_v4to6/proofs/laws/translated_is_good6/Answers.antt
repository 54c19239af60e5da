use Rattle.siit_v4to6.proofs.Good.{translated_is_good6}
use Rattle.siit_v4to6.proofs.laws.translated_is_good6.Goals as goal

pub returns : goal.returns
returns c = translated_is_good6
