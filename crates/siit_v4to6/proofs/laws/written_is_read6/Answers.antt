use Rattle.siit_v4to6.proofs.Written.{written_is_read6}
use Rattle.siit_v4to6.proofs.laws.written_is_read6.Goals as goal

pub returns : goal.returns
returns c = written_is_read6
