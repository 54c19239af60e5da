use Rattle.siit_v6to4.proofs.Written.{written_is_read4}
use Rattle.siit_v6to4.proofs.laws.written_is_read4.Goals as goal

pub returns : goal.returns
returns c = written_is_read4
