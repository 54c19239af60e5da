use Rattle.siit_v6to4.proofs.Written.{fields-written}
use Rattle.siit_v6to4.proofs.laws.written_as_is_read4.Goals as goal

pub returns : goal.returns
returns c = fields-written
