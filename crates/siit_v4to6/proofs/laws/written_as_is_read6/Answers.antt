use Rattle.siit_v4to6.proofs.Written.{fields-written}
use Rattle.siit_v4to6.proofs.laws.written_as_is_read6.Goals as goal

pub returns : goal.returns
returns c = fields-written
