use Rattle.siit_upper.proofs.Read.{plain_is_read6}
use Rattle.siit_upper.proofs.laws.plain_is_read6.Goals as goal

pub returns : goal.returns
returns c = plain_is_read6
