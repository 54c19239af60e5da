use Rattle.siit_upper.proofs.Read.{fragment_is_read6}
use Rattle.siit_upper.proofs.laws.fragment_is_read6.Goals as goal

pub returns : goal.returns
returns c = fragment_is_read6
