use Rattle.siit_upper.proofs.Read.{fragment_header_is_read}
use Rattle.siit_upper.proofs.laws.fragment_header_is_read.Goals as goal

pub returns : goal.returns
returns c = fragment_header_is_read
