use Rattle.siit_capture.proofs.ReadAgain.{written_again}
use Rattle.siit_capture.proofs.laws.written_captures_are_read_again.Goals as goal

pub returns : goal.returns
returns c = written_again
