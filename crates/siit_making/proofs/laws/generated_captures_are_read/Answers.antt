use Rattle.siit_making.proofs.Parts.{capture_read}
use Rattle.siit_making.proofs.laws.generated_captures_are_read.Goals as goal

pub returns : goal.returns
returns c = capture_read
