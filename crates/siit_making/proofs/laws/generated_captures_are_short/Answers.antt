use Rattle.siit_making.proofs.Parts.{capture_short}
use Rattle.siit_making.proofs.laws.generated_captures_are_short.Goals as goal

pub returns : goal.returns
returns c = capture_short
