use Rattle.siit_capture.proofs.History.{given_first}
use Rattle.siit_capture.proofs.laws.given_records_are_the_first.Goals as goal

pub returns : goal.returns
returns c = given_first
