use Rattle.siit_capture.proofs.History.{given_all}
use Rattle.siit_capture.proofs.laws.given_records_are_all.Goals as goal

pub returns : goal.returns
returns c = given_all
