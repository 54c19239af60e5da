use Rattle.siit_cutting.proofs.Covers6.{cutting_commutes_to_6}
use Rattle.siit_cutting.proofs.laws.cutting_commutes_to_6.Goals as goal

pub returns : goal.returns
returns c = cutting_commutes_to_6
