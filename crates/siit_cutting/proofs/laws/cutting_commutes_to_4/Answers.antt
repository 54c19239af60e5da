use Rattle.siit_cutting.proofs.Covers4.{cutting_commutes_to_4}
use Rattle.siit_cutting.proofs.laws.cutting_commutes_to_4.Goals as goal

pub returns : goal.returns
returns c = cutting_commutes_to_4
