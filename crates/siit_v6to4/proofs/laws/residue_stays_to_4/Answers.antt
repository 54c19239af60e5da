use Rattle.siit_v6to4.proofs.Stays.{residue_stays_to_4}
use Rattle.siit_v6to4.proofs.laws.residue_stays_to_4.Goals as goal

pub returns : goal.returns
returns c = residue_stays_to_4
