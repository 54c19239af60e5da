use Rattle.siit_v6to4.proofs.Stays.{residue_stays_turned}
use Rattle.siit_v6to4.proofs.laws.residue_stays_turned.Goals as goal

pub returns : goal.returns
returns c = residue_stays_turned
