use Rattle.siit_v4to6.proofs.Stays.{residue_stays_to_6}
use Rattle.siit_v4to6.proofs.laws.residue_stays_to_6.Goals as goal

pub returns : goal.returns
returns c = residue_stays_to_6
