use Rattle.siit_checksum.proofs.Residues.{residue-cut}
use Rattle.siit_checksum.proofs.laws.cut_residue.Goals as goal

pub returns : goal.returns
returns c = residue-cut
