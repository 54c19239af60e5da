use Rattle.siit_checksum.proofs.Residues.{residue-append}
use Rattle.siit_checksum.proofs.laws.joined_residue.Goals as goal

pub returns : goal.returns
returns c = residue-append
