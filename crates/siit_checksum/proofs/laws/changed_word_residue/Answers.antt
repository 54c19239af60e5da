use Rattle.siit_checksum.proofs.Residues.{residue-with_field16}
use Rattle.siit_checksum.proofs.laws.changed_word_residue.Goals as goal

pub returns : goal.returns
returns c = residue-with_field16
