use Rattle.siit_checksum.proofs.Moves.{changed_part_residue}
use Rattle.siit_checksum.proofs.laws.changed_part_residue.Goals as goal

pub returns : goal.returns
returns c = changed_part_residue
