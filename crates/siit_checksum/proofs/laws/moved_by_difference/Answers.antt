use Rattle.siit_checksum.proofs.Moves.{moved_by_difference}
use Rattle.siit_checksum.proofs.laws.moved_by_difference.Goals as goal

pub returns : goal.returns
returns c = moved_by_difference
