use Rattle.siit_checksum.proofs.Moves.{moved_in_turn}
use Rattle.siit_checksum.proofs.laws.moved_in_turn.Goals as goal

pub returns : goal.returns
returns c = moved_in_turn
