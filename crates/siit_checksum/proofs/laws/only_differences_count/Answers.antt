use Rattle.siit_checksum.proofs.Moves.{only_differences_count}
use Rattle.siit_checksum.proofs.laws.only_differences_count.Goals as goal

pub returns : goal.returns
returns c = only_differences_count
