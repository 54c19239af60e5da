use Rattle.siit_quoted.proofs.Differences.{checksum-moved}
use Rattle.siit_quoted.proofs.sums.moved_by_body_difference.Goals as goal

pub returns : goal.returns
returns c = checksum-moved
