use Rattle.siit_upper.proofs.Between.{icmp_is_moved_between}
use Rattle.siit_upper.proofs.laws.icmp_is_moved_between.Goals as goal

pub returns : goal.returns
returns c = icmp_is_moved_between
