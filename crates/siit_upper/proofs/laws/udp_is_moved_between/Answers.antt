use Rattle.siit_upper.proofs.Between.{udp_is_moved_between}
use Rattle.siit_upper.proofs.laws.udp_is_moved_between.Goals as goal

pub returns : goal.returns
returns c = udp_is_moved_between
