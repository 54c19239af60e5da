use Rattle.siit_upper.proofs.Between.{tcp_is_moved_between}
use Rattle.siit_upper.proofs.laws.tcp_is_moved_between.Goals as goal

pub returns : goal.returns
returns c = tcp_is_moved_between
