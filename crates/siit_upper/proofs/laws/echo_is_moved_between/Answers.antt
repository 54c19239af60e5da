use Rattle.siit_upper.proofs.Between.{echo_is_moved_between}
use Rattle.siit_upper.proofs.laws.echo_is_moved_between.Goals as goal

pub returns : goal.returns
returns c = echo_is_moved_between
