use Rattle.siit_views.proofs.Read.{read_is_good6}
use Rattle.siit_views.proofs.laws.read_is_good6.Goals as goal

pub returns : goal.returns
returns c = read_is_good6
