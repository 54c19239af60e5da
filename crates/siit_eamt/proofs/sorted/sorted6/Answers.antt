use Rattle.siit_eamt.proofs.Orders.{ascending6}
use Rattle.siit_eamt.proofs.sorted.sorted6.Goals as goal

pub returns-clause-ascending : goal.returns-clause-ascending
returns-clause-ascending c = ascending6 c.sort.new.self.items c.in_ok-sort.ensures.sorted
