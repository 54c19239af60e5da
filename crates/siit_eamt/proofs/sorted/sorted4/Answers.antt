use Rattle.siit_eamt.proofs.Orders.{ascending4}
use Rattle.siit_eamt.proofs.sorted.sorted4.Goals as goal

pub returns-clause-ascending : goal.returns-clause-ascending
returns-clause-ascending c = ascending4 c.sort.new.self.items c.in_ok-sort.ensures.sorted
