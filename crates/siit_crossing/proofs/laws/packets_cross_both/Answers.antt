use Rattle.siit_crossing.proofs.Pairs.{packets_cross_both}
use Rattle.siit_crossing.proofs.laws.packets_cross_both.Goals as goal

pub returns : goal.returns
returns c = packets_cross_both c.rules_leave4.ensures c.rules_leave6.ensures
