use Rattle.siit_pair.proofs.Outgoing.{packets_behind_read}
use Rattle.siit_pair.proofs.laws.packets_behind_are_read.Goals as goal

pub returns : goal.returns
returns c = packets_behind_read c.rules_leave4.ensures c.rules_leave6.ensures c.cutting_commutes_to_6.ensures
