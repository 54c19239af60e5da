use Rattle.siit_crossing.proofs.Sent.{pairs_alone_turn}
use Rattle.siit_crossing.proofs.laws.pairs_alone_turn.Goals as goal

pub returns : goal.returns
returns c = pairs_alone_turn
