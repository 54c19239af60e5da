use Rattle.siit_pair.proofs.Datagrams.{datagrams_across}
use Rattle.siit_pair.proofs.laws.datagrams_come_across.Goals as goal

pub returns : goal.returns
returns c = datagrams_across
