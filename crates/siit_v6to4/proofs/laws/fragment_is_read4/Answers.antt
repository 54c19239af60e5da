use Rattle.siit_v6to4.proofs.Packets.{fragment_is_read4}
use Rattle.siit_v6to4.proofs.laws.fragment_is_read4.Goals as goal

pub returns : goal.returns
returns c = fragment_is_read4
