use Rattle.siit_fragments.proofs.Packets.{cut-covers4}
use Rattle.siit_fragments.proofs.laws.cut_packets4_cover.Goals as goal

pub returns : goal.returns
returns c = λ d packets cut cuts covers. cut-covers4 d packets cut cuts covers
