use Rattle.siit_fragments.proofs.Packets.{cut-covers6}
use Rattle.siit_fragments.proofs.laws.cut_packets6_cover.Goals as goal

pub returns : goal.returns
returns c = λ d packets cut may most cuts covers. cut-covers6 d packets cut may most cuts covers
