use Rattle.std.proofs.Common.{take}
use Rattle.siit_eamt.specs.Starts.{AreStarts}
use Rattle.siit_eamt.proofs.starts.starts_of.Given as goal

abbrev pub invariant-loop-block : goal.invariant-loop-block
invariant-loop-block l = AreStarts (take l.block-index l.blocks) l.highest l.starts.items
