use Rattle.std.proofs.Common.{length}
use Rattle.siit.proofs.Appending.{HasWritten}
use Rattle.siit.proofs.appender.write_whole.Given as goal

abbrev pub invariant-loop-rest : goal.invariant-loop-rest
invariant-loop-rest g l = HasWritten (g.F.Write.contents l.fn.file) (g.F.Write.contents l.file) l.fn.bytes l.rest

abbrev pub decreases-loop-rest : goal.decreases-loop-rest
decreases-loop-rest g l = length l.rest
