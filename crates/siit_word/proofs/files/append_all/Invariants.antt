use Rattle.std.proofs.Common.{length}
use Rattle.siit_word.proofs.Appended.{HasAppended}
use Rattle.siit_word.proofs.files.append_all.Given as goal

abbrev pub invariant-loop-rest : goal.invariant-loop-rest
invariant-loop-rest g l =
    let f = g.F.Files in
    HasAppended (f.meaning l.fn.files) (f.meaning l.files) l.fn.name l.fn.bytes l.rest

abbrev pub decreases-loop-rest : goal.decreases-loop-rest
decreases-loop-rest g l = length l.rest
