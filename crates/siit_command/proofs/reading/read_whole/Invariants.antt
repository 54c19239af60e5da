use Rattle.std.proofs.Common.{suc, ◌-◌, ◌<◌, [], ◌∷◌, length}
use Rattle.siit_model.specs.Bytes.{AreBytes}
use Rattle.siit_word.specs.Files.{Touches}
use Rattle.siit_command.proofs.Fronts.{HasRead}
use Rattle.siit_command.proofs.reading.read_whole.Given as goal

abbrev pub invariant-loop-files : goal.invariant-loop-files
invariant-loop-files g l =
    let f = g.F.Files in
    record {
      front : HasRead (f.meaning l.fn.files) l.fn.name l.bytes.items;
      are_bytes : AreBytes l.bytes.items;
      room : 0 < length l.piece.items;
      only : Touches (f.meaning l.fn.files) (f.meaning l.files) (l.fn.name ∷ []) [];
    }

abbrev pub decreases-loop-files : goal.decreases-loop-files
decreases-loop-files g l = suc l.fn.most - length l.bytes.items
