use Rattle.std.proofs.Common.{◌≡◌, ◌++◌, ◌-◌}
use Rattle.siit_making.specs.Captures.{generated_capture}
use Rattle.siit_making.specs.Parts.{later}
use Rattle.siit_word.proofs.Appended.{HasAppended}
use Rattle.siit_making.proofs.writing.append_parts.Given as goal

abbrev pub invariant-loop-capture : goal.invariant-loop-capture
invariant-loop-capture g l = record {
  appended : HasAppended (g.F.Files.meaning l.fn.files) (g.F.Files.meaning l.files) l.name (generated_capture l.fn.capture.count l.fn.capture.seed) (l.capture.hand ++ later l.capture);
  count : l.capture.count ≡ l.fn.capture.count;
  seed : l.capture.seed ≡ l.fn.capture.seed;
}

abbrev pub decreases-loop-capture : goal.decreases-loop-capture
decreases-loop-capture g l = l.capture.count - l.capture.made
