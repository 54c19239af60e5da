use Rattle.std.proofs.Common.{◌≡◌, length}
use Rattle.siit_capture.specs.Readings.{fed}
use Rattle.siit_capture.proofs.reading_tests.read_rows.Given as goal

abbrev pub invariant-loop-head : goal.invariant-loop-head
invariant-loop-head l = fed l.reader ≡ fed l.fn.reader

abbrev pub decreases-loop-head : goal.decreases-loop-head
decreases-loop-head l = length l.reader.rest
