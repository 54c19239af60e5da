use Rattle.std.proofs.Common.{◌≡◌, ◌-◌, ◌≤◌, length}
use Rattle.siit_capture.specs.Readings.{HasNoRecord, WaitsForBytes, fed, records_fed}
use Rattle.siit_capture.proofs.reading_tests.rows_of.Given as goal

abbrev pub invariant-loop-at : goal.invariant-loop-at
invariant-loop-at l = record {
  within : l.at ≤ length l.capture;
  place : fed l.reader ≡ l.at;
  waits : WaitsForBytes (records_fed l.reader);
  at_rest : HasNoRecord (records_fed l.reader);
}

abbrev pub decreases-loop-at : goal.decreases-loop-at
decreases-loop-at l = length l.capture - l.at
