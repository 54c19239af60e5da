use Rattle.std.proofs.Common.{◌≡◌, ◌+◌, ◌-◌, ◌≤◌, ℕ, [], ◌∷◌, length, IsTrue}
use Rattle.siit_word.specs.Files.{held, Touches}
use Rattle.siit_capture.specs.Captures.{Records, one_more}
use Rattle.siit_capture.specs.Readings.{fed}
use Rattle.siit_capture.specs.Records.{Record}
use Rattle.siit_run.specs.Ahead.{IsReadTo}
use Rattle.siit_run.specs.Looks.{records_left}
use Rattle.siit_run.proofs.looking.look.Given as goal

abbrev pub invariant-loop-fault : goal.invariant-loop-fault
invariant-loop-fault g l =
    let before = g.F.Files.meaning l.fn.files in
    let now = g.F.Files.meaning l.files in
    let name = l.fn.name in
    let bytes = held (before.contents name) in
    record {
      left : IsTrue (before.told name) → records_left bytes l.reader ≡ records_left bytes l.fn.reader;
      inside : IsTrue (before.told name) → fed l.reader ≤ length bytes;
      few : fed l.reader ≤ 4294967296;
      more : fed l.fn.reader ≤ fed l.reader;
      count : l.reader.count ≡ l.fn.reader.count;
      place : l.fn.reader.place ≤ l.reader.place;
      size : length l.piece ≡ length l.fn.piece;
      read : IsReadTo (before.given name) (now.given name) (fed l.reader);
      ahead : IsTrue (before.told name) → (found : Record) (ends : ℕ) (rest : Records) → records_left bytes l.fn.reader ≡ one_more found ends rest
          → fed l.fn.reader ≤ ends + 65536 → fed l.reader ≤ ends + 65536;
      only : Touches before now (name ∷ []) [];
    }

abbrev pub decreases-loop-fault : goal.decreases-loop-fault
decreases-loop-fault g l = 4294967296 - fed l.reader
