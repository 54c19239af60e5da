-- What a reader holds.
use Rattle.std.specs.Prelude.{ℕ, ◌+◌, ◌*◌, ◌^◌, ◌<◌, ◌≤◌, List, length, drop, Option, Some, None, IsSome}
use Rattle.siit_capture.specs.Heads.{head_front}
use Rattle.siit_capture.specs.Queues.{Queue}
use Rattle.siit_capture.specs.Records.{Record}
use Rattle.siit_capture.specs.Told.{HasNoHead}
use Rattle.siit_capture.specs.declared.form.Form.{Form}
use Rattle.siit_capture.specs.declared.record.RecordHead.{RecordHead}

-- the record whose head and bytes were taken last
abbrev pub found_record : List ℕ → RecordHead → Record
found_record taken head = record { link = head.link; seconds = head.seconds; nanoseconds = head.nanos; bytes = drop 16 taken }

-- A whole head was read, where one is there.
abbrev pub IsPastHead : Option Form → List ℕ → Type 0
IsPastHead (Some form) rest = Unit {0}
IsPastHead None rest = HasNoHead (head_front rest)

pub record IsKept (form : Option Form) (place count : ℕ) (found : Option RecordHead) (queue : Queue) : Type 0 where
  pub few : place + length queue.rest < 2 ^ 64
  pub counted : 16 * count ≤ place
  pub head : IsPastHead form queue.rest
  pub item : IsSome found → 16 ≤ length queue.taken
