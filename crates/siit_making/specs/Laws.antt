-- Laws of generated captures.
use Rattle.std.specs.Prelude.{◌≡◌, ℕ, ◌+◌, ◌*◌, ◌≤◌, length, None}
use Rattle.siit_capture.specs.Captures.{list_of, records_of, trouble_of}
use Rattle.siit_generator.specs.Generated.{generated}
use Rattle.siit_making.specs.Captures.{generated_capture, most_generated}

-- A generated capture is read as the packets that were generated, and has no fault.
abbrev pub GeneratedIsRead : Type 0
GeneratedIsRead = (count seed : ℕ) → count ≤ most_generated
    → (list_of (records_of (generated_capture count seed)) ≡ generated count seed)
    × (trouble_of (records_of (generated_capture count seed)) ≡ None)

-- A record takes 1,516 bytes at most.
abbrev pub GeneratedIsShort : Type 0
GeneratedIsShort = (count seed : ℕ) → length (generated_capture count seed) ≤ 24 + 1516 * count
