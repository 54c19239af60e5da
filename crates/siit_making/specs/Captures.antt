-- Generated captures as the bytes of a file.
use Rattle.std.specs.Prelude.{ℕ, List}
use Rattle.siit_capture.specs.Written.{written_capture}
use Rattle.siit_generator.specs.Generated.{generated}

-- the most packets that a capture is generated with
abbrev pub most_generated : ℕ
most_generated = 100000

-- the bytes of a capture of so many packets by a seed
unfoldable pub generated_capture : (count seed : ℕ) → List ℕ
generated_capture count seed = written_capture (generated count seed)
