-- What a file that is appended to holds, and what it will hold.
use Rattle.std.specs.Prelude.{ℕ, ◌≤◌, List, length, take, Option}
use Rattle.std.specs.Io.KnownBytes.{append_known, Appends}

-- all that was appended, where it is known what was written: that, and what is gathered behind it
abbrev pub appended : (written : Option (List ℕ)) (gathered : List ℕ) → Option (List ℕ)
appended written gathered = append_known written gathered

-- Known bytes grew by a part of these, from their start.
abbrev pub AppendsPart : Option (List ℕ) → Option (List ℕ) → List ℕ → Type 0
AppendsPart old new bytes = (n : ℕ) × (n ≤ length bytes) × Appends old new (take n bytes)
