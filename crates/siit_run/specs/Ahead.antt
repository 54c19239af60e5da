-- How far a capture was read.
use Rattle.std.specs.Prelude.{ℕ, ◌+◌, ◌≤◌, max, Option, Some, None}
use Rattle.siit_capture.specs.Captures.{Records, ended, faulty, one_more}

-- A file was read, where this is told, no further than before or to a place.
abbrev pub IsReadTo : (old new : Option ℕ) → (place : ℕ) → Type 0
IsReadTo None None place = Unit {0}
IsReadTo None (Some new) place = ⊥
IsReadTo (Some old) None place = ⊥
IsReadTo (Some old) (Some new) place = new ≤ max old place

-- A capture was read no further than one piece past the record that is looked at next, where there is one.
abbrev pub IsReadAhead : (old new : Option ℕ) → Records → Type 0
IsReadAhead old new ended = Unit {0}
IsReadAhead old new (faulty place fault) = Unit {0}
IsReadAhead old new (one_more found ends rest) = IsReadTo old new (ends + 65536)
