-- Counts of faults. A count stands still at the last value of a `u64`.
use Rattle.std.specs.Prelude.{ℕ, ◌+◌, ◌-◌, ◌^◌, ◌≤◌, min, List}

abbrev pub last_count : ℕ
last_count = 2 ^ 64 - 1

-- the count after one more
abbrev pub next_count : ℕ → ℕ
next_count count = min (count + 1) last_count

-- The count rose: it is greater, or stands at its last value.
abbrev pub Rose : ℕ → ℕ → Type 0
Rose before now = next_count before ≤ now

-- at no name does the count fall
abbrev pub NeverFalls : (List ℕ → ℕ) → (List ℕ → ℕ) → Type 0
NeverFalls before now = (name : List ℕ) → before name ≤ now name
