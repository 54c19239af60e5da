-- Tables of cases: rows of a key and a value.
use Rattle.std.specs.Prelude.{ℕ, List, [], ◌∷◌, Option, Some, None, Bool, true, ◌&&◌, ◌==◌, nat_lt, if◌then◌else◌}

-- the value of the row with a key, none where no row has it
abbrev pub value_at : List (ℕ × ℕ) → ℕ → Option ℕ
value_at [] key = None
value_at (row ∷ rows) key = if row.0 == key then Some row.1 else value_at rows key

-- each key is above the one before
abbrev pub keys_increase : List (ℕ × ℕ) → Bool
keys_increase [] = true
keys_increase (row ∷ []) = true
keys_increase (row ∷ next ∷ rows) = nat_lt row.0 next.0 && keys_increase (next ∷ rows)
