-- What a binary search finds among rows whose keys increase.
use Rattle.std.proofs.Common.{◌≡◌, ℕ, suc, zero, ◌<◌, ◌≤◌, ◌≢◌, List, [], ◌∷◌, length, get_or, Some, None, IsTrue, Result, Ok, Err, MatchResult, sym, arith, refl}
use Rattle.std.specs.List.Sorted.{IsSearchInRange, IsBinarySearchResult, IsNonDecreasingBy}
use Rattle.std.specs.Ordering.{nat_cmp, ordering_index}
use Rattle.std.proofs.lemmas.Cmp.{ranked}
use Rattle.std.proofs.lemmas.List.Sorted.{IsNonDecreasingBy-from_default}
use Rattle.std.proofs.lemmas.Bool.Decides.{nat_tests}
use Rattle.siit_rules.specs.Cases.{value_at, keys_increase}

-- the key of the row at a place
abbrev pub key_at : List (ℕ × ℕ) → ℕ → ℕ
key_at rows place = (get_or rows place (0, 0)).0

increase-tail : (row : ℕ × ℕ) (rows : List (ℕ × ℕ)) → IsTrue (keys_increase (row ∷ rows)) → IsTrue (keys_increase rows)
increase-tail row [] up = refl
increase-tail row (next ∷ rows) up = grind (arith, nat_tests)

above_first : (row : ℕ × ℕ) (rows : List (ℕ × ℕ)) → IsTrue (keys_increase (row ∷ rows)) → (place : ℕ) → place < length rows → row.0 < key_at rows place
above_first row [] up place inside = absurd (omega arith)
above_first row (next ∷ rows) up zero inside = grind (arith, nat_tests)
above_first row (next ∷ rows) up (suc place) inside =
    let step : row.0 < next.0 = grind (arith, nat_tests) in
    omega (arith, step, above_first next rows (increase-tail row (next ∷ rows) up) place (omega arith))

keys_rise : (rows : List (ℕ × ℕ)) → IsTrue (keys_increase rows) → (i j : ℕ) → i ≤ j → j < length rows → key_at rows i ≤ key_at rows j
keys_rise [] up i j le inside = absurd (omega arith)
keys_rise (row ∷ rows) up zero zero le inside = omega arith
keys_rise (row ∷ rows) up zero (suc j) le inside = omega (arith, above_first row rows up j (omega arith))
keys_rise (row ∷ rows) up (suc i) zero le inside = absurd (omega arith)
keys_rise (row ∷ rows) up (suc i) (suc j) le inside = keys_rise rows (increase-tail row rows up) i j (omega arith) (omega arith)

-- the row at the place has the key
pub value_at-found : (rows : List (ℕ × ℕ)) (key place : ℕ) → IsTrue (keys_increase rows) → place < length rows → key_at rows place ≡ key
    → value_at rows key ≡ Some (get_or rows place (0, 0)).1
value_at-found [] key place up inside has = absurd (omega arith)
value_at-found (row ∷ rows) key zero up inside has = grind (arith, nat_tests)
value_at-found (row ∷ rows) key (suc place) up inside has =
    grind (arith, nat_tests, above_first row rows up place (omega arith), value_at-found rows key place (increase-tail row rows up) (omega arith) has)

-- no row has the key
pub value_at-missing : (rows : List (ℕ × ℕ)) (key : ℕ) → ((place : ℕ) → place < length rows → key_at rows place ≢ key) → value_at rows key ≡ None
value_at-missing [] key none = refl
value_at-missing (row ∷ rows) key none =
    grind (arith, nat_tests, none 0 (omega arith), value_at-missing rows key (λ place inside. none (suc place) (omega arith)))

module _ (rows : List (ℕ × ℕ)) (up : IsTrue (keys_increase rows)) (key : ℕ) where
  -- the comparisons with the key rise along the rows, as a binary search asks
  comparisons_rise : IsNonDecreasingBy (λ row. ordering_index (nat_cmp row.0 key)) rows
  comparisons_rise = IsNonDecreasingBy-from_default (λ row. ordering_index (nat_cmp row.0 key)) rows (0, 0) (λ i j le inside.
      let rise = keys_rise rows up i j le inside in
      grind (arith, nat_tests))

  -- a binary search ends at the row, or where it would be
  pub searched : (r : Result ℕ ℕ) → IsSearchInRange r (length rows) → IsBinarySearchResult (λ row. nat_cmp row.0 key) rows r
      → MatchResult r (λ place. value_at rows key ≡ Some (get_or rows place (0, 0)).1) (λ _. value_at rows key ≡ None)
  searched (Ok place) inside equal = value_at-found rows key place up inside (ranked _ key _ (sym (equal (0, 0))))
  searched (Err place) inside parted =
      let below : (j : ℕ) → j < place → key_at rows j < key = λ j lt. ranked _ key _ (sym ((parted comparisons_rise).0 j (0, 0) (omega arith) lt)) in
      let above : (j : ℕ) → place ≤ j → j < length rows → key < key_at rows j = λ j le lt. ranked _ key _ (sym ((parted comparisons_rise).1 j (0, 0) le lt)) in
      value_at-missing rows key (λ j lt same. grind (arith, below j, above j))
