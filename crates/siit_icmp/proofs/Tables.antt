-- A table of cases agrees with a definition where it does at each key, which is computed.
use Rattle.std.proofs.Common.{◌≡◌, ℕ, suc, zero, ◌+◌, ◌*◌, ◌/◌, ◌%◌, ◌<◌, ◌≤◌, List, [], ◌∷◌, Bool, true, false, ◌&&◌, ◌==◌, nat_lt, Option, Some, None, IsTrue, inl, inr, arith, refl}
use Rattle.std.specs.Option.{option_map}
use Rattle.std.proofs.lemmas.Bool.{cases_lt}
use Rattle.std.proofs.lemmas.Bool.Decides.{nat_tests}
use Rattle.siit_rules.specs.Cases.{value_at}
use Rattle.siit_icmp.specs.Icmp.{pointer_to_4}
use Rattle.siit_icmp.specs.Parts.{one_code_to_6, pair_of}

abbrev pub is_same : Option ℕ → Option ℕ → Bool
is_same None None = true
is_same None (Some y) = false
is_same (Some x) None = false
is_same (Some x) (Some y) = x == y

same-true : (a b : Option ℕ) → IsTrue (is_same a b) → a ≡ b
same-true None None same = refl
same-true None (Some y) same = grind (arith, nat_tests)
same-true (Some x) None same = grind (arith, nat_tests)
same-true (Some x) (Some y) same = grind (arith, nat_tests)

-- at each key below n
abbrev pub agrees_below : List (ℕ × ℕ) → (ℕ → Option ℕ) → ℕ → Bool
agrees_below rows f zero = true
agrees_below rows f (suc n) = is_same (value_at rows n) (f n) && agrees_below rows f n

-- each key is below n
abbrev pub keys_below : ℕ → List (ℕ × ℕ) → Bool
keys_below n [] = true
keys_below n (row ∷ rows) = nat_lt row.0 n && keys_below n rows

both : (a b : Bool) → IsTrue (a && b) → IsTrue a × IsTrue b
both true b h = (refl, h)
both false b h = grind (arith, nat_tests)

value_at-below : (rows : List (ℕ × ℕ)) (f : ℕ → Option ℕ) (n : ℕ) → IsTrue (agrees_below rows f n) → (key : ℕ) → key < n → value_at rows key ≡ f key
value_at-below rows f zero same key below = absurd (omega arith)
value_at-below rows f (suc n) same key below = elim (cases_lt key n) [
  | inl lower ↦ value_at-below rows f n (both _ _ same).1 key lower
  | inr least ↦ let here : key ≡ n = omega arith in rw here (same-true _ _ (both _ _ same).0)
]

value_at-past : (rows : List (ℕ × ℕ)) (n : ℕ) → IsTrue (keys_below n rows) → (key : ℕ) → n ≤ key → value_at rows key ≡ None
value_at-past [] n low key past = refl
value_at-past (row ∷ rows) n low key past =
    let first : IsTrue (nat_lt row.0 n) = (both _ (keys_below n rows) low).0 in
    grind (arith, nat_tests, first, value_at-past rows n (both (nat_lt row.0 n) _ low).1 key past)

-- a table of these rows and a definition that agree at each key below n, and have nothing from n on
pub table-agrees : {table rows : List (ℕ × ℕ)} → table ≡ rows → (f : ℕ → Option ℕ) (n : ℕ) → IsTrue (agrees_below rows f n) → IsTrue (keys_below n rows)
    → ((key : ℕ) → n ≤ key → f key ≡ None) → (key : ℕ) → value_at table key ≡ f key
table-agrees {table} {rows} is f n same low past key = rw is (elim (cases_lt key n) [
  | inl lower ↦ value_at-below rows f n same key lower
  | inr least ↦ rw (past key least) (value_at-past rows n low key least)
])

pub pointer_to_4-past : (place : ℕ) → 40 ≤ place → pointer_to_4 place ≡ None
pointer_to_4-past place past = grind (arith, nat_tests)

-- the number of a pair
abbrev pub row_to_6 : ℕ → Option ℕ
row_to_6 pair = option_map pair_of (one_code_to_6 (pair / 256) (pair % 256))

pub row_to_6-past : (pair : ℕ) → 4096 ≤ pair → row_to_6 pair ≡ None
row_to_6-past pair past =
    let high : 16 ≤ pair / 256 = omega arith in
    grind (arith, nat_tests, high)

-- the row of a type and a code
pub row_to_6-pair : (kind code pair : ℕ) → code < 256 → pair ≡ 256 * kind + code → row_to_6 pair ≡ option_map pair_of (one_code_to_6 kind code)
row_to_6-pair kind code pair small is =
    let high : pair / 256 ≡ kind = omega arith in
    let low : pair % 256 ≡ code = omega arith in
    rw (high, low)
