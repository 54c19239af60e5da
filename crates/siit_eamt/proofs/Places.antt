-- The place of the first element that passes.
use Rattle.std.proofs.Common.{◌≡◌, ℕ, zero, suc, ◌+◌, ◌<◌, ◌≤◌, Bool, true, false, not, eqb, ltb, cond, List, [], ◌∷◌, ◌++◌, length, get_or, Some, None, refl, ap, ◌∙◌, arith}
use Rattle.std.specs.List.{position, position_or_len, slice_get}
use Rattle.std.specs.Option.{option_or}
use Rattle.std.proofs.lemmas.Bool.Decides.{nat_tests}
use Rattle.std.proofs.lemmas.List.{length_push}
use Rattle.std.proofs.lemmas.List.Folds.{position_or_len_push}
use Rattle.std.proofs.lemmas.List.Sums.{prefix_len-le-length}
use Rattle.std.proofs.lemmas.List.Quantifiers.{position-Some}
use Rattle.std.proofs.lemmas.Option.{same_Some, slice_get_within, slice_get-get_or}

push_cases : (v : Bool) (at n at' n' : ℕ) → at ≤ n → n' ≡ n + 1 → at' ≡ cond (eqb at n) (n + cond v 0 1) at
    → cond (ltb at' n') (Some at') None ≡ option_or (cond (ltb at n) (Some at) None) (cond v (Some n) None)
push_cases true at n at' n' le len place = grind (arith, nat_tests)
push_cases false at n at' n' le len place = grind (arith, nat_tests)

pub position-push : {X : Type 0} (p : X → Bool) (xs : List X) (y : X) → position p (xs ++ y ∷ []) ≡ option_or (position p xs) (cond (p y) (Some (length xs)) None)
position-push p xs y =
    let e = position_or_len_push p xs y in
    let n = length_push xs y in
    let below : position_or_len p xs ≤ length xs = prefix_len-le-length (λ x. not (p x)) xs in
    push_cases (p y) (position_or_len p xs) (length xs) (position_or_len p (xs ++ y ∷ [])) (length (xs ++ y ∷ [])) below n e

-- an element that passes stands at the place or behind it
place_before : {X : Type 0} (p : X → Bool) (xs : List X) (j : ℕ) (y : X) → slice_get xs j ≡ Some y → p y ≡ true → position_or_len p xs ≤ j
place_before p [] j y here t = absurd cc
place_before p (x ∷ xs) zero y here t =
    let passes : p x ≡ true = ap p (same_Some x y here) ∙ t in
    let first : position_or_len p (x ∷ xs) ≡ 0 = ap (λ v. cond (not v) (1 + position_or_len p xs) 0) passes in
    omega arith
place_before p (x ∷ xs) (suc j) y here t =
    let rest = place_before p xs j y here t in
    elim (p x) as (λ v. cond (not v) (1 + position_or_len p xs) 0 ≤ suc j) [ true ↦ omega arith | false ↦ omega arith ]

lt_test : (m n : ℕ) → m < n → ltb m n ≡ true
lt_test m n h = grind (arith, nat_tests, h)

not_passing : (v : Bool) → (v ≡ true → ⊥) → v ≡ false
not_passing true h = absurd (h refl)
not_passing false h = refl

-- where no place is given no element passes
pub none_passes : {X : Type 0} (p : X → Bool) (xs : List X) → position p xs ≡ None → (j : ℕ) (y : X) → slice_get xs j ≡ Some y → p y ≡ false
none_passes p xs h j y here =
    not_passing (p y) (λ t.
    let before = place_before p xs j y here t in
    let within = slice_get_within xs j y here in
    let given : position p xs ≡ Some (position_or_len p xs) =
    ap (λ v. cond v (Some (position_or_len p xs)) None) (lt_test (position_or_len p xs) (length xs) (omega arith)) in
    cc)

place_is : {X : Type 0} (p : X → Bool) (xs : List X) (v : Bool) (k : ℕ) → cond v (Some (position_or_len p xs)) None ≡ Some k → position_or_len p xs ≡ k
place_is p xs true k h = same_Some (position_or_len p xs) k h
place_is p xs false k h = absurd cc

-- the element at the place passes, and none before it
pub record IsFirstAt {X : Type 0} (p : X → Bool) (xs : List X) (k : ℕ) (x : X) : Type 0 where
  pub here : slice_get xs k ≡ Some x
  pub passes : p x ≡ true
  pub first : (j : ℕ) (y : X) → slice_get xs j ≡ Some y → p y ≡ true → k ≤ j

pub first_at : {X : Type 0} (p : X → Bool) (xs : List X) (k : ℕ) → position p xs ≡ Some k → (x : X) × IsFirstAt p xs k x
first_at p [] k h = absurd cc
first_at p (x ∷ xs) k h =
    let is = position-Some p (x ∷ xs) k x h in (
      get_or (x ∷ xs) k x,
      record {
        here = slice_get-get_or (x ∷ xs) k x is.0;
        passes = is.1;
        first = λ j y here t.
            let same : position_or_len p (x ∷ xs) ≡ k = place_is p (x ∷ xs) (ltb (position_or_len p (x ∷ xs)) (length (x ∷ xs))) k h in
            let before = place_before p (x ∷ xs) j y here t in
            omega arith;
      },
    )

-- tests that agree on the elements find the same place
same_place : {X : Type 0} (p q : X → Bool) (xs : List X) → ((j : ℕ) (y : X) → slice_get xs j ≡ Some y → p y ≡ q y) → position_or_len p xs ≡ position_or_len q xs
same_place p q [] same = refl
same_place p q (x ∷ xs) same =
    ap (λ v. cond (not v) (1 + position_or_len p xs) 0) (same 0 x refl)
    ∙ ap (λ n. cond (not (q x)) (1 + n) 0) (same_place p q xs (λ j y here. same (suc j) y here))

pub position_same : {X : Type 0} (p q : X → Bool) (xs : List X) → ((j : ℕ) (y : X) → slice_get xs j ≡ Some y → p y ≡ q y) → position p xs ≡ position q xs
position_same p q xs same = ap (λ n. cond (ltb n (length xs)) (Some n) None) (same_place p q xs same)
