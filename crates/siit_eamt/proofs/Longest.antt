-- The longest entry that holds an address. Every list has one: one more entry at its end is it, or leaves it as it was.
use Rattle.std.proofs.Common.{◌≡◌, ℕ, zero, suc, ◌+◌, ◌<◌, ◌≤◌, Bool, true, false, not, ◌&&◌, ◌||◌, List, [], ◌∷◌, ◌++◌, length, Option, Some, None, cond, leb, ltb, refl, sym, ap, subst, ◌∙◌, arith, append_assoc, append-nil, ◌⊎◌, inl, inr}
use Rattle.std.specs.List.{slice_get, list_all, find, enumerate_from}
use Rattle.std.proofs.lemmas.Bool.Decides.{nat_tests}
use Rattle.std.proofs.lemmas.Option.{slice_get_within, same_Some}

-- the longest so far and one more entry with its place: the entry where it passes and is longer
abbrev pub longer : {X : Type 0} → (X → Bool) → (X → ℕ) → Option (ℕ × X) → ℕ × X → Option (ℕ × X)
longer holds len None next = cond (holds next.1) (Some next) None
longer holds len (Some best) next = cond (holds next.1 && ltb (len best.1) (len next.1)) (Some next) (Some best)

pub slice_get-push_kept : {X : Type 0} (xs : List X) (y : X) (k : ℕ) (x : X) → slice_get xs k ≡ Some x → slice_get (xs ++ y ∷ []) k ≡ Some x
slice_get-push_kept [] y k x h = cc
slice_get-push_kept (z ∷ xs) y zero x h = h
slice_get-push_kept (z ∷ xs) y (suc k) x h = slice_get-push_kept xs y k x h

pub slice_get-push_last : {X : Type 0} (xs : List X) (y : X) → slice_get (xs ++ y ∷ []) (length xs) ≡ Some y
slice_get-push_last [] y = refl
slice_get-push_last (z ∷ xs) y = slice_get-push_last xs y

pub slice_get-push_cases : {X : Type 0} (xs : List X) (y : X) (k : ℕ) (x : X) → slice_get (xs ++ y ∷ []) k ≡ Some x → (slice_get xs k ≡ Some x) ⊎ ((k ≡ length xs) × (y ≡ x))
slice_get-push_cases [] y zero x h = inr (refl, cc)
slice_get-push_cases [] y (suc k) x h = absurd cc
slice_get-push_cases (z ∷ xs) y zero x h = inl h
slice_get-push_cases (z ∷ xs) y (suc k) x h =
    elim (slice_get-push_cases xs y k x h) [ inl e ↦ inl e | inr e ↦ inr (omega arith, e.1) ]

pub find_first : {X : Type 0} (p : ℕ × X → Bool) (at : ℕ) (xs : List X) (i : ℕ) (x : X)
    → slice_get xs i ≡ Some x → p (at + i, x) ≡ true
    → ((k : ℕ) (y : X) → k < i → slice_get xs k ≡ Some y → p (at + k, y) ≡ false)
    → find p (enumerate_from at xs) ≡ Some (at + i, x)
find_first p at [] i x here passes before = cc
find_first p at (z ∷ xs) zero x here passes before =
    let same : z ≡ x = same_Some z x here in
    let same_place : at + 0 ≡ at = omega arith in
    grind (arith, passes)
find_first {X} p at (z ∷ xs) (suc i) x here passes before =
    let move : (k : ℕ) → at + suc k ≡ (at + 1) + k = λ k. omega arith in
    let first : p (at + 0, z) ≡ false = before 0 z (omega arith) refl in
    let same_place : at + 0 ≡ at = omega arith in
    let rest : find p (enumerate_from (at + 1) xs) ≡ Some ((at + 1) + i, x) =
    find_first p (at + 1) xs i x here (subst (λ (n : ℕ). p (n, x) ≡ true) (move i) passes)
    (λ k y lt e. subst (λ (n : ℕ). p (n, y) ≡ false) (move k) (before (suc k) y (omega arith) e)) in
    let same_end = move i in
    grind (arith, first, rest)

pub find_none : {X : Type 0} (p : ℕ × X → Bool) (at : ℕ) (xs : List X)
    → ((k : ℕ) (y : X) → slice_get xs k ≡ Some y → p (at + k, y) ≡ false)
    → find p (enumerate_from at xs) ≡ None
find_none p at [] all = refl
find_none {X} p at (z ∷ xs) all =
    let move : (k : ℕ) → at + suc k ≡ (at + 1) + k = λ k. omega arith in
    let first : p (at + 0, z) ≡ false = all 0 z refl in
    let same_place : at + 0 ≡ at = omega arith in
    let rest : find p (enumerate_from (at + 1) xs) ≡ None =
    find_none p (at + 1) xs (λ k y e. subst (λ (n : ℕ). p (n, y) ≡ false) (move k) (all (suc k) y e)) in
    grind (arith, first, rest)

pub list_all-true : {X : Type 0} (p : X → Bool) (xs : List X) → ((k : ℕ) (y : X) → slice_get xs k ≡ Some y → p y ≡ true) → list_all p xs ≡ true
list_all-true p [] all = refl
list_all-true p (z ∷ xs) all =
    let first : p z ≡ true = all 0 z refl in
    let rest : list_all p xs ≡ true = list_all-true p xs (λ k y e. all (suc k) y e) in
    grind (arith, first, rest)

pub list_all-false : {X : Type 0} (p : X → Bool) (xs : List X) (k : ℕ) (y : X) → slice_get xs k ≡ Some y → p y ≡ false → list_all p xs ≡ false
list_all-false p [] k y e f = cc
list_all-false p (z ∷ xs) zero y e f = let same : z ≡ y = same_Some z y e in grind (arith, f)
list_all-false p (z ∷ xs) (suc k) y e f =
    let rest : list_all p xs ≡ false = list_all-false p xs k y e f in
    elim (p z) as (λ v. (v && list_all p xs) ≡ false) [ true ↦ rest | false ↦ refl ]

-- what a scan knows of the longest of a list
pub record IsLongestAt {X : Type 0} (holds : X → Bool) (len : X → ℕ) (xs : List X) (i : ℕ) (x : X) : Type 0 where
  pub here : slice_get xs i ≡ Some x
  pub passes : holds x ≡ true
  pub upper : (k : ℕ) (y : X) → slice_get xs k ≡ Some y → holds y ≡ true → len y ≤ len x
  pub first : (k : ℕ) (y : X) → k < i → slice_get xs k ≡ Some y → holds y ≡ true → len y < len x

abbrev pub NoneHolds : {X : Type 0} → (X → Bool) → List X → Type 0
NoneHolds {X} holds xs = (k : ℕ) (y : X) → slice_get xs k ≡ Some y → holds y ≡ false

abbrev pub IsLongestOf : {X : Type 0} → (X → Bool) → (X → ℕ) → List X → Option (ℕ × X) → Type 0
IsLongestOf holds len xs None = NoneHolds holds xs
IsLongestOf holds len xs (Some best) = IsLongestAt holds len xs best.0 best.1

takes_over : {X : Type 0} (holds : X → Bool) (len : X → ℕ) (xs : List X) (y : X) → holds y ≡ true
    → ((k : ℕ) (z : X) → slice_get xs k ≡ Some z → holds z ≡ true → len z < len y)
    → IsLongestAt holds len (xs ++ y ∷ []) (length xs) y
takes_over holds len xs y passes below = record {
  here = slice_get-push_last xs y;
  passes = passes;
  upper = λ k z e t. elim (slice_get-push_cases xs y k z e) [ inl f ↦ omega (arith, below k z f t) | inr f ↦ omega (arith, ap len f.1) ];
  first = λ k z lt e t. elim (slice_get-push_cases xs y k z e) [ inl f ↦ below k z f t | inr f ↦ absurd (omega (arith, f.0)) ];
}

stays_none : {X : Type 0} (holds : X → Bool) (xs : List X) (y : X) → NoneHolds holds xs → holds y ≡ false → NoneHolds holds (xs ++ y ∷ [])
stays_none holds xs y none fails k z e =
    elim (slice_get-push_cases xs y k z e) [ inl f ↦ none k z f | inr f ↦ sym (ap holds f.1) ∙ fails ]

stays_best : {X : Type 0} (holds : X → Bool) (len : X → ℕ) (xs : List X) (i : ℕ) (x y : X) → IsLongestAt holds len xs i x
    → (holds y ≡ true → len y ≤ len x) → IsLongestAt holds len (xs ++ y ∷ []) i x
stays_best holds len xs i x y best no_longer = record {
  here = slice_get-push_kept xs y i x best.here;
  passes = best.passes;
  upper = λ k z e t. elim (slice_get-push_cases xs y k z e) [ inl f ↦ best.upper k z f t | inr f ↦ omega (arith, ap len f.1, no_longer (ap holds f.1 ∙ t)) ];
  first = λ k z lt e t. elim (slice_get-push_cases xs y k z e)
      [ inl f ↦ best.first k z lt f t | inr f ↦ absurd (omega (arith, f.0, slice_get_within xs i x best.here)) ];
}

push_none : {X : Type 0} (holds : X → Bool) (len : X → ℕ) (xs : List X) (y : X) → NoneHolds holds xs → (v : Bool) → holds y ≡ v
    → IsLongestOf holds len (xs ++ y ∷ []) (cond v (Some (length xs, y)) None)
push_none holds len xs y none true h = takes_over holds len xs y h (λ k z e t. absurd (grind (arith, none k z e, t)))
push_none holds len xs y none false h = stays_none holds xs y none h

push_some : {X : Type 0} (holds : X → Bool) (len : X → ℕ) (xs : List X) (y : X) (best : ℕ × X) → IsLongestAt holds len xs best.0 best.1
    → (v w : Bool) → holds y ≡ v → ltb (len best.1) (len y) ≡ w
    → IsLongestOf holds len (xs ++ y ∷ []) (cond (v && w) (Some (length xs, y)) (Some best))
push_some holds len xs y best is true true h l =
    let less : len best.1 < len y = grind (arith, nat_tests, l) in
    takes_over holds len xs y h (λ k z e t. omega (arith, less, is.upper k z e t))
push_some holds len xs y best is true false h l =
    let no_less : len y ≤ len best.1 = grind (arith, nat_tests, l) in
    stays_best holds len xs best.0 best.1 y is (λ _. no_less)
push_some holds len xs y best is false w h l =
    stays_best holds len xs best.0 best.1 y is (λ t. absurd (grind (arith, h, t)))

pub IsLongestOf-push : {X : Type 0} (holds : X → Bool) (len : X → ℕ) (xs : List X) (y : X) (best : Option (ℕ × X))
    → IsLongestOf holds len xs best → IsLongestOf holds len (xs ++ y ∷ []) (longer holds len best (length xs, y))
IsLongestOf-push holds len xs y None is = push_none holds len xs y is (holds y) refl
IsLongestOf-push holds len xs y (Some best) is = push_some holds len xs y best is (holds y) (ltb (len best.1) (len y)) refl refl

-- every list has one
scan_is : {X : Type 0} (holds : X → Bool) (len : X → ℕ) (xs ys : List X) (best : Option (ℕ × X)) → IsLongestOf holds len xs best
    → (found : Option (ℕ × X)) × IsLongestOf holds len (xs ++ ys) found
scan_is holds len xs [] best is = (best, subst (λ zs. IsLongestOf holds len zs best) (sym (append-nil xs)) is)
scan_is {X} holds len xs (y ∷ ys) best is =
    let rest = scan_is holds len (xs ++ y ∷ []) ys (longer holds len best (length xs, y)) (IsLongestOf-push holds len xs y best is) in
    (rest.0, subst (λ zs. IsLongestOf holds len zs rest.0) (append_assoc xs (y ∷ []) ys) rest.1)

no_longer_passes : (v : Bool) (m n : ℕ) → (v ≡ true → m ≤ n) → (not v || leb m n) ≡ true
no_longer_passes true m n h = let le : m ≤ n = h refl in grind (arith, nat_tests)
no_longer_passes false m n h = refl

longer_fails : (v : Bool) (m n : ℕ) → v ≡ true → n < m → (not v || leb m n) ≡ false
longer_fails true m n h l = grind (arith, nat_tests)
longer_fails false m n h l = absurd (grind (arith, h))

is_longest-true : {X : Type 0} (holds : X → Bool) (len : X → ℕ) (xs : List X) (i : ℕ) (x : X) → IsLongestAt holds len xs i x
    → (holds x && list_all (λ y. not (holds y) || leb (len y) (len x)) xs) ≡ true
is_longest-true holds len xs i x is =
    let all : list_all (λ y. not (holds y) || leb (len y) (len x)) xs ≡ true =
    list_all-true _ xs (λ k y e. no_longer_passes (holds y) (len y) (len x) (is.upper k y e)) in
    grind (arith, all, is.passes)

is_longest-false : {X : Type 0} (holds : X → Bool) (len : X → ℕ) (xs : List X) (i : ℕ) (x : X) → IsLongestAt holds len xs i x
    → (k : ℕ) (y : X) → k < i → slice_get xs k ≡ Some y → (v : Bool) → holds y ≡ v
    → (v && list_all (λ z. not (holds z) || leb (len z) (len y)) xs) ≡ false
is_longest-false holds len xs i x is k y lt e true h =
    list_all-false _ xs i x is.here (longer_fails (holds x) (len x) (len y) is.passes (is.first k y lt e h))
is_longest-false holds len xs i x is k y lt e false h = refl

pub longest_is : {X : Type 0} (holds : X → Bool) (len : X → ℕ) (xs : List X) (best : Option (ℕ × X)) → IsLongestOf holds len xs best
    → find (λ placed. holds placed.1 && list_all (λ y. not (holds y) || leb (len y) (len placed.1)) xs) (enumerate_from 0 xs) ≡ best
longest_is {X} holds len xs None none =
    find_none (λ (placed : ℕ × X). holds placed.1 && list_all (λ y. not (holds y) || leb (len y) (len placed.1)) xs) 0 xs
    (λ k y e. ap (λ v. v && list_all (λ z. not (holds z) || leb (len z) (len y)) xs) (none k y e))
longest_is {X} holds len xs (Some best) is =
    let same_place : 0 + best.0 ≡ best.0 = omega arith in
    subst (λ (n : ℕ). find (λ (placed : ℕ × X). holds placed.1 && list_all (λ y. not (holds y) || leb (len y) (len placed.1)) xs) (enumerate_from 0 xs) ≡ Some (n, best.1)) same_place
    (find_first (λ (placed : ℕ × X). holds placed.1 && list_all (λ y. not (holds y) || leb (len y) (len placed.1)) xs) 0 xs best.0 best.1
    is.here (is_longest-true holds len xs best.0 best.1 is)
    (λ k y lt e. is_longest-false holds len xs best.0 best.1 is k y lt e (holds y) refl))

pub IsLongestOf-longest : {X : Type 0} (holds : X → Bool) (len : X → ℕ) (xs : List X)
    → IsLongestOf holds len xs (find (λ placed. holds placed.1 && list_all (λ y. not (holds y) || leb (len y) (len placed.1)) xs) (enumerate_from 0 xs))
IsLongestOf-longest holds len xs =
    let found = scan_is holds len [] xs None (λ k y e. absurd cc) in
    subst (IsLongestOf holds len xs) (sym (longest_is holds len xs found.0 found.1)) found.1
