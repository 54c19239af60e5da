-- In a list of prefixes in ascending order neighbours decide whether any two overlap.
use Rattle.std.proofs.Common.{◌≡◌, ◌≢◌, ℕ, zero, suc, ◌+◌, ◌-◌, ◌*◌, ◌/◌, ◌%◌, ◌^◌, ◌<◌, ◌≤◌, min, false, eqb, List, [], ◌∷◌, length, get_or, map, All, AllPairs, sym, ap, subst, arith, ⊎_elim, cond}
use Rattle.std.specs.List.{AllAdjacentBelow, swap}
use Rattle.std.specs.List.Sorted.{IsPermutation, IsNonDecreasingBy}
use Rattle.std.proofs.lemmas.Bool.{cases_lt}
use Rattle.std.proofs.lemmas.Bool.Decides.{nat_tests}
use Rattle.std.proofs.lemmas.List.{get_or-map, length-map}
use Rattle.std.proofs.lemmas.List.Edits.{swap_is, length-swap}
use Rattle.std.proofs.lemmas.Grind.{common_steps}
use Rattle.std.proofs.lemmas.List.Sorted.{IsPermutation-keeps, IsPermutation-sym, All-permutation}
use Rattle.std.proofs.lemmas.List.Elements.{All-map}
use Rattle.std.proofs.lemmas.Nat.{pow_pos}
use Rattle.std.proofs.Math.Nat.{mul-le-mul_left}
use Rattle.siit_addr.specs.Addresses.{overlap}
use Rattle.siit_eamt.proofs.Powers.{multiples_apart, multiple_below}

-- numbers with different quotients by m lie m apart, from a multiple of m on
quotients_apart : (a b m : ℕ) → 0 < m → a % m ≡ 0 → a ≤ b → a / m ≢ b / m → a + m ≤ b
quotients_apart a b m pos clean le apart =
    ⊎_elim (λ (lt : a / m < b / m). omega (arith, mul-le-mul_left m lt))
    (λ (ge : b / m ≤ a / m). let lt : b / m < a / m = omega arith in absurd (omega (arith, mul-le-mul_left m lt)))
    (cases_lt (a / m) (b / m))

min_left : (m n : ℕ) → m ≤ n → min m n ≡ m
min_left m n le = omega arith

min_right : (m n : ℕ) → n ≤ m → min m n ≡ n
min_right m n le = omega arith

apart_quotients : (w l a b : ℕ) → (eqb (a / 2 ^ (w - l)) (b / 2 ^ (w - l))) ≡ false → a / 2 ^ (w - l) ≢ b / 2 ^ (w - l)
apart_quotients w l a b h = grind (arith, nat_tests, h)

quotients_test : (w l a b : ℕ) → a / 2 ^ (w - l) ≢ b / 2 ^ (w - l) → (eqb (a / 2 ^ (w - l)) (b / 2 ^ (w - l))) ≡ false
quotients_test w l a b h = grind (arith, nat_tests, h)

-- a clean prefix that doesn't overlap a later one ends before it
pub ends_before : (w l1 a1 l2 a2 : ℕ) → a1 % 2 ^ (w - l1) ≡ 0 → a2 % 2 ^ (w - l2) ≡ 0 → l1 ≤ w → l2 ≤ w → a1 ≤ a2
    → overlap w l1 a1 l2 a2 ≡ false → a1 + 2 ^ (w - l1) ≤ a2
ends_before w l1 a1 l2 a2 clean1 clean2 in1 in2 le apart =
    ⊎_elim (λ (lt : l2 < l1).
    let differ = apart_quotients w l2 a1 a2 (subst (λ n. eqb (a1 / 2 ^ (w - n)) (a2 / 2 ^ (w - n)) ≡ false) (min_right l1 l2 (omega arith)) apart) in
    let less : a1 < a2 = ⊎_elim (λ (e : a1 < a2). e) (λ (e : a2 ≤ a1). absurd (differ (ap (λ t. t / 2 ^ (w - l2)) (omega arith)))) (cases_lt a1 a2) in
    multiples_apart a1 a2 (2 ^ (w - l1)) (pow_pos (w - l1)) clean1 (multiple_below a2 (w - l1) (w - l2) (omega arith) clean2) less)
    (λ (ge : l1 ≤ l2).
    let differ = apart_quotients w l1 a1 a2 (subst (λ n. eqb (a1 / 2 ^ (w - n)) (a2 / 2 ^ (w - n)) ≡ false) (min_left l1 l2 ge) apart) in
    quotients_apart a1 a2 (2 ^ (w - l1)) (pow_pos (w - l1)) clean1 le differ)
    (cases_lt l2 l1)

-- and the other way round
pub apart_from_end : (w l1 a1 l2 a2 : ℕ) → a1 % 2 ^ (w - l1) ≡ 0 → a2 % 2 ^ (w - l2) ≡ 0 → a1 + 2 ^ (w - l1) ≤ a2 → overlap w l1 a1 l2 a2 ≡ false
apart_from_end w l1 a1 l2 a2 clean1 clean2 ends =
    ⊎_elim (λ (lt : l2 < l1).
    subst (λ n. eqb (a1 / 2 ^ (w - n)) (a2 / 2 ^ (w - n)) ≡ false) (sym (min_right l1 l2 (omega arith)))
    (quotients_test w l2 a1 a2 (λ same. omega (arith, pow_pos (w - l1), pow_pos (w - l2), ap (λ t. 2 ^ (w - l2) * t) same))))
    (λ (ge : l1 ≤ l2).
    subst (λ n. eqb (a1 / 2 ^ (w - n)) (a2 / 2 ^ (w - n)) ≡ false) (sym (min_left l1 l2 ge))
    (quotients_test w l1 a1 a2 (λ same. omega (arith, pow_pos (w - l1), ap (λ t. 2 ^ (w - l1) * t) same))))
    (cases_lt l2 l1)

pub overlap_comm : (w l1 a1 l2 a2 : ℕ) → overlap w l1 a1 l2 a2 ≡ false → overlap w l2 a2 l1 a1 ≡ false
overlap_comm w l1 a1 l2 a2 h =
    let same : min l1 l2 ≡ min l2 l1 = omega arith in
    quotients_test w (min l2 l1) a2 a1
    (λ e. apart_quotients w (min l2 l1) a1 a2 (subst (λ n. eqb (a1 / 2 ^ (w - n)) (a2 / 2 ^ (w - n)) ≡ false) same h) (sym e))

-- every two elements at different places are related
abbrev pub AllApart : {X : Type 0} → (X → X → Type 0) → List X → Type 0
AllApart {X} R xs = (i j : ℕ) (d : X) → i ≢ j → i < length xs → j < length xs → R (get_or xs i d) (get_or xs j d)

all_apart_from_pairs : {X : Type 0} (R : X → X → Type 0) (back : (x y : X) → R x y → R y x) (xs : List X) → AllPairs R xs → AllApart R xs
all_apart_from_pairs {X} R back xs pairs i j d differ in_i in_j =
    ⊎_elim (λ (lt : i < j). pairs i j d lt in_j) (λ (ge : j ≤ i). back (get_or xs j d) (get_or xs i d) (pairs j i d (omega (arith, differ)) in_i)) (cases_lt i j)

pairs_from_all_apart : {X : Type 0} (R : X → X → Type 0) (xs : List X) → AllApart R xs → AllPairs R xs
pairs_from_all_apart R xs apart i j d lt in_j = apart i j d (omega arith) (omega arith) in_j

-- where an element stood before two were swapped
was_at : (a b k : ℕ) → ℕ
was_at a b k = cond (eqb k b) a (cond (eqb k a) b k)

get_or-swap : {X : Type 0} (xs : List X) (a b k : ℕ) (d : X) → a < length xs → b < length xs → get_or (swap xs a b) k d ≡ get_or xs (was_at a b k) d
unfolding was_at
get_or-swap xs a b k d in_a in_b =
    let e = swap_is xs a b d in_a in_b in
    grind (arith, nat_tests, common_steps, e)

was_at-apart : (a b i j : ℕ) → i ≢ j → was_at a b i ≢ was_at a b j
unfolding was_at
was_at-apart a b i j differ = grind (arith, nat_tests, differ)

was_at-lt : (a b i n : ℕ) → a < n → b < n → i < n → was_at a b i < n
unfolding was_at
was_at-lt a b i n in_a in_b in_i = grind (arith, nat_tests)

all_apart-swap : {X : Type 0} (R : X → X → Type 0) (xs : List X) (a b : ℕ) → a < length xs → b < length xs → AllApart R xs → AllApart R (swap xs a b)
all_apart-swap {X} R xs a b in_a in_b apart i j d differ in_i in_j =
    let n = length xs in
    let same_length : length (swap xs a b) ≡ length xs = length-swap xs a b in
    let there = apart (was_at a b i) (was_at a b j) d (was_at-apart a b i j differ)
    (was_at-lt a b i (length xs) in_a in_b (omega arith)) (was_at-lt a b j (length xs) in_a in_b (omega arith)) in
    subst (λ (y : X). R (get_or (swap xs a b) i d) y) (sym (get_or-swap xs a b j d in_a in_b))
    (subst (λ (x : X). R x (get_or xs (was_at a b j) d)) (sym (get_or-swap xs a b i d in_a in_b)) there)

all_apart-permutation : {X : Type 0} (R : X → X → Type 0) (xs ys : List X) → IsPermutation xs ys → AllApart R xs → AllApart R ys
all_apart-permutation R xs ys same apart =
    IsPermutation-keeps xs (AllApart R) apart (λ l i j in_i in_j h. all_apart-swap R l i j in_i in_j h) ys same

some_of : {X : Type 0} (xs : List X) (i : ℕ) → i < length xs → X
some_of [] i h = absurd (omega arith)
some_of (x ∷ xs) i h = x

all_apart-map : {X Y : Type 0} (f : X → Y) (R : Y → Y → Type 0) (xs : List X) → AllApart (λ x y. R (f x) (f y)) xs → AllApart R (map f xs)
all_apart-map {X} {Y} f R xs apart i j d differ in_i in_j =
    let same_length = length-map xs f in
    let in_i' : i < length xs = omega arith in
    let in_j' : j < length xs = omega arith in
    let x = some_of xs i in_i' in
    subst (λ (y : Y). R (get_or (map f xs) i d) y) (sym (get_or-map f xs j x d in_j'))
    (subst (λ (y : Y). R y (f (get_or xs j x))) (sym (get_or-map f xs i x d in_i')) (apart i j x differ in_i' in_j'))

all_apart-from_map : {X Y : Type 0} (f : X → Y) (R : Y → Y → Type 0) (xs : List X) → AllApart R (map f xs) → AllApart (λ x y. R (f x) (f y)) xs
all_apart-from_map {X} {Y} f R xs apart i j d differ in_i in_j =
    let same_length = length-map xs f in
    let there = apart i j (f d) differ (omega arith) (omega arith) in
    subst (λ (y : Y). R (f (get_or xs i d)) y) (get_or-map f xs j d (f d) in_j)
    (subst (λ (y : Y). R y (get_or (map f xs) j (f d))) (get_or-map f xs i d (f d) in_i) there)

-- ---- prefixes, by their length and address
pub record IsPrefix (w l a : ℕ) : Type 0 where
  pub clean : a % 2 ^ (w - l) ≡ 0
  pub in_range : l ≤ w

module _ {X : Type 0} (w : ℕ) (len addr : X → ℕ) where
  abbrev pub Apart : X → X → Type 0
  Apart p q = overlap w (len p) (addr p) (len q) (addr q) ≡ false

  abbrev pub ArePrefixes : List X → Type 0
  ArePrefixes = All (λ p. IsPrefix w (len p) (addr p))

  -- each ends before the next one, and so before all that follow
  ends_before_all : (xs : List X) → ArePrefixes xs → IsNonDecreasingBy addr xs → AllAdjacentBelow Apart xs (length xs)
      → (i n : ℕ) (d : X) → i + suc n < length xs → addr (get_or xs i d) + 2 ^ (w - len (get_or xs i d)) ≤ addr (get_or xs (i + suc n) d)
  ends_before_all xs clean up next i zero d in_j =
      let place : i + 1 ≡ i + suc zero = omega arith in
      let p = clean i d (omega arith) in
      let q = clean (i + 1) d (omega arith) in
      subst (λ (j : ℕ). addr (get_or xs i d) + 2 ^ (w - len (get_or xs i d)) ≤ addr (get_or xs j d)) place
      (ends_before w _ _ _ _ p.clean q.clean p.in_range q.in_range (up i (i + 1) d (omega arith) (omega arith)) (next i d (omega arith)))
  ends_before_all xs clean up next i (suc n) d in_j =
      let before = ends_before_all xs clean up next i n d (omega arith) in
      omega (arith, before, up (i + suc n) (i + suc (suc n)) d (omega arith) in_j)

  pub all_apart_from_neighbours : (xs : List X) → ArePrefixes xs → IsNonDecreasingBy addr xs → AllAdjacentBelow Apart xs (length xs) → AllPairs Apart xs
  all_apart_from_neighbours xs clean up next i j d lt in_j =
      let place : i + suc (j - i - 1) ≡ j = omega arith in
      let ends : addr (get_or xs i d) + 2 ^ (w - len (get_or xs i d)) ≤ addr (get_or xs j d) =
      subst (λ (k : ℕ). addr (get_or xs i d) + 2 ^ (w - len (get_or xs i d)) ≤ addr (get_or xs k d)) place
      (ends_before_all xs clean up next i (j - i - 1) d (omega arith)) in
      apart_from_end w _ _ _ _ (clean i d (omega arith)).clean (clean j d in_j).clean ends

  pub neighbours_from_pairs : (xs : List X) → AllPairs Apart xs → AllAdjacentBelow Apart xs (length xs)
  neighbours_from_pairs xs pairs k d in_k = pairs k (k + 1) d (omega arith) in_k

  -- from the entries to a list of their prefixes in ascending order, and back
  pub pairs_from_neighbours : {E : Type 0} (prefix : E → X) (entries : List E) (sorted : List X) → IsPermutation (map prefix entries) sorted
      → All (λ e. IsPrefix w (len (prefix e)) (addr (prefix e))) entries → IsNonDecreasingBy addr sorted
      → AllAdjacentBelow Apart sorted (length sorted) → AllPairs (λ e f. Apart (prefix e) (prefix f)) entries
  pairs_from_neighbours prefix entries sorted same good up next =
      let comm : (p q : X) → Apart p q → Apart q p = λ p q h. overlap_comm w (len p) (addr p) (len q) (addr q) h in
      let clean : ArePrefixes sorted = All-permutation (λ p. IsPrefix w (len p) (addr p)) (map prefix entries) sorted same (All-map (λ p. IsPrefix w (len p) (addr p)) prefix entries good) in
      let apart : AllApart Apart sorted = all_apart_from_pairs Apart comm sorted (all_apart_from_neighbours sorted clean up next) in
      pairs_from_all_apart (λ e f. Apart (prefix e) (prefix f)) entries (all_apart-from_map prefix Apart entries
      (all_apart-permutation Apart sorted (map prefix entries) (IsPermutation-sym (map prefix entries) sorted same) apart))

  pub neighbours_from_entries : {E : Type 0} (prefix : E → X) (entries : List E) (sorted : List X) → IsPermutation (map prefix entries) sorted
      → AllPairs (λ e f. Apart (prefix e) (prefix f)) entries → AllAdjacentBelow Apart sorted (length sorted)
  neighbours_from_entries {E} prefix entries sorted same pairs =
      let comm : (e f : E) → Apart (prefix e) (prefix f) → Apart (prefix f) (prefix e) =
      λ e f h. overlap_comm w (len (prefix e)) (addr (prefix e)) (len (prefix f)) (addr (prefix f)) h in
      let apart : AllApart Apart (map prefix entries) = all_apart-map prefix Apart entries (all_apart_from_pairs (λ e f. Apart (prefix e) (prefix f)) comm entries pairs) in
      neighbours_from_pairs sorted (pairs_from_all_apart Apart sorted (all_apart-permutation Apart (map prefix entries) sorted same apart))
