-- Tables in which no prefix overlaps another, by pairs of entries.
use Rattle.std.proofs.Common.{◌≡◌, zero, suc, Bool, true, false, not, List, [], ◌∷◌, All, IsTrue, ◌↔◌, refl, sym, ◌∙◌, arith, inl, inr}
use Rattle.std.specs.List.{list_all, AllPairs}
use Rattle.std.proofs.lemmas.Bool.{and_parts, cases_Bool}
use Rattle.std.proofs.lemmas.List.Kept.{AllPairs-cons}
use Rattle.siit_addr.specs.declared.addr.Prefix6.{Prefix6}
use Rattle.siit_eamt.specs.declared.entry.Eam.{Eam}
use Rattle.siit_addr.specs.Addresses.{overlap}
use Rattle.siit_eamt.specs.Disjoint.{overlap4, overlap6, are_apart, is_disjoint}

pub record IsDisjoint (entries : List Eam) (prefix : Prefix6) : Type 0 where
  pub apart4 : AllPairs (λ e f. overlap4 e f ≡ false) entries
  pub apart6 : AllPairs (λ e f. overlap6 e f ≡ false) entries
  pub clear : All (λ e. overlap 128 e.p6.len e.p6.addr.0 prefix.len prefix.addr.0 ≡ false) entries

not_true : (b : Bool) → not b ≡ true → b ≡ false
not_true true h = sym h
not_true false h = refl

none_from_test : {X : Type 0} (f : X → Bool) (xs : List X) → list_all (λ x. not (f x)) xs ≡ true → All (λ x. f x ≡ false) xs
none_from_test f [] h k d below = absurd (omega arith)
none_from_test f (x ∷ xs) h zero d below = not_true (f x) (and_parts (not (f x)) _ h).0
none_from_test f (x ∷ xs) h (suc k) d below = none_from_test f xs (and_parts (not (f x)) _ h).1 k d (omega arith)

test_from_none : {X : Type 0} (f : X → Bool) (xs : List X) → All (λ x. f x ≡ false) xs → list_all (λ x. not (f x)) xs ≡ true
test_from_none f [] h = refl
test_from_none f (x ∷ xs) h = rw (h 0 x (omega arith)) (test_from_none f xs (λ k d below. h (suc k) d (omega arith)))

pairs_from_test : (f : Eam → Eam → Bool) (xs : List Eam) → are_apart f xs ≡ true → AllPairs (λ x y. f x y ≡ false) xs
pairs_from_test f [] h = λ i j d before below. absurd (omega arith)
pairs_from_test f (x ∷ xs) h =
    let (head, tail) = and_parts (list_all (λ y. not (f x y)) xs) (are_apart f xs) h in
    AllPairs-cons (λ x y. f x y ≡ false) x xs (none_from_test (f x) xs head) (pairs_from_test f xs tail)

test_from_pairs : (f : Eam → Eam → Bool) (xs : List Eam) → AllPairs (λ x y. f x y ≡ false) xs → are_apart f xs ≡ true
test_from_pairs f [] h = refl
test_from_pairs f (x ∷ xs) h =
    rw (test_from_none (f x) xs (λ k d below. h 0 (suc k) d (omega arith) (omega arith)))
    (test_from_pairs f xs (λ i j d before below. h (suc i) (suc j) d (omega arith) (omega arith)))

pub disjoint_from_test : (entries : List Eam) (prefix : Prefix6) → is_disjoint entries prefix ≡ true → IsDisjoint entries prefix
disjoint_from_test entries prefix h =
    let (both, clear) = and_parts _ _ h in
    let (apart4, apart6) = and_parts _ _ both in
    record {
      apart4 = pairs_from_test overlap4 entries apart4;
      apart6 = pairs_from_test overlap6 entries apart6;
      clear = none_from_test (λ e. overlap 128 e.p6.len e.p6.addr.0 prefix.len prefix.addr.0) entries clear;
    }

test_from_disjoint : (entries : List Eam) (prefix : Prefix6) → IsDisjoint entries prefix → is_disjoint entries prefix ≡ true
test_from_disjoint entries prefix h =
    rw (test_from_pairs overlap4 entries h.apart4, test_from_pairs overlap6 entries h.apart6)
    (test_from_none (λ e. overlap 128 e.p6.len e.p6.addr.0 prefix.len prefix.addr.0) entries h.clear)

-- what decides it is the test
pub is_the_test : (b : Bool) (entries : List Eam) (prefix : Prefix6) → IsTrue b ↔ IsDisjoint entries prefix → b ≡ is_disjoint entries prefix
is_the_test true entries prefix h = sym (test_from_disjoint entries prefix (h.0 refl))
is_the_test false entries prefix h = elim (cases_Bool (is_disjoint entries prefix)) [
  | inl apart ↦ h.1 (disjoint_from_test entries prefix apart) ∙ sym apart
  | inr other ↦ sym other
]
