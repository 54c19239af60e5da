-- Which entries hold an address that the translation prefix holds, or that an entry gives.
use Rattle.std.proofs.Common.{◌≡◌, ℕ, ◌+◌, ◌-◌, ◌*◌, ◌/◌, ◌^◌, ◌≤◌, min, Bool, true, false, eqb, List, Some, None, refl, sym, ap, ◌∙◌, subst, arith}
use Rattle.std.specs.List.{slice_get}
use Rattle.std.proofs.lemmas.Bool.Decides.{nat_tests}
use Rattle.std.proofs.lemmas.Nat.{shr-shr}
use Rattle.std.proofs.lemmas.Option.{slice_get_within, get_or_from_slice_get}
use Rattle.siit_addr.specs.Addresses.{agree, overlap}
use Rattle.siit_addr.specs.declared.addr.Prefix6.{Prefix6}
use Rattle.siit_eamt.specs.declared.entry.Eam.{Eam as Entry}
use Rattle.siit_eamt.specs.Entries.{best6, up, holds4, holds6, length6, is_good, weight}
use Rattle.siit_eamt.proofs.Disjoint.{IsDisjoint}
use Rattle.siit_eamt.proofs.Longest.{longest_is, IsLongestOf, IsLongestOf-longest}
use Rattle.siit_eamt.proofs.Powers.{agrees_above}
use Rattle.siit_eamt.proofs.Ranges.{IsSuffix4-from_held, IsGoodEntry-from_test}

-- numbers that agree in their first bits agree in fewer
agrees_shorter : (w l m x a : ℕ) → l ≤ m → x / 2 ^ (w - m) ≡ a / 2 ^ (w - m) → x / 2 ^ (w - l) ≡ a / 2 ^ (w - l)
agrees_shorter w l m x a le same =
    let k = (w - l) - (w - m) in
    let sum : (w - m) + k ≡ w - l = omega arith in
    subst (λ (n : ℕ). x / 2 ^ n ≡ a / 2 ^ n) sum
    (sym (shr-shr x (w - m) k) ∙ ap (λ t. t / 2 ^ k) same ∙ shr-shr a (w - m) k)

same_numbers : (m n : ℕ) → eqb m n ≡ true → m ≡ n
same_numbers m n h = grind (arith, nat_tests, h)

numbers_same : (m n : ℕ) → m ≡ n → eqb m n ≡ true
numbers_same m n h = grind (arith, nat_tests, h)

-- two prefixes that hold one address overlap
both_hold : (w l1 a1 l2 a2 x : ℕ) → agree w l1 x a1 ≡ true → agree w l2 x a2 ≡ true → overlap w l1 a1 l2 a2 ≡ true
both_hold w l1 a1 l2 a2 x h1 h2 =
    let l = min l1 l2 in
    let first = agrees_shorter w l l1 x a1 (omega arith) (same_numbers (x / 2 ^ (w - l1)) (a1 / 2 ^ (w - l1)) h1) in
    let second = agrees_shorter w l l2 x a2 (omega arith) (same_numbers (x / 2 ^ (w - l2)) (a2 / 2 ^ (w - l2)) h2) in
    numbers_same (a1 / 2 ^ (w - l)) (a2 / 2 ^ (w - l)) (sym first ∙ second)

never_both : (v : Bool) → v ≡ true → v ≡ false → ⊥
never_both v t f = cc

not_true : (v : Bool) → (v ≡ true → ⊥) → v ≡ false
not_true true h = absurd (h refl)
not_true false h = refl

-- no entry holds an address that the prefix holds
pub none_under_prefix : (entries : List Entry) (prefix : Prefix6) → IsDisjoint entries prefix → (x : ℕ) → agree 128 prefix.len x prefix.addr.0 ≡ true
    → best6 entries x ≡ None
none_under_prefix entries prefix disjoint x held =
    longest_is (holds6 x) length6 entries None (λ k y at_k. not_true (holds6 x y) (λ t.
    let clear : overlap 128 y.p6.len y.p6.addr.0 prefix.len prefix.addr.0 ≡ false =
    subst (λ (g : Entry). overlap 128 g.p6.len g.p6.addr.0 prefix.len prefix.addr.0 ≡ false) (get_or_from_slice_get entries k y y at_k)
    (disjoint.clear k y (slice_get_within entries k y at_k)) in
    never_both _ (both_hold 128 y.p6.len y.p6.addr.0 prefix.len prefix.addr.0 x t held) clear))

-- an entry holds the address that it gives
up_held : (e : Entry) (a : ℕ) → is_good e ≡ true → holds4 a e ≡ true → holds6 (up e a) e ≡ true
up_held e a good held =
    let suffix = IsSuffix4-from_held e a good held in
    let g = IsGoodEntry-from_test e good in
    numbers_same _ _ (agrees_above e.p6.addr.0 ((a - e.p4.addr.0) * weight e) (2 ^ (128 - e.p6.len)) suffix.moved g.clean6)

-- so some entry does
pub not_none_above : (entries : List Entry) (i : ℕ) (e : Entry) (a : ℕ) → slice_get entries i ≡ Some e → is_good e ≡ true → holds4 a e ≡ true
    → best6 entries (up e a) ≡ None → ⊥
not_none_above entries i e a at good held none =
    let x = up e a in
    let is : IsLongestOf (holds6 x) length6 entries None =
    subst (IsLongestOf (holds6 x) length6 entries) none (IsLongestOf-longest (holds6 x) length6 entries) in
    never_both (holds6 x e) (up_held e a good held) (is i e at)
