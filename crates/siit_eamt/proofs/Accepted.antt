-- The entries of an accepted table are good.
use Rattle.std.proofs.Common.{◌≡◌, ℕ, zero, suc, ◌≤◌, Bool, true, List, [], ◌∷◌, ◌++◌, length, Option, Some, None, refl, subst, arith}
use Rattle.std.specs.List.{slice_get}
use Rattle.std.specs.Option.{option_or}
use Rattle.std.proofs.lemmas.Bool.Decides.{nat_tests}
use Rattle.std.proofs.lemmas.Option.{same_Some}
use Rattle.siit_eamt.specs.declared.entry.Eam.{Eam}
use Rattle.siit_eamt.specs.Entries.{longest, is_good}
use Rattle.siit_eamt.specs.Faults.{table_fault, first_fault, entry_fault}
use Rattle.siit_eamt.proofs.Longest.{IsLongestOf, IsLongestOf-longest}

pub accepted-parts : (xs : List Eam) → table_fault xs ≡ None → (length xs ≤ 65536) × (first_fault [] xs ≡ None)
accepted-parts xs h = (grind (arith, nat_tests, h), grind (arith, nat_tests, h))

pub accepted_from_parts : (xs : List Eam) → length xs ≤ 65536 → first_fault [] xs ≡ None → table_fault xs ≡ None
accepted_from_parts xs few h = grind (arith, nat_tests, few, h)

option_or-none : {X : Type 0} (a b : Option X) → option_or a b ≡ None → (a ≡ None) × (b ≡ None)
option_or-none None b h = (refl, h)
option_or-none (Some x) b h = absurd cc

good_from_entry : (before : List Eam) (e : Eam) → entry_fault before e ≡ None → is_good e ≡ true
good_from_entry before e h = grind (arith, nat_tests, h)

good_from_first : (before rest : List Eam) → first_fault before rest ≡ None → (k : ℕ) (e : Eam) → slice_get rest k ≡ Some e → is_good e ≡ true
good_from_first before [] h k e at = absurd cc
good_from_first before (x ∷ rest) h zero e at =
    let parts = option_or-none _ _ h in
    subst (λ y. is_good y ≡ true) (same_Some x e at) (good_from_entry before x parts.0)
good_from_first before (x ∷ rest) h (suc k) e at =
    let parts = option_or-none _ _ h in
    good_from_first (before ++ x ∷ []) rest parts.1 k e at

pub good_from_faultless : (xs : List Eam) → first_fault [] xs ≡ None → (k : ℕ) (e : Eam) → slice_get xs k ≡ Some e → is_good e ≡ true
good_from_faultless xs h = good_from_first [] xs h

-- each entry of an accepted table is good
pub good_from_accepted : (xs : List Eam) → table_fault xs ≡ None → (k : ℕ) (e : Eam) → slice_get xs k ≡ Some e → is_good e ≡ true
good_from_accepted xs h = good_from_faultless xs (accepted-parts xs h).1

-- the entry that is longest holds the address
pub held_from_longest : (holds : Eam → Bool) (len : Eam → ℕ) (xs : List Eam) (i : ℕ) (e : Eam) → longest holds len xs ≡ Some (i, e)
    → (slice_get xs i ≡ Some e) × (holds e ≡ true)
held_from_longest holds len xs i e h =
    let is : IsLongestOf holds len xs (Some (i, e)) = subst (IsLongestOf holds len xs) h (IsLongestOf-longest holds len xs) in
    (is.here, is.passes)
