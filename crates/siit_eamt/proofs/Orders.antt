-- The orders of prefixes, by address and then by length.
use Rattle.std.proofs.Common.{◌≡◌, ℕ, ◌+◌, ◌≤◌, false, List, get_or, Ordering, arith}
use Rattle.std.specs.Ordering.{nat_cmp, ordering_then, is_lt}
use Rattle.std.specs.List.Sorted.{IsSorted, IsNonDecreasingBy}
use Rattle.std.proofs.lemmas.Bool.Decides.{nat_tests}
use Rattle.std.proofs.lemmas.List.Sorted.{IsNonDecreasingBy-from_all_adjacent}
use Rattle.siit_addr.specs.declared.addr.Prefix4.{Prefix4}
use Rattle.siit_addr.specs.declared.addr.Prefix6.{Prefix6}
use Rattle.siit_addr.specs.contracts.addr.Prefix4Ord.TheImpl as prefix4_order
use Rattle.siit_addr.specs.contracts.addr.Prefix6Ord.TheImpl as prefix6_order

abbrev pub order4 : Prefix4 → Prefix4 → Ordering
order4 = (prefix4_order.ghosts).cmp

abbrev pub order6 : Prefix6 → Prefix6 → Ordering
order6 = (prefix6_order.ghosts).cmp

le_from_order : (a b : ℕ) (o : Ordering) → is_lt (ordering_then (nat_cmp a b) o) ≡ false → b ≤ a
le_from_order a b o h = grind (arith, nat_tests, h)

pub ascending4 : (xs : List Prefix4) → IsSorted order4 xs → IsNonDecreasingBy (λ prefix. prefix.addr.0) xs
ascending4 xs sorted =
    IsNonDecreasingBy-from_all_adjacent (λ (p : Prefix4). p.addr.0) xs
    (λ k d h. le_from_order (get_or xs (k + 1) d).addr.0 (get_or xs k d).addr.0 _ (sorted k d (omega arith) h))

pub ascending6 : (xs : List Prefix6) → IsSorted order6 xs → IsNonDecreasingBy (λ prefix. prefix.addr.0) xs
ascending6 xs sorted =
    IsNonDecreasingBy-from_all_adjacent (λ (p : Prefix6). p.addr.0) xs
    (λ k d h. le_from_order (get_or xs (k + 1) d).addr.0 (get_or xs k d).addr.0 _ (sorted k d (omega arith) h))
