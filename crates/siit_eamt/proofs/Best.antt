-- What stands at the longest prefix of an address is the longest entry that holds it.
use Rattle.std.proofs.Common.{◌≡◌, ℕ, ◌<◌, ◌≤◌, Bool, true, false, ◌&&◌, eqb, List, length, Option, Some, None, refl, sym, ap, ◌∙◌, subst, arith, ⊎_elim}
use Rattle.std.specs.List.{position, slice_get}
use Rattle.std.proofs.lemmas.Bool.{cases_lt}
use Rattle.std.proofs.lemmas.Bool.Decides.{nat_tests}
use Rattle.std.proofs.lemmas.Option.{same_Some, slice_get_within}
use Rattle.siit_addr.specs.Addresses.{agree}
use Rattle.siit_eamt.specs.declared.entry.Eam.{Eam}
use Rattle.siit_eamt.specs.declared.trie.Node.{Node}
use Rattle.siit_eamt.specs.Entries.{longest, holds4, holds6, best4, best6}
use Rattle.siit_eamt.specs.Standing.{has_bits4, has_bits6, IsTrieOf}
use Rattle.siit_eamt.specs.Trie.{first_bits, longest_place, place_under}
use Rattle.siit_eamt.proofs.Longest.{IsLongestAt, NoneHolds, longest_is}
use Rattle.siit_eamt.proofs.Marks.{both_same}
use Rattle.siit_eamt.proofs.Places.{none_passes, first_at, IsFirstAt}
use Rattle.siit_eamt.proofs.Ways.{nothing_longest, longest_is_at, IsLongestAtLength}

bits_same : (m n : ℕ) → eqb m n ≡ true → m ≡ n
bits_same m n h = grind (arith, nat_tests, h)

same_bits : (l a b : ℕ) → a ≡ b → (eqb l l && eqb b a) ≡ true
same_bits l a b h = grind (arith, nat_tests, h)

test_same : (m n : ℕ) → m ≡ n → eqb m n ≡ true
test_same m n h = grind (arith, nat_tests, h)

never : (t : Bool) → t ≡ true → t ≡ false → ⊥
never t h h' = cc

not_held : (v : Bool) → (v ≡ true → ⊥) → v ≡ false
not_held true h = absurd (h refl)
not_held false h = refl

-- entries of one family, each of a length and an address of so many bits
module _ (w : ℕ) (len addr : Eam → ℕ) (in_range : (e : Eam) → len e ≤ w) where
  abbrev pub Held : ℕ → Eam → Bool
  Held a e = agree w (len e) a (addr e)

  abbrev pub HasBits : (l v : ℕ) → Eam → Bool
  HasBits l v e = eqb (len e) l && eqb (first_bits w (addr e) l) v

  has_own : (a : ℕ) (e : Eam) → Held a e ≡ true → HasBits (len e) (first_bits w a (len e)) e ≡ true
  has_own a e held = same_bits (len e) (first_bits w a (len e)) (first_bits w (addr e) (len e)) (bits_same (first_bits w a (len e)) (first_bits w (addr e) (len e)) held)

  module _ (entries : List Eam) (at : ℕ → ℕ → Option ℕ) (stands : (l v : ℕ) → at l v ≡ position (HasBits l v) entries) (a : ℕ) where
    none_held : longest_place at w a w ≡ None → NoneHolds (Held a) entries
    none_held h k e here =
        not_held (Held a e) (λ held.
        let none = sym (stands (len e) (first_bits w a (len e))) ∙ nothing_longest at w a w h (len e) (in_range e) in
        never (HasBits (len e) (first_bits w a (len e)) e) (has_own a e held)
        (none_passes (HasBits (len e) (first_bits w a (len e))) entries none k e here))

    none_longer : (place l : ℕ) → IsLongestAtLength at w a w place l → (k : ℕ) (e : Eam) → slice_get entries k ≡ Some e → Held a e ≡ true → len e ≤ l
    none_longer place l is k e here held =
        ⊎_elim
        (λ (lt : l < len e).
        let none = sym (stands (len e) (first_bits w a (len e))) ∙ is.none_longer (len e) lt (in_range e) in
        absurd (never (HasBits (len e) (first_bits w a (len e)) e) (has_own a e held)
        (none_passes (HasBits (len e) (first_bits w a (len e))) entries none k e here)))
        (λ (ge : len e ≤ l). ge)
        (cases_lt l (len e))

    is_best : (place l : ℕ) → IsLongestAtLength at w a w place l → (e : Eam) → IsFirstAt (HasBits l (first_bits w a l)) entries place e
        → IsLongestAt (Held a) len entries place e
    is_best place l is e first =
        let same = both_same (len e) l (first_bits w (addr e) l) (first_bits w a l) first.passes in
        let held : first_bits w a (len e) ≡ first_bits w (addr e) (len e) =
        subst (λ (n : ℕ). first_bits w a n ≡ first_bits w (addr e) n) (sym same.0) (sym same.1) in
        record {
          here = first.here;
          passes = test_same (first_bits w a (len e)) (first_bits w (addr e) (len e)) held;
          upper = λ k y here t. let no_longer = none_longer place l is k y here t in let length_is = same.0 in omega arith;
          first = λ k y lt here t.
              ⊎_elim
              (λ (less : len y < l). let length_is = same.0 in omega arith)
              (λ (ge : l ≤ len y).
              let no_longer = none_longer place l is k y here t in
              let length_is : len y ≡ l = omega arith in
              let passes : HasBits l (first_bits w a l) y ≡ true =
              subst (λ (n : ℕ). HasBits n (first_bits w a n) y ≡ true) length_is (has_own a y t) in
              let not_before = first.first k y here passes in
              absurd (omega arith))
              (cases_lt (len y) l);
        }

    pub best_of_none : longest_place at w a w ≡ None → longest (Held a) len entries ≡ None
    best_of_none h = longest_is (Held a) len entries None (none_held h)

    pub best_of_place : (place : ℕ) → longest_place at w a w ≡ Some place
        → (e : Eam) × (slice_get entries place ≡ Some e) × (Held a e ≡ true) × (longest (Held a) len entries ≡ Some (place, e))
    best_of_place place h =
        let at_length = longest_is_at at w a w place h in
        let first = first_at (HasBits at_length.0 (first_bits w a at_length.0)) entries place (sym (stands at_length.0 (first_bits w a at_length.0)) ∙ at_length.1.here) in
        let best = is_best place at_length.0 at_length.1 first.0 first.1 in
        (first.0, best.here, best.passes, longest_is (Held a) len entries (Some (place, first.0)) best)
