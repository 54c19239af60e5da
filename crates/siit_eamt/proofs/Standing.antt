-- One more entry whose prefix is put into the trie.
use Rattle.std.proofs.Common.{◌≡◌, ℕ, ◌+◌, ◌-◌, ◌*◌, ◌/◌, ◌%◌, ◌^◌, ◌<◌, ◌≤◌, Bool, true, false, ◌&&◌, eqb, cond, List, [], ◌∷◌, ◌++◌, length, Some, None, refl, sym, ap, ◌∙◌, subst, arith, inl, inr}
use Rattle.std.specs.List.{position, slice_get}
use Rattle.std.specs.Option.{option_or}
use Rattle.std.proofs.lemmas.Bool.{cases_Bool}
use Rattle.std.proofs.lemmas.Bool.Decides.{nat_tests}
use Rattle.std.proofs.lemmas.Nat.{pow_pos}
use Rattle.std.proofs.lemmas.List.{length_push}
use Rattle.siit_eamt.specs.declared.entry.Eam.{Eam}
use Rattle.siit_eamt.specs.declared.trie.Node.{Node}
use Rattle.siit_eamt.specs.Entries.{is_clean}
use Rattle.siit_eamt.specs.Standing.{IsTrieOf, AreClean, AreTriesOf}
use Rattle.siit_eamt.specs.Trie.{IsTrie, first_bits, place_under, with_place}
use Rattle.siit_eamt.proofs.Longest.{slice_get-push_cases}
use Rattle.siit_eamt.proofs.Places.{position-push, position_same}

test_same : (m n : ℕ) → eqb m n ≡ true → m ≡ n
test_same m n h = grind (arith, nat_tests, h)

same_test : (m n : ℕ) → m ≡ n → eqb m n ≡ true
same_test m n h = grind (arith, nat_tests, h)

-- two multiples of a number are the same where their quotients are
quotients_decide : (a b m : ℕ) → a % m ≡ 0 → b % m ≡ 0 → 0 < m → eqb (a / m) (b / m) ≡ eqb a b
quotients_decide a b m ha hb pos =
    elim (cases_Bool (eqb a b)) [
      | inl t ↦ same_test (a / m) (b / m) (ap (λ x. x / m) (test_same a b t)) ∙ sym t
      | inr t ↦ elim (cases_Bool (eqb (a / m) (b / m))) [
        | inl u ↦
            let quotients : m * (a / m) ≡ m * (b / m) = ap (λ x. m * x) (test_same (a / m) (b / m) u) in
            let same : a ≡ b = omega arith in
            u ∙ sym (same_test a b same)
        | inr u ↦ u ∙ sym t
      ]
    ]

pub clear4 : (e : Eam) → is_clean e ≡ true → e.p4.addr.0 % 2 ^ (32 - e.p4.len) ≡ 0
clear4 e h = grind (arith, nat_tests, h)

pub clear6 : (e : Eam) → is_clean e ≡ true → e.p6.addr.0 % 2 ^ (128 - e.p6.len) ≡ 0
clear6 e h = grind (arith, nat_tests, h)

and_comm : (a b : Bool) → (a && b) ≡ (b && a)
and_comm true true = refl
and_comm true false = refl
and_comm false true = refl
and_comm false false = refl

-- entries of one family, each of a length and an address of so many bits
module _ (w : ℕ) (len addr : Eam → ℕ) where
  abbrev HasBits : (l v : ℕ) → Eam → Bool
  HasBits l v e = eqb (len e) l && eqb (first_bits w (addr e) l) v

  abbrev HasPrefix : Eam → Eam → Bool
  HasPrefix e f = eqb (addr f) (addr e) && eqb (len f) (len e)

  own_bits : (e : Eam) (l v : ℕ) → (eqb (len e) l && eqb (first_bits w (addr e) (len e)) v) ≡ HasBits l v e
  own_bits e l v =
      elim (cases_Bool (eqb (len e) l)) [
        | inl t ↦ ap (λ n. eqb (len e) l && eqb (first_bits w (addr e) n) v) (test_same (len e) l t)
        | inr t ↦ ap (λ u. u && eqb (first_bits w (addr e) (len e)) v) t ∙ sym (ap (λ u. u && eqb (first_bits w (addr e) l) v) t)
      ]

  bits_decide : (e f : Eam) → addr e % 2 ^ (w - len e) ≡ 0 → addr f % 2 ^ (w - len f) ≡ 0
      → HasBits (len e) (first_bits w (addr e) (len e)) f ≡ HasPrefix e f
  bits_decide e f clean_e clean_f =
      elim (cases_Bool (eqb (len f) (len e))) [
        | inl t ↦
            let clear : addr f % 2 ^ (w - len e) ≡ 0 = subst (λ (n : ℕ). addr f % 2 ^ (w - n) ≡ 0) (test_same (len f) (len e) t) clean_f in
            ap (λ u. eqb (len f) (len e) && u) (quotients_decide (addr f) (addr e) (2 ^ (w - len e)) clear clean_e (pow_pos (w - len e)))
            ∙ and_comm (eqb (len f) (len e)) (eqb (addr f) (addr e))
        | inr t ↦
            ap (λ u. u && eqb (first_bits w (addr f) (len e)) (first_bits w (addr e) (len e))) t
            ∙ ap (λ u. u && eqb (addr f) (addr e)) (sym t)
            ∙ and_comm (eqb (len f) (len e)) (eqb (addr f) (addr e))
      ]

  module _ (before : List Eam) (entry : Eam) (nodes nodes' : List Node) (trie : IsTrieOf HasBits w before nodes)
      (clean_before : (place : ℕ) (e : Eam) → slice_get before place ≡ Some e → addr e % 2 ^ (w - len e) ≡ 0) (clean : addr entry % 2 ^ (w - len entry) ≡ 0) where
    -- what stands at the entry's prefix is the first place that has it
    pub first_is : place_under nodes (len entry) (first_bits w (addr entry) (len entry)) ≡ position (HasPrefix entry) before
    first_is =
        trie.places (len entry) (first_bits w (addr entry) (len entry))
        ∙ position_same (HasBits (len entry) (first_bits w (addr entry) (len entry))) (HasPrefix entry) before
        (λ place e here. bits_decide entry e clean (clean_before place e here))

    pub trie_of_push : IsTrie nodes' → length nodes' ≤ length nodes + len entry → len entry ≤ w
        → ((l v : ℕ) → place_under nodes' l v ≡ with_place (place_under nodes) (len entry) (first_bits w (addr entry) (len entry)) (length before) l v)
        → IsTrieOf HasBits w (before ++ entry ∷ []) nodes'
    trie_of_push shape growth in_range put = record {
      shape = shape;
      size = let size = trie.size in let more = length_push before entry in
          let product : w * (length before + 1) ≡ w * length before + w = omega arith in
          let longer : w * length (before ++ entry ∷ []) ≡ w * (length before + 1) = ap (λ n. w * n) more in
          omega arith;
      places = λ l v.
          put l v
          ∙ ap (λ o. option_or o (cond (eqb (len entry) l && eqb (first_bits w (addr entry) (len entry)) v) (Some (length before)) None)) (trie.places l v)
          ∙ ap (λ t. option_or (position (HasBits l v) before) (cond t (Some (length before)) None)) (own_bits entry l v)
          ∙ sym (position-push (HasBits l v) before entry);
    }

pub clean4_before : (before : List Eam) → AreClean before → (place : ℕ) (e : Eam) → slice_get before place ≡ Some e → e.p4.addr.0 % 2 ^ (32 - e.p4.len) ≡ 0
clean4_before before clean place e here = clear4 e (clean place e here)

pub clean6_before : (before : List Eam) → AreClean before → (place : ℕ) (e : Eam) → slice_get before place ≡ Some e → e.p6.addr.0 % 2 ^ (128 - e.p6.len) ≡ 0
clean6_before before clean place e here = clear6 e (clean place e here)

pub clean_push : (before : List Eam) (entry : Eam) → AreClean before → is_clean entry ≡ true → AreClean (before ++ entry ∷ [])
clean_push before entry clean here place e at =
    elim (slice_get-push_cases before entry place e at) [ inl old ↦ clean place e old | inr new ↦ ap is_clean (sym new.1) ∙ here ]

-- no entries, and tries in which no place stands
pub no_entries : (nodes4 nodes6 : List Node) → IsTrie nodes4 → IsTrie nodes6 → length nodes4 ≡ 1 → length nodes6 ≡ 1
    → ((l v : ℕ) → place_under nodes4 l v ≡ None) → ((l v : ℕ) → place_under nodes6 l v ≡ None) → AreTriesOf [] nodes4 nodes6
no_entries nodes4 nodes6 shape4 shape6 one4 one6 none4 none6 = record {
  four = record { shape = shape4; size = omega arith; places = none4 };
  six = record { shape = shape6; size = omega arith; places = none6 };
  clean = λ place e here. absurd cc;
}
