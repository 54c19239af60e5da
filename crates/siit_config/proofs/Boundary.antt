-- Where a long key is cut.
use Rattle.std.proofs.Common.{◌≡◌, ℕ, zero, suc, ◌<◌, ◌≤◌, true, false, nat_lt, nat_le, ltb-true, ltb-false, leb-true, leb-false, le-leb, List, length, take, slice_index, refl, sym, subst, arith, inl, inr}
use Rattle.std.specs.Fmt.{is_char_start}
use Rattle.std.specs.Fmt.Cut.{floor_char_boundary}
use Rattle.std.specs.Str.{IsCharBoundary}
use Rattle.std.proofs.lemmas.Bool.{cases_Bool, lt-leb}
use Rattle.siit_config.specs.Keys.{cut_key}

starts : (b : ℕ) → (128 ≤ b → 192 ≤ b) → is_char_start b ≡ true
starts b h = elim (cases_Bool (nat_lt b 128)) [
  | inl low ↦ rw low refl
  | inr high ↦ rw (high, le-leb 192 b (h (ltb-false b 128 high))) refl
]

continues : (b : ℕ) → ¬ (128 ≤ b → 192 ≤ b) → is_char_start b ≡ false
continues b h = elim (cases_Bool (nat_lt b 128)) [
  | inl low ↦ absurd (h (λ above. absurd (omega (arith, ltb-true b 128 low))))
  | inr high ↦ elim (cases_Bool (nat_le 192 b)) [
    | inl top ↦ absurd (h (λ _. leb-true 192 b top))
    | inr middle ↦ rw (high, middle) refl
  ]
]

-- the last boundary is the one that the word finds
boundary_is : (bs : List ℕ) (i kept : ℕ) → i < length bs → kept ≤ i → IsCharBoundary bs kept → ((j : ℕ) → kept < j → j ≤ i → ¬ (IsCharBoundary bs j))
    → floor_char_boundary bs i ≡ kept
unfolding floor_char_boundary
boundary_is bs zero kept within below at last = omega arith
boundary_is bs (suc i) kept within below at last = elim (cases_Bool (nat_le kept i)) [
  | inl before ↦
      let under : kept ≤ i = leb-true kept i before in
      let inside : is_char_start (slice_index bs (suc i)) ≡ false = continues _ (λ h. last (suc i) (omega arith) (omega arith) (omega arith, λ _. h)) in
      rw inside (boundary_is bs i kept (omega arith) under at (λ j p q. last j p (omega arith)))
  | inr above ↦
      let same : kept ≡ suc i = omega (arith, leb-false kept i above) in
      let start : is_char_start (slice_index bs (suc i)) ≡ true = starts _ ((subst (IsCharBoundary bs) same at).1 within) in
      rw start (sym same)
]

pub cut_long : (name : List ℕ) (kept : ℕ) → 64 < length name → kept ≤ 64 → IsCharBoundary name kept → ((j : ℕ) → kept < j → j ≤ 64 → ¬ (IsCharBoundary name j))
    → take kept name ≡ cut_key name
cut_long name kept long below at last = rw (lt-leb (length name) 64 long, boundary_is name 64 kept long below at last) refl
