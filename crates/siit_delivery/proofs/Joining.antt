-- Fragments that join, and parts of joining that don't hold.
use Rattle.std.proofs.Common.{◌≡◌, ℕ, ◌+◌, ◌*◌, ◌<◌, [], ◌∷◌, length, refl, inl, inr, arith, None}
use Rattle.std.specs.List.{All, Any}
use Rattle.std.proofs.lemmas.Bool.{cases_lt}
use Rattle.std.proofs.lemmas.List.Elements.{All-cons, All-nil}
use Rattle.siit_model.specs.Fragments.{Fragment}
use Rattle.siit_fragments.specs.Covers.{Covers, HoldsByte, IsFragmentOf, IsPart}
use Rattle.siit_delivery.specs.CoverExamples.{HasEvery, sixteen, eight, first, second, whole}

-- one of two, and one of three
pub both : (P : Fragment → Type 0) (f g : Fragment) → P f → P g → All P (f ∷ g ∷ [])
both P f g p q = All-cons P f (g ∷ []) p (All-cons P g [] q (All-nil P))

pub three : (P : Fragment → Type 0) (f g h : Fragment) → P f → P g → P h → All P (f ∷ g ∷ h ∷ [])
three P f g h p q r = All-cons P f (g ∷ h ∷ []) p (both P g h q r)

pub one : (P : Fragment → Type 0) (f : Fragment) → P f → All P (f ∷ [])
one P f p = All-cons P f [] p (All-nil P)

-- every byte below n is in the first, and the others are in the second
pub halves : (f g : Fragment) (n : ℕ) → f.offset ≡ 0 → length f.bytes ≡ n → 8 * g.offset ≡ n → (place : ℕ)
    → place < n + length g.bytes → Any (HoldsByte place) (f ∷ g ∷ [])
halves f g n start long next place below =
    elim (cases_lt place n) as (λ _. Any (HoldsByte place) (f ∷ g ∷ [])) [
      | inl early ↦ (0, f, omega arith, refl, (omega arith, omega arith))
      | inr late ↦ (1, g, omega arith, refl, (omega arith, omega arith))
    ]

pub slice_of_first : IsFragmentOf sixteen 5 first
slice_of_first = record {
  shares = refl;
  identified = refl;
  slice = record { inside = omega arith; bytes = refl; more = refl };
}

pub slice_of_second : IsFragmentOf sixteen 5 second
slice_of_second = record {
  shares = refl;
  identified = refl;
  slice = record { inside = omega arith; bytes = refl; more = refl };
}

pub part_first : IsPart None first
part_first = record { cut = inr refl; payload = omega arith; leaves = tt }

pub part_second : IsPart None second
part_second = record { cut = inl (omega arith); payload = omega arith; leaves = tt }

pub some_first : HasEvery sixteen (first ∷ second ∷ [])
some_first = halves first second 8 refl refl refl

pub joined : Covers sixteen (second ∷ first ∷ second ∷ [])
joined = record {
  id = 5;
  some = omega arith;
  parts = three (IsFragmentOf sixteen 5) second first second slice_of_second slice_of_first slice_of_second;
  every = λ place below. elim (cases_lt place 8) as (λ _. Any (HoldsByte place) (second ∷ first ∷ second ∷ [])) [
    | inl early ↦ (1, first, omega arith, refl, (omega arith, omega arith))
    | inr late ↦ (0, second, omega arith, refl, (omega arith, omega arith))
  ];
  form = inr (three (IsPart None) second first second part_second part_first part_second);
}

pub of_one : (P : Fragment → Type 0) (f : Fragment) → Any P (f ∷ []) → P f
of_one P f (k, x, below, is, p) =
    let first_place : k ≡ 0 = omega arith in
    let same : f ≡ x = rw first_place at is in
    rw same p

pub whole_slice : IsFragmentOf eight 5 whole
whole_slice = record {
  shares = refl;
  identified = refl;
  slice = record { inside = omega arith; bytes = refl; more = refl };
}
