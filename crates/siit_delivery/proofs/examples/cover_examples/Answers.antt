use Rattle.std.proofs.Common.{ap, [], ◌∷◌, slice_index_or, refl, inl, inr, arith, None}
use Rattle.siit_fragments.specs.Covers.{HoldsByte, IsFragmentOf, IsPart}
use Rattle.siit_delivery.proofs.examples.cover_examples.Goals as goal
use Rattle.siit_delivery.specs.CoverExamples.{sixteen, eight, segment, first, second, changed, strayed, foreign, empty, whole, ports, checksum, IsFragmentOfAny, IsSliceBy}
use Rattle.siit_delivery.proofs.Joining.{joined, both, three, one, halves, slice_of_first, slice_of_second, part_first, of_one, whole_slice}
use Rattle.std.specs.List.{Any}
use Rattle.std.proofs.lemmas.Bool.{cases_lt}
use Rattle.siit_model.specs.Bytes.{flag_bit}

pub returns : goal.returns
returns c = record {
  joined = joined;
  some = (λ place below. absurd (omega (arith, below)), λ covers. omega (arith, covers.some));
  identified = (
    (
      both (IsFragmentOfAny sixteen) first foreign slice_of_first
          (record { shares = refl; identified = refl; slice = record { inside = omega arith; bytes = refl; more = refl } }),
      halves first foreign 8 refl refl refl,
      both (IsPart None) first foreign part_first (record { cut = inl (omega arith); payload = omega arith; leaves = tt }),
    ),
    λ covers. omega (arith, (covers.parts 0 first (omega arith)).identified, (covers.parts 1 first (omega arith)).identified),
  );
  shares = (
    (
      both (IsSliceBy sixteen 5) first strayed (slice_of_first.slice, refl)
          (record { inside = omega arith; bytes = refl; more = refl }, refl),
      halves first strayed 8 refl refl refl,
      both (IsPart None) first strayed part_first (record { cut = inl (omega arith); payload = omega arith; leaves = tt }),
    ),
    λ covers. omega (arith, ap (λ common. common.destination) (covers.parts 1 first (omega arith)).shares),
  );
  bytes = (
    (
      halves first changed 8 refl refl refl,
      both (IsPart None) first changed part_first (record { cut = inl (omega arith); payload = omega arith; leaves = tt }),
    ),
    λ covers. omega (arith, ap (λ bytes. slice_index_or bytes 7 0) (covers.parts 1 changed (omega arith)).slice.bytes),
  );
  more = (
    (λ place below. (0, first, omega arith, refl, (omega arith, omega arith)), one (IsPart None) first part_first),
    λ covers. omega (arith, ap flag_bit (covers.parts 0 first (omega arith)).slice.more),
  );
  every = (
    (one (IsFragmentOf sixteen 5) first slice_of_first, one (IsPart None) first part_first),
    λ covers. omega (arith, (of_one (HoldsByte 8) first (covers.every 8 (omega arith))).1),
  );
  twice = (
    (
      both (IsFragmentOf eight 5) whole whole whole_slice whole_slice,
      λ place below. (0, whole, omega arith, refl, (omega arith, omega arith)),
    ),
    λ covers. elim covers.form [
      | inl alone ↦ alone
      | inr parts ↦ elim (parts 0 whole (omega arith)).cut [
        | inl later ↦ omega (arith, later)
        | inr more ↦ omega (arith, ap flag_bit more)
      ]
    ],
  );
  payload = (
    (
      three (IsFragmentOf sixteen 5) first empty second slice_of_first
          (record { shares = refl; identified = refl; slice = record { inside = omega arith; bytes = refl; more = refl } }) slice_of_second,
      λ place below. elim (cases_lt place 8) as (λ _. Any (HoldsByte place) (first ∷ empty ∷ second ∷ [])) [
        | inl early ↦ (0, first, omega arith, refl, (omega arith, omega arith))
        | inr late ↦ (2, second, omega arith, refl, (omega arith, omega arith))
      ],
    ),
    λ covers. elim covers.form [
      | inl alone ↦ alone
      | inr parts ↦ omega (arith, (parts 1 empty (omega arith)).payload)
    ],
  );
  leaves = (
    (
      both (IsFragmentOf segment 5) ports checksum
          (record { shares = refl; identified = refl; slice = record { inside = omega arith; bytes = refl; more = refl } })
          (record { shares = refl; identified = refl; slice = record { inside = omega arith; bytes = refl; more = refl } }),
      halves ports checksum 16 refl refl refl,
    ),
    λ covers. elim covers.form [
      | inl alone ↦ alone
      | inr parts ↦ elim (parts 1 checksum (omega arith)).leaves [
        | inl front ↦ omega (arith, front)
        | inr apart ↦ elim apart [
          | inl before ↦ omega (arith, before)
          | inr behind ↦ omega (arith, behind)
        ]
      ]
    ],
  );
}
