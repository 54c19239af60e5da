-- The arithmetic of a plan.
use Rattle.std.proofs.Common.{◌≡◌, ◌==◌, ◌+◌, ℕ, ◌-◌, ◌*◌, ◌/◌, ◌<◌, ◌≤◌, ◌∙◌, ap, sym, subst, arith, eq-eqb, ne_eqb, ◌⊎◌, ⊎_elim}
use Rattle.std.proofs.lemmas.Bool.{cases_lt}
use Rattle.siit_fragments.specs.Fronts.{IsPlaceOf}
use Rattle.siit_fragments.specs.Pieces.{blocks_of, piece_count}
use Rattle.siit_fragments.proofs.Pieces.{begins-within, is-counted}
use Rattle.siit_fragments.specs.declared.cut.CutPlan.{CutPlan}
use Rattle.siit_fragments.specs.declared.cut.Place.{Place}
use Rattle.siit_fragments.specs.Plans.{IsPlanFor}

pub record Facts (total : ℕ) (plan : CutPlan) (k : ℕ) : Type 0 where
  pub unit : plan.unit ≡ 8 * (plan.unit / 8)
  pub some : 0 < plan.unit / 8
  pub small : plan.unit ≤ 65535
  pub count : plan.count ≡ piece_count (plan.unit / 8) (total - plan.header)
  pub begins : 8 * (k * (plan.unit / 8)) < total - plan.header

same-blocks : (unit blocks : ℕ) → unit ≡ 8 * blocks → unit / 8 ≡ blocks
same-blocks unit blocks is = omega arith

pub facts : (total : ℕ) (plan : CutPlan) (k : ℕ) → IsPlanFor total plan → k < plan.count → Facts total plan k
facts total plan k planned below =
    let blocks : ℕ = blocks_of plan.header planned.mtu in
    let unit : plan.unit ≡ 8 * blocks = ap (λ p. p.unit) planned.is in
    let count : plan.count ≡ piece_count blocks (total - plan.header) = ap (λ p. p.count) planned.is in
    let room = planned.room in
    let most = planned.most in
    let some : 0 < blocks = omega arith in
    let same : plan.unit / 8 ≡ blocks = same-blocks plan.unit blocks unit in
    record {
      unit = unit ∙ ap (λ n. 8 * n) (sym same);
      some = subst (λ n. 0 < n) (sym same) some;
      small = omega arith;
      count = count ∙ ap (λ n. piece_count n (total - plan.header)) (sym same);
      begins = subst (λ n. 8 * (k * n) < total - plan.header) (sym same) (begins-within blocks (total - plan.header) k some (subst (λ n. k < n) count below));
    }

-- the last piece is the one that ends with the packet
pub last-is : (total : ℕ) (plan : CutPlan) (k : ℕ) (place : Place) → IsPlanFor total plan → k < plan.count → IsPlaceOf total plan k place → place.last ≡ (k + 1 == plan.count)
last-is total plan k place planned below placed =
    let f = facts total plan k planned below in
    let blocks : ℕ = plan.unit / 8 in
    let len : ℕ = total - plan.header in
    let some = f.some in
    let begins = placed.begins in
    let from : place.from ≡ 8 * (k * blocks) = placed.from ∙ ap (λ n. 8 * n) placed.blocks in
    let unit = f.unit in
    let end = placed.end in
    ⊎_elim
    (λ (inner : k + 1 < plan.count).
    let next = begins-within blocks len (k + 1) some (subst (λ n. k + 1 < n) f.count inner) in
    placed.last ∙ ne_eqb place.end total (λ (e : place.end ≡ total). omega arith) ∙ sym (ne_eqb (k + 1) plan.count (λ (e : k + 1 ≡ plan.count). omega arith)))
    (λ (outer : plan.count ≤ k + 1).
    let past : len ≤ 8 * ((k + 1) * blocks) =
    ⊎_elim (λ (more : 8 * ((k + 1) * blocks) < len). let counted = is-counted blocks len (k + 1) some more in absurd (omega (arith, f.count))) (λ (past : len ≤ 8 * ((k + 1) * blocks)). past)
    (cases_lt (8 * ((k + 1) * blocks)) len) in
    placed.last ∙ eq-eqb place.end total (omega arith) ∙ sym (eq-eqb (k + 1) plan.count (omega arith)))
    (cases_lt (k + 1) plan.count)

-- a plan with this unit
cut_by : (total header unit : ℕ) → CutPlan
cut_by total header unit = record { header = header; unit = unit; count = (total - header + (unit - 1)) / unit }

pub planned-by : (total header mtu unit again : ℕ) → unit ≡ 8 * blocks_of header mtu → again ≡ header
    → (header ≡ 20) ⊎ (header ≡ 48) → header + 8 ≤ mtu → mtu < total → mtu ≤ 65535
    → IsPlanFor total (record { header = header; unit = unit; count = (total - again + (unit - 1)) / unit })
unfolding cut_by
planned-by total header mtu unit again is_unit is_again one room long most = record {
  mtu = mtu;
  header = one;
  room = room;
  long = long;
  most = most;
  is =
      ap (λ n. let v : CutPlan = record { header = header; unit = unit; count = (total - n + (unit - 1)) / unit } in v) is_again
      ∙ ap (λ u. cut_by total header u) is_unit;
}
