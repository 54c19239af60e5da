-- How the toy cuts its packets.
use Rattle.std.proofs.Common.{◌≡◌, ℕ, zero, suc, ◌<◌, List, [], ◌∷◌, true, false, Some, refl, ap, sym, subst, arith, ◌==◌}
use Rattle.std.specs.Prelude.{nat_lt, slice_get}
use Rattle.siit_model.specs.Fragments.{fragment_packet6, packet4}
use Rattle.siit_model.specs.Ipv4.{ipv4_bytes}
use Rattle.siit_model.specs.Ipv6.{ipv6_bytes}
use Rattle.siit_fragments.specs.Pieces.{piece_of}
use Rattle.siit_fragments.specs.Plans.{IsPlanFor, plan_of}
use Rattle.siit_fragments.specs.declared.cut.CutPlan.{CutPlan}
use Rattle.std.proofs.lemmas.Bool.Decides.{nat_tests}
use Rattle.siit_chain.specs.Outcome.{pieces}
use Rattle.siit_chain.specs.Verdicts.{IsCutInto}
use Rattle.siit_carry.specs.Toys.{burst, by_life, pieces4, pieces6, toy_outcome, whole4, whole6}

piece6 : (k : ℕ) (piece : List ℕ) → k < 2 → piece ≡ ipv6_bytes (fragment_packet6 (piece_of 2 burst k)) → slice_get pieces6 k ≡ Some piece
piece6 zero piece less e = ap Some (sym e)
piece6 (suc zero) piece less e = ap Some (sym e)
piece6 (suc (suc k)) piece less e = absurd (omega (arith, less))

piece4 : (k : ℕ) (piece : List ℕ) → k < 2 → piece ≡ ipv4_bytes (packet4 0 (piece_of 2 burst k)) → slice_get pieces4 k ≡ Some piece
piece4 zero piece less e = ap Some (sym e)
piece4 (suc zero) piece less e = ap Some (sym e)
piece4 (suc (suc k)) piece less e = absurd (omega (arith, less))

-- Both packets are cut into their pieces.
pub cut6 : (plan : CutPlan) → plan ≡ plan_of 72 48 64 → IsPlanFor 72 plan → IsCutInto plan whole6 pieces6
cut6 plan is planned = subst (λ (p : CutPlan). IsPlanFor 72 p → IsCutInto p whole6 pieces6) (sym is) (λ h. record {
  planned = h;
  total = λ e. omega (arith, e);
  fits = omega arith;
  as_many = refl;
  each = λ k piece less is. piece6 k piece less (is.six burst refl (omega arith) refl);
}) planned

pub cut4 : (plan : CutPlan) → plan ≡ plan_of 44 20 36 → IsPlanFor 44 plan → IsCutInto plan whole4 pieces4
cut4 plan is planned = subst (λ (p : CutPlan). IsPlanFor 44 p → IsCutInto p whole4 pieces4) (sym is) (λ h. record {
  planned = h;
  total = λ e. omega arith;
  fits = omega arith;
  as_many = refl;
  each = λ k piece less is. piece4 k piece less (is.four 0 burst refl (omega arith) (omega arith) refl);
}) planned

-- what the toy makes of a packet that it cuts
pub first_above : (packet : List ℕ) (life : ℕ) → slice_get packet 0 ≡ Some life → 96 < life → toy_outcome packet ≡ pieces false pieces6
first_above [] life h more = cc
first_above (first ∷ rest) life h more =
    let e : first ≡ life = cc in
    let test : nat_lt 96 first ≡ true = grind (arith, nat_tests) in
    ap (λ b. by_life b (first == 96) (nat_lt 1 first) (first == 1) first rest) test

pub first_is : (packet : List ℕ) (life : ℕ) → slice_get packet 0 ≡ Some life → life ≡ 96 → toy_outcome packet ≡ pieces false pieces4
first_is [] life h is = cc
first_is (first ∷ rest) life h is =
    let e : first ≡ 96 = cc in
    ap (λ x. by_life (nat_lt 96 x) (x == 96) (nat_lt 1 x) (x == 1) x rest) e
