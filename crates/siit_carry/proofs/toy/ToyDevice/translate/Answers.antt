use Rattle.std.proofs.Common.{◌≡◌, ◌<◌, List, ℕ, Some, ap, sym, subst, ◌∙◌, arith}
use Rattle.std.specs.Prelude.{slice_get}
use Rattle.siit_chain.specs.Verdicts.{IsCutInto}
use Rattle.siit_carry.specs.Toys.{pieces4, pieces6, whole4, whole6}
use Rattle.siit_carry.proofs.ToyCuts.{cut4, cut6, first_above, first_is}
use Rattle.siit_carry.proofs.toy.ToyDevice.translate.Goals as goal

pub returns-then-life-gt96 : goal.returns-then-life-gt96
returns-then-life-gt96 c =
    let here : slice_get c.args.buf.now.bytes 0 ≡ Some c.in-Some.life = let a = c.in-Some.ensures.value in let b = c.in-Some.life-is in let d = c.bytes.ensures.value in cc in
    let held : c.load.new.self.bytes ≡ whole6 = ap (λ buf. buf.bytes) c.load.ensures in
    record {
      outcome = record {
        packets = pieces6;
        is = first_above c.args.buf.now.bytes c.in-Some.life here (omega (arith, c.if-life-gt96.true));
        cut = subst (λ (bytes : List ℕ). IsCutInto c.plan.result bytes pieces6) (sym held) (cut6 c.plan.result c.plan.ensures.value c.plan.ensures.planned);
      };
    }

pub returns-then-life-eq96 : goal.returns-then-life-eq96
returns-then-life-eq96 c =
    let here : slice_get c.args.buf.now.bytes 0 ≡ Some c.in-Some.life = let a = c.in-Some.ensures.value in let b = c.in-Some.life-is in let d = c.bytes.ensures.value in cc in
    let held : c.load-then-life-eq96.new.self.bytes ≡ whole4 = ap (λ buf. buf.bytes) c.load-then-life-eq96.ensures in
    let plan = c.plan-then-life-eq96 in
    record {
      outcome = record {
        packets = pieces4;
        is = first_is c.args.buf.now.bytes c.in-Some.life here (omega (arith, c.if-life-eq96.true));
        cut = subst (λ (bytes : List ℕ). IsCutInto plan.result bytes pieces4) (sym held) (cut4 plan.result plan.ensures.value plan.ensures.planned);
      };
    }
