use Rattle.std.proofs.Common.{◌≡◌, ℕ, ◌+◌, ◌-◌, ◌/◌, ◌<◌, ◌≤◌, sym, subst, arith}
use Rattle.siit_eamt.proofs.Lying.{NeedsHalvings, lies_from, lies_before, needs_one_less}
use Rattle.siit_eamt.proofs.intervals.Intervals.halve.Goals as goal

pub halving-init : goal.halving-init
halving-init g c = record {
  lies = c.requires.lies;
  counted = omega arith;
  left = (18, omega arith, record { enough = let within = c.requires.lies.within in let few = c.requires.few in omega arith });
}

pub halving-preserved-then-read-address : goal.halving-preserved-then-read-address
halving-preserved-then-read-address g c =
    let low = c.halving.low in
    let high = c.halving.high in
    let left = c.halving.invariant.left in
    let less = needs_one_less (high - low) left.0 (omega arith) left.2 in
    let size : high - low - (high - low) / 2 ≡ high - (low + (high - low) / 2) = omega arith in
    record {
      lies = lies_from c.args.self.now low high c.args.address c.halving.invariant.lies (low + (high - low) / 2) c.read.result c.read.ensures.interval (omega arith) c.if-read-address.true;
      counted = let counted = c.halving.invariant.counted in let step = c.read.ensures.step in omega arith;
      left = (less.0, let taken = left.1 in let one = less.1 in let step = c.read.ensures.step in omega arith, subst (λ (n : ℕ). NeedsHalvings n less.0) size less.2);
    }

pub halving-preserved : goal.halving-preserved
halving-preserved g c =
    let low = c.halving.low in
    let high = c.halving.high in
    let left = c.halving.invariant.left in
    let less = needs_one_less (high - low) left.0 (omega arith) left.2 in
    let size : (high - low) / 2 ≡ low + (high - low) / 2 - low = omega arith in
    record {
      lies = lies_before c.args.self.now low high c.args.address c.halving.invariant.lies (low + (high - low) / 2) c.read.result c.read.ensures.interval (omega arith) c.if-read-address.false;
      counted = let counted = c.halving.invariant.counted in let step = c.read.ensures.step in omega arith;
      left = (less.0, let taken = left.1 in let one = less.1 in let step = c.read.ensures.step in omega arith, subst (λ (n : ℕ). NeedsHalvings n less.0) size less.3);
    }
