use Rattle.std.proofs.Common.{◌≡◌, ℕ, ◌+◌, ◌-◌, ◌≤◌}
use Rattle.siit_eamt.specs.Intervals.{LiesIn}
use Rattle.siit_eamt.proofs.Lying.{NeedsHalvings}
use Rattle.siit_eamt.proofs.intervals.Intervals.halve.Given as goal

abbrev pub decreases-halving : goal.decreases-halving
decreases-halving g l = l.high - l.low

abbrev pub invariant-halving : goal.invariant-halving
invariant-halving g l =
    record {
      lies : LiesIn l.self l.low l.high l.address;
      counted : l.fn.steps ≤ l.steps;
      left : (left : ℕ) × (l.steps + left ≡ l.fn.steps + 18) × NeedsHalvings (l.high - l.low) left;
    }
