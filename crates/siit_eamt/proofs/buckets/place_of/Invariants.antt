use Rattle.std.proofs.Common.{◌-◌}
use Rattle.siit_eamt.specs.Intervals.{HasBegun}
use Rattle.siit_eamt.proofs.buckets.place_of.Given as goal

abbrev pub invariant-loop-next : goal.invariant-loop-next
invariant-loop-next l = HasBegun l.intervals (l.next - 1) l.address
