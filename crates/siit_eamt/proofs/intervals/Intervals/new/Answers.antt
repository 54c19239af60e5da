use Rattle.std.proofs.Common.{ℕ, List, sym, subst}
use Rattle.siit_eamt.specs.declared.interval.Interval.{Interval}
use Rattle.siit_eamt.specs.Intervals.{HasBegun}
use Rattle.siit_eamt.proofs.intervals.Intervals.new.Goals as goal

pub of-requires-clause-all : goal.of-requires-clause-all
of-requires-clause-all c =
    subst (λ (xs : List Interval). (address : ℕ) → HasBegun xs 0 address) (sym c.deref.ensures.value) c.requires.all
