use Rattle.std.proofs.Common.{◌≡◌, ◌+◌, ◌≤◌, length, drop}
use Rattle.siit_addr.specs.Canonical.{zeros_ahead, longest_run, first_run}
use Rattle.siit_addr.proofs.write_groups.longest_zero_run.Given as goal

abbrev pub invariant-loop-at : goal.invariant-loop-at
invariant-loop-at l =
    (l.at ≤ length l.groups) × (l.zeros ≡ zeros_ahead (drop l.at l.groups)) × (l.longest ≡ longest_run (drop l.at l.groups))
    × (l.place ≡ l.at + first_run l.longest (drop l.at l.groups))
    × (l.at + l.zeros ≤ length l.groups) × (l.place + l.longest ≤ length l.groups)

abbrev pub decreases-loop-at : goal.decreases-loop-at
decreases-loop-at l = l.at
