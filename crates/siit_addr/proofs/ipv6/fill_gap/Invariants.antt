use Rattle.std.proofs.Common.{◌≡◌, ◌+◌, ◌-◌, ◌≤◌, ◌++◌, length, replicate}
use Rattle.siit_addr.proofs.ipv6.fill_gap.Given as goal

-- the groups on the left and zero groups, at most so many that the right side has room
abbrev pub invariant-loop-groups : goal.invariant-loop-groups
invariant-loop-groups l =
    (l.groups.items ≡ l.fn.groups.items ++ replicate (length l.groups.items - length l.fn.groups.items) 0)
    × (length l.fn.groups.items ≤ length l.groups.items) × (length l.groups.items + length l.right ≤ 8)

abbrev pub decreases-loop-groups : goal.decreases-loop-groups
decreases-loop-groups l = 8 - length l.groups.items
