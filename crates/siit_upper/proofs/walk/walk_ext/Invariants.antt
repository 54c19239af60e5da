use Rattle.std.proofs.Common.{◌≡◌, ◌-◌, ◌≤◌, suc, drop, length}
use Rattle.siit_model.specs.Extensions.{walk_from, walk_of}
use Rattle.siit_upper.proofs.walk.walk_ext.Given as goal

-- The walk from here on is the whole walk.
abbrev pub invariant-headers : goal.invariant-headers
invariant-headers l =
    (l.at ≤ length l.payload)
    × (walk_of l.fn.first l.payload ≡ walk_from (suc (length (drop l.at l.payload))) l.at l.next l.segments (drop l.at l.payload))

abbrev pub decreases-headers : goal.decreases-headers
decreases-headers l = length l.payload - l.at
