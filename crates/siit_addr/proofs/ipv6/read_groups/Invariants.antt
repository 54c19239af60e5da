use Rattle.std.proofs.Common.{◌≡◌, length}
use Rattle.siit_addr.specs.Texts.{groups_of, groups_of_parts, parts_at, colon}
use Rattle.siit_addr.proofs.GroupLists.{before}
use Rattle.siit_addr.proofs.ipv6.read_groups.Given as goal

-- the groups that are read and those of the rest are those of the text
abbrev pub invariant-loop-part : goal.invariant-loop-part
invariant-loop-part l =
    groups_of l.at_end l.text ≡ before l.groups.items (groups_of_parts l.at_end (parts_at colon l.rest))

abbrev pub decreases-loop-part : goal.decreases-loop-part
decreases-loop-part l = length l.rest
