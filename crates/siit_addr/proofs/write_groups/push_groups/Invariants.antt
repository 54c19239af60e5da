use Rattle.std.proofs.Common.{◌≡◌, ◌+◌, ◌*◌, ◌≤◌, ◌++◌, drop}
use Rattle.arrayvec.specs.ArrayString.{array_string_len}
use Rattle.siit_addr.specs.Canonical.{behind_colons, joined}
use Rattle.siit_addr.proofs.write_groups.push_groups.Given as goal

-- what is written and what is left are all groups
abbrev pub invariant-loop-group : goal.invariant-loop-group
invariant-loop-group g l =
    (l.text.bytes ++ behind_colons (drop l.group-index l.rest) ≡ l.fn.text.bytes ++ joined l.groups)
    × (array_string_len l.text ≤ array_string_len l.fn.text + 4 + 5 * l.group-index)
