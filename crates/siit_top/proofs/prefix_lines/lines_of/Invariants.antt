use Rattle.std.proofs.Common.{◌≡◌, ◌++◌, map, drop, flat_map}
use Rattle.std.specs.String.{string_bytes}
use Rattle.siit_discovery.specs.Seen.{prefix_seen}
use Rattle.siit_top.specs.DiscoverRun.{prefix_line, prefix_lines}
use Rattle.siit_top.proofs.prefix_lines.lines_of.Given as goal

abbrev pub invariant-loop-prefix : goal.invariant-loop-prefix
invariant-loop-prefix l =
    string_bytes l.lines ++ flat_map prefix_line (map prefix_seen (drop l.prefix-index l.prefixes)) ≡ prefix_lines (map prefix_seen l.prefixes)
