use Rattle.std.proofs.Common.{◌≡◌, map, drop}
use Rattle.siit_discovery.specs.Discovery.{is_there}
use Rattle.siit_discovery.specs.Seen.{prefix_seen}
use Rattle.siit_discovery.proofs.counting.is_there.Given as goal

abbrev pub invariant-loop-other : goal.invariant-loop-other
invariant-loop-other l = is_there (map prefix_seen (drop l.other-index l.found)) (prefix_seen l.prefix) ≡ is_there (map prefix_seen l.found) (prefix_seen l.prefix)
