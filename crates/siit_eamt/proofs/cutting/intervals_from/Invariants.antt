use Rattle.std.proofs.Common.{◌≡◌, map, take}
use Rattle.siit_eamt.specs.Cutting.{interval_from}
use Rattle.siit_eamt.proofs.cutting.intervals_from.Given as goal

abbrev pub invariant-loop-first : goal.invariant-loop-first
invariant-loop-first l = l.intervals.items ≡ map (interval_from l.trie.nodes.items l.width) (take l.first-index l.starts)
