use Rattle.siit_eamt.proofs.Ways.{IsOnWay}
use Rattle.siit_eamt.proofs.trie.Trie.longest.Given as goal

abbrev pub invariant-loop-behind : goal.invariant-loop-behind
invariant-loop-behind l = IsOnWay l.self.nodes.items l.bits.width l.bits.address l.behind l.node l.longest
