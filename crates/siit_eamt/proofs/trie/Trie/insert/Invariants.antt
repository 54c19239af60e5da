use Rattle.std.proofs.Common.{◌≡◌, ◌+◌, ◌≤◌, ℕ, Some, length}
use Rattle.siit_eamt.specs.Trie.{IsTrie, place_under, reach, child_at, first_bits}
use Rattle.siit_eamt.proofs.trie.Trie.insert.Given as goal

abbrev pub invariant-loop-behind : goal.invariant-loop-behind
invariant-loop-behind l =
    record {
      shape : IsTrie l.self.nodes.items;
      growth : length l.self.nodes.items ≤ length l.fn.self.nodes.items + l.behind;
      same : (len value : ℕ) → place_under l.self.nodes.items len value ≡ place_under l.fn.self.nodes.items len value;
      reached : reach (child_at l.self.nodes.items) l.behind (first_bits l.bits.width l.bits.address l.behind) ≡ Some l.at;
    }
