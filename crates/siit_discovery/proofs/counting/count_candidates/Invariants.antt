use Rattle.std.proofs.Common.{◌≡◌, ◌≤◌, ◌+◌, length, drop, filter_map}
use Rattle.siit_discovery.specs.Discovery.{candidate_at, candidates, lengths}
use Rattle.siit_discovery.proofs.counting.count_candidates.Given as goal

abbrev pub invariant-loop-len : goal.invariant-loop-len
invariant-loop-len l =
    (l.count ≤ l.len-index) × (l.count + length (filter_map (candidate_at l.x.0) (drop l.len-index lengths)) ≡ length (candidates l.x.0))
