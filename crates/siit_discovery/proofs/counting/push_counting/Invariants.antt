use Rattle.std.proofs.Common.{◌≡◌, map, drop, fold, filter, filter_map}
use Rattle.siit_discovery.specs.Discovery.{with_prefix, candidate_at, counting, counts, lengths, prefix_of}
use Rattle.siit_discovery.specs.Seen.{address_seen, prefix_seen}
use Rattle.siit_discovery.proofs.counting.push_counting.Given as goal

abbrev pub invariant-loop-len : goal.invariant-loop-len
invariant-loop-len l =
    fold with_prefix (map prefix_seen l.found.items) (map prefix_of (filter (counts l.alone (map address_seen l.addresses)) (filter_map (candidate_at l.x.0) (drop l.len-index lengths))))
    ≡ fold with_prefix (map prefix_seen l.fn.found.items) (map prefix_of (counting (map address_seen l.addresses) l.x.0))
