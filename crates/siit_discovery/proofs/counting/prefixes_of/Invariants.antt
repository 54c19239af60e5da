use Rattle.std.proofs.Common.{◌≡◌, map, drop, fold, flat_map}
use Rattle.siit_discovery.specs.Discovery.{with_prefix, counting, prefix_of, prefixes_of}
use Rattle.siit_discovery.specs.Seen.{address_seen, prefix_seen}
use Rattle.siit_discovery.proofs.counting.prefixes_of.Given as goal

abbrev pub invariant-loop-x : goal.invariant-loop-x
invariant-loop-x l =
    fold with_prefix (map prefix_seen l.found.items) (map prefix_of (flat_map (counting (map address_seen l.addresses)) (map address_seen (drop l.x-index l.addresses))))
    ≡ prefixes_of (map address_seen l.addresses)
