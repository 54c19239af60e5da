use Rattle.std.proofs.Common.{◌≡◌, map, drop}
use Rattle.siit_discovery.specs.Discovery.{has_partner}
use Rattle.siit_discovery.specs.Seen.{address_seen, candidate_seen}
use Rattle.siit_discovery.proofs.counting.has_partner.Given as goal

abbrev pub invariant-loop-x : goal.invariant-loop-x
invariant-loop-x l =
    has_partner (map address_seen (drop l.x-index l.addresses)) (candidate_seen l.c) ≡ has_partner (map address_seen l.addresses) (candidate_seen l.c)
