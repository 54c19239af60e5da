use Rattle.std.proofs.Common.{◌≡◌, ◌++◌, map, length}
use Rattle.siit_discovery.specs.Discovery.{addresses_of}
use Rattle.siit_discovery.specs.Seen.{address_seen}
use Rattle.siit_discovery.proofs.found.addresses_of.Given as goal

abbrev pub invariant-records : goal.invariant-records
invariant-records l = map address_seen l.addresses.items ++ addresses_of l.records ≡ addresses_of l.message.records

abbrev pub decreases-records : goal.decreases-records
decreases-records l = length l.records
