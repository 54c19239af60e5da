use Rattle.std.proofs.Common.{◌≡◌, length, find}
use Rattle.siit_dns64.specs.Answers.{is_authority}
use Rattle.siit_dns64.proofs.aaaa.greatest_ttl.Given as goal

abbrev pub invariant-records : goal.invariant-records
invariant-records l = find is_authority l.records ≡ find is_authority l.aaaa.records

abbrev pub decreases-records : goal.decreases-records
decreases-records l = length l.records
