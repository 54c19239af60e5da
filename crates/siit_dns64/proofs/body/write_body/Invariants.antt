use Rattle.std.proofs.Common.{length}
use Rattle.siit_dns64.specs.Body.{ComesTo, IsCounted}
use Rattle.siit_dns64.proofs.body.write_body.Given as goal

abbrev pub invariant-records : goal.invariant-records
invariant-records l = ComesTo l.body l.greatest l.prefixes l.records l.a.records × IsCounted l.body

abbrev pub decreases-records : goal.decreases-records
decreases-records l = length l.records
