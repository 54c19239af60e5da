use Rattle.std.proofs.Common.{◌≡◌, length}
use Rattle.std.specs.List.{list_any}
use Rattle.siit_dns64.specs.Answers.{is_own_answer}
use Rattle.siit_dns64.proofs.aaaa.has_own_answer.Given as goal

abbrev pub invariant-records : goal.invariant-records
invariant-records l = list_any is_own_answer l.records ≡ list_any is_own_answer l.aaaa.records

abbrev pub decreases-records : goal.decreases-records
decreases-records l = length l.records
