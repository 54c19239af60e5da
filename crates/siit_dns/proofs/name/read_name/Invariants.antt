use Rattle.std.proofs.Common.{suc, Some, Option, None, ℕ}
use Rattle.siit_dns.proofs.NamesRead.{IsReadOn}
use Rattle.siit_dns.proofs.name.read_name.Given as goal

abbrev pub invariant-runs : goal.invariant-runs
invariant-runs l = IsReadOn l.bytes l.place l.limit l.name.items l.target

-- a target below the limit, and none at last
abbrev pub left_to_read : Option ℕ → ℕ → ℕ
left_to_read None limit = 0
left_to_read (Some target) limit = suc limit

abbrev pub decreases-runs : goal.decreases-runs
decreases-runs l = left_to_read l.target l.limit
