use Rattle.std.proofs.Common.{◌≤◌, length, drop}
use Rattle.siit_dns.proofs.Runs.{AreRead}
use Rattle.siit_dns.proofs.name.run_end.Given as goal

abbrev pub invariant-loop-rest : goal.invariant-loop-rest
invariant-loop-rest l = (l.place ≤ length l.bytes) × AreRead (drop l.place l.bytes) l.rest

abbrev pub decreases-loop-rest : goal.decreases-loop-rest
decreases-loop-rest l = length l.rest
