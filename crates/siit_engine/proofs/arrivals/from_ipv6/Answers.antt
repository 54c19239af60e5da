use Rattle.siit_engine.proofs.Refused.{refused6}
use Rattle.siit_engine.proofs.arrivals.from_ipv6.Goals as goal

pub returns-in-Err-clause-outcome : goal.returns-in-Err-clause-outcome
returns-in-Err-clause-outcome g c = rw (refused6 _ _ _ _ (rw c.bytes.ensures.value at c.in-Err.ensures.refused)) c.refuse6.ensures.outcome
