use Rattle.siit_engine.proofs.Refused.{refused4}
use Rattle.siit_engine.proofs.Sent.{sent_to_6}
use Rattle.siit_engine.proofs.arrivals.from_ipv4.Goals as goal

pub returns-in-Ok-clause-outcome : goal.returns-in-Ok-clause-outcome
returns-in-Ok-clause-outcome g c = rw c.sent.ensures (sent_to_6 _ _ _ _ (rw c.bytes.ensures.value at c.in-Ok.ensures.accepted) c.depart6.ensures.sent)

pub returns-in-Err-clause-outcome : goal.returns-in-Err-clause-outcome
returns-in-Err-clause-outcome g c = rw (refused4 _ _ _ (rw c.bytes.ensures.value at c.in-Err.ensures.refused)) c.refuse4.ensures.outcome
