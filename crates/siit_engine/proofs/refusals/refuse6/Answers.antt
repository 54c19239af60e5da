use Rattle.siit_engine.proofs.Refused.{ends-within}
use Rattle.siit_engine.proofs.refusals.refuse6.Goals as goal

pub answer6-answered-requires-clause-within : goal.answer6-answered-requires-clause-within
answer6-answered-requires-clause-within c = ends-within _ _ (rw c.in-Some.is at c.requires.walked)
