use Rattle.siit_pair.proofs.QuotesAcross.{quotes_across}
use Rattle.siit_pair.proofs.laws.quotes_come_across.Goals as goal

pub returns : goal.returns
returns c = quotes_across c.bodies_come_back.ensures
