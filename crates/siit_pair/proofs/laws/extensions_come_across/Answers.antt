use Rattle.siit_pair.proofs.QuotesAcross.{extensions_across}
use Rattle.siit_pair.proofs.laws.extensions_come_across.Goals as goal

pub returns : goal.returns
returns c = extensions_across c.extensions_come_back.ensures
