use Rattle.siit_quoted.proofs.ComesBack.{whole_comes_back}
use Rattle.siit_quoted.proofs.laws.whole_quote_comes_back.Goals as goal

pub returns : goal.returns
returns c = whole_comes_back
