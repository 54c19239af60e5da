use Rattle.siit_quoted.proofs.ComesBack.{fragment_comes_back}
use Rattle.siit_quoted.proofs.laws.fragment_quote_comes_back.Goals as goal

pub returns : goal.returns
returns c = fragment_comes_back
