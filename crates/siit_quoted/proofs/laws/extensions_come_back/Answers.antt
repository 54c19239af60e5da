use Rattle.siit_quoted.proofs.Returns.{extensions-back}
use Rattle.siit_quoted.proofs.laws.extensions_come_back.Goals as goal

pub returns : goal.returns
returns c = extensions-back
