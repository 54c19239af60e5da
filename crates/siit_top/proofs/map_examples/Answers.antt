use Rattle.std.specs.Fmt.{digits}
use Rattle.std.proofs.Common.{refl}
use Rattle.siit_top.proofs.map_examples.Goals as goal

pub returns : goal.returns
unfolding digits
returns c = record { relayed = refl; at_customer = refl }
