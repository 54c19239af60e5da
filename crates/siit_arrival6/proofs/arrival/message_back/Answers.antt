use Rattle.std.proofs.Common.{subst}
use Rattle.siit_arrival6.specs.Kinds.{HasKind6}
use Rattle.siit_arrival6.specs.Parts.{found_in}
use Rattle.siit_arrival6.proofs.Joined.{no_quote}
use Rattle.siit_arrival6.proofs.arrival.message_back.Goals as goal

pub returns-in-None-clause-accepted : goal.returns-in-None-clause-accepted
returns-in-None-clause-accepted g c =
    let found = found_in c.args.header.now c.args.walk in
    no_quote c.args.settings.now found (subst (HasKind6 found) c.in-None.is c.requires.kind)
