use Rattle.std.proofs.Common.{subst}
use Rattle.siit_model.specs.Ipv4.{ipv4_fields}
use Rattle.siit_arrival4.specs.Arrived.{HasMoved4, HasBare4}
use Rattle.siit_arrival4.specs.Kinds.{HasKind4}
use Rattle.siit_arrival4.proofs.Joined.{no_quote}
use Rattle.siit_arrival4.proofs.arrival.new_upper.Goals as goal

pub returns-in-Moved-clause-accepted : goal.returns-in-Moved-clause-accepted
returns-in-Moved-clause-accepted g c =
    let packet = ipv4_fields c.args.header.now in
    let moved : HasMoved4 packet = subst (λ kind. HasKind4 packet kind) c.in-Moved.is c.requires.kind in
    no_quote c.args.settings.now packet moved.no_error

pub returns-in-Bare-clause-accepted : goal.returns-in-Bare-clause-accepted
returns-in-Bare-clause-accepted g c =
    let packet = ipv4_fields c.args.header.now in
    let bare : HasBare4 packet = subst (λ kind. HasKind4 packet kind) c.in-Bare.is c.requires.kind in
    no_quote c.args.settings.now packet bare.no_error
