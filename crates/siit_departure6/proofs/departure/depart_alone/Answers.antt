use Rattle.std.proofs.Common.{subst}
use Rattle.siit_model.specs.Ipv4.{ipv4_fields}
use Rattle.siit_arrival4.specs.Arrived.{HasErrorPacket4, HasUpper4}
use Rattle.siit_arrival4.specs.declared.arrived.Upper4.{Upper4}
use Rattle.siit_departure6.proofs.Sent.{uncut}
use Rattle.siit_departure6.proofs.departure.depart_alone.Goals as goal

pub returns-in-Error-clause-sent : goal.returns-in-Error-clause-sent
returns-in-Error-clause-sent c =
    let packet = ipv4_fields c.args.buf.now.bytes in
    let upper : HasErrorPacket4 c.args.settings.now packet c.in-Error.error =
    subst (λ (u : Upper4). HasUpper4 c.args.settings.now packet u) c.in-Error.is c.requires.arrived.upper in
    (uncut c.args.settings.now packet upper.is_error, c.put_error.ensures.bytes)
