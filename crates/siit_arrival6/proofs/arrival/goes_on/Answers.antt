use Rattle.std.proofs.Common.{arith, refl}
use Rattle.siit_arrival6.proofs.Arriving.{as_found}
use Rattle.siit_arrival6.proofs.arrival.goes_on.Goals as goal

pub returns-clause-arrived : goal.returns-clause-arrived
returns-clause-arrived g c =
    let arrived = c.arrived.result in
    let found = c.args.found in
    let message = c.in-Ok.message in
    as_found c.args.settings.now c.args.header.now arrived c.args.walk found.src found.dst message.error c.arrived.ensures.walk c.arrived.ensures.way (record {
      lengths = c.requires.lengths;
      walk = c.requires.walk;
      within = c.requires.within;
      offset = c.requires.offset;
      len = c.arrived.ensures.len;
      alive = c.requires.alive;
      source_is = c.arrived.ensures.source;
      destination_is = c.arrived.ensures.destination;
      way = record {
        not_turned = c.requires.turn;
        source = c.requires.source;
        sourceless = c.requires.sourceless;
        destination_ok = c.requires.destination_ok;
        destination_is = c.requires.destination;
        message = c.in-Ok.ensures.message;
        sent = omega (arith, c.in-Ok.ensures.form, c.in_default.ensures.fits refl);
        fits = λ plain. omega (arith, c.in-Ok.ensures.plain plain, c.in_default.ensures.fits refl);
      };
    })
