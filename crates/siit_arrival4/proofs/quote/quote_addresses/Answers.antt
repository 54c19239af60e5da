use Rattle.siit_model.specs.Ipv4.{ipv4_fields}
use Rattle.siit_arrival4.proofs.Joined.{in_quoted}
use Rattle.siit_arrival4.proofs.quote.quote_addresses.Goals as goal

pub returns-in-Err-clause-refused : goal.returns-in-Err-clause-refused
returns-in-Err-clause-refused g c =
    in_quoted c.args.settings.now (ipv4_fields c.args.header.now) c.payload.result.now c.quoted_part.result.now c.in-Err.rule c.payload.ensures
    c.quoted_part.ensures c.requires.error c.in-Err.ensures.refused
