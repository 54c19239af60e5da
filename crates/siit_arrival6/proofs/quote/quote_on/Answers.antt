use Rattle.siit_arrival6.specs.Parts.{found_in}
use Rattle.siit_arrival6.proofs.Joined.{in_quoted}
use Rattle.siit_arrival6.proofs.quote.quote_on.Goals as goal

pub returns-in-Err-clause-refused : goal.returns-in-Err-clause-refused
returns-in-Err-clause-refused g c =
    in_quoted c.args.settings.now (found_in c.args.header.now c.args.walk) c.upper_part.result.now c.quote_part.result.now c.in-Err.rule
    c.upper_part.ensures.value c.quote_part.ensures c.requires.error c.in-Err.ensures.refused
