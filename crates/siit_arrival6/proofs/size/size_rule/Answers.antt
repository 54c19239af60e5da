use Rattle.std.proofs.Common.{sym, ◌∙◌}
use Rattle.siit_model.specs.Ipv6.{payload_length_in}
use Rattle.siit_arrival6.specs.Parts.{found_in}
use Rattle.siit_arrival6.proofs.Bodies.{body_length6, size_found}
use Rattle.siit_arrival6.proofs.size.size_rule.Goals as goal

pub returns-clause-rule : goal.returns-clause-rule
returns-clause-rule c =
    c.rule_if.ensures.rule
    ∙ sym (size_found c.args.settings.now (found_in c.args.header.now c.args.walk) (payload_length_in c.args.header.now) c.args.form
    c.is_too_big.result c.requires.turn (body_length6 c.args.header.now c.requires.lengths) c.requires.form c.is_too_big.ensures.big)

pub returns-clause-fits : goal.returns-clause-fits
returns-clause-fits c = λ e. c.is_too_big.ensures.fits (c.rule_if.ensures.none e)
