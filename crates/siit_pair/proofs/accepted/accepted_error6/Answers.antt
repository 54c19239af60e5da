use Rattle.std.proofs.Common.{◌∙◌, sym}
use Rattle.siit_pair.proofs.ErrorsMade.{backward-no-pointer, backward-no-row, backward-refused, backward-unmapped}
use Rattle.siit_pair.proofs.accepted.accepted_error6.Goals as goal

pub returns-in_default-clause-none : goal.returns-in_default-clause-none
returns-in_default-clause-none c = backward-no-row c.args.settings.now c.args.message.now c.in_default.field-0 (sym c.in_default.ensures)

pub returns-then-not-has_pointer4-clause-none : goal.returns-then-not-has_pointer4-clause-none
returns-then-not-has_pointer4-clause-none c =
    backward-no-pointer c.args.settings.now c.args.message.now c.in-Ok.new (sym c.in-Ok.ensures)
    (sym c.has_pointer4.ensures ∙ c.if-not-has_pointer4.true)

pub returns-in_default-quote_addresses6-clause-none : goal.returns-in_default-quote_addresses6-clause-none
returns-in_default-quote_addresses6-clause-none c =
    backward-refused c.args.settings.now c.args.message.now c.quote_part.result.now c.in-Ok.new c.in_default-quote_addresses6.field-0 (sym c.in-Ok.ensures)
    c.quote_part.ensures c.in_default-quote_addresses6.ensures.refused

pub returns-in_default-mapped4-clause-none : goal.returns-in_default-mapped4-clause-none
returns-in_default-mapped4-clause-none c =
    let old = c.in-Ok-quote_addresses6 in
    backward-unmapped c.args.settings.now c.args.message.now c.quote_part.result.now c.in-Ok.new old.old.src.0 old.old.dst.0 (sym c.in-Ok.ensures)
    c.quote_part.ensures old.ensures.source old.ensures.destination c.in_default-mapped4.ensures.none
