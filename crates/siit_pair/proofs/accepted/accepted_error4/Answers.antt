use Rattle.std.proofs.Common.{◌∙◌, sym}
use Rattle.siit_pair.proofs.ErrorsMade.{forward-no-pointer, forward-no-row, forward-refused, forward-unmapped}
use Rattle.siit_pair.proofs.accepted.accepted_error4.Goals as goal

pub returns-in_default-clause-none : goal.returns-in_default-clause-none
returns-in_default-clause-none c = forward-no-row c.args.settings.now c.args.message.now c.in_default.field-0 (sym c.in_default.ensures)

pub returns-then-not-has_pointer6-clause-none : goal.returns-then-not-has_pointer6-clause-none
returns-then-not-has_pointer6-clause-none c =
    forward-no-pointer c.args.settings.now c.args.message.now c.in-Ok.new (sym c.in-Ok.ensures)
    (sym c.has_pointer6.ensures ∙ c.if-not-has_pointer6.true)

pub returns-in_default-quote_addresses4-clause-none : goal.returns-in_default-quote_addresses4-clause-none
returns-in_default-quote_addresses4-clause-none c =
    forward-refused c.args.settings.now c.args.message.now c.quote_part.result.now c.in-Ok.new c.in_default-quote_addresses4.field-0 (sym c.in-Ok.ensures)
    c.quote_part.ensures c.in_default-quote_addresses4.ensures.refused

pub returns-in_default-mapped6-clause-none : goal.returns-in_default-mapped6-clause-none
returns-in_default-mapped6-clause-none c =
    let old = c.in-Ok-quote_addresses4 in
    forward-unmapped c.args.settings.now c.args.message.now c.quote_part.result.now c.in-Ok.new old.old.src.0 old.old.dst.0 (sym c.in-Ok.ensures)
    c.quote_part.ensures old.ensures.source old.ensures.destination c.in_default-mapped6.ensures.none
