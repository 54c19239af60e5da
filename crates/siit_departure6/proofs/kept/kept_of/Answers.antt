use Rattle.std.proofs.Common.{◌+◌, length, refl, sym, ap}
use Rattle.siit_departure6.proofs.KeptIs.{kept-none, kept-some}
use Rattle.siit_departure6.proofs.kept.kept_of.Goals as goal

pub returns-in-Some : goal.returns-in-Some
returns-in-Some c = kept-some c.args.kind c.args.message.now c.in-Some.place (length c.args.message.now) c.requires.header (sym c.in-Some.ensures) refl

pub returns-in-None : goal.returns-in-None
returns-in-None c =
    kept-none c.args.kind c.args.message.now c.quote_part.result.now _ c.requires.header (sym c.in-None.ensures) c.quote_part.ensures
    (ap (λ n. n + length c.quote_part.result.now) c.from.ensures)
