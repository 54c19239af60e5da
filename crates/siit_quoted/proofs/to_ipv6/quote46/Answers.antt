use Rattle.std.proofs.Common.{◌+◌, ◌≤◌, ◌++◌, length, take, ◌∙◌, ap, sym, subst}
use Rattle.siit_quoted.specs.Bodies.{NewBody}
use Rattle.siit_quoted.proofs.Extended.{body-extended}
use Rattle.siit_quoted.proofs.to_ipv6.quote46.Goals as goal

pub quote_extended-requires-clause-fits : goal.quote_extended-requires-clause-fits
quote_extended-requires-clause-fits c =
    subst (λ (b : NewBody). c.args.at + length b.bytes ≤ 65575)
    (body-extended c.args.new.src.0 c.args.new.dst.0 c.in-Some.place c.from.result c.args.at c.args.tos_zero c.args.ext c.args.buf.now.bytes c.in-Some.is c.from.ensures)
    c.requires.fits

pub returns-in-Some-clause-bytes : goal.returns-in-Some-clause-bytes
returns-in-Some-clause-bytes c =
    c.quote_extended.ensures.bytes
    ∙ sym (ap (λ (b : NewBody). take c.args.at c.args.buf.now.bytes ++ b.bytes)
    (body-extended c.args.new.src.0 c.args.new.dst.0 c.in-Some.place c.from.result c.args.at c.args.tos_zero c.args.ext c.args.buf.now.bytes c.in-Some.is c.from.ensures))

pub returns-in-Some-clause-octet : goal.returns-in-Some-clause-octet
returns-in-Some-clause-octet c =
    c.quote_extended.ensures.octet
    ∙ sym (ap (λ (b : NewBody). b.octet)
    (body-extended c.args.new.src.0 c.args.new.dst.0 c.in-Some.place c.from.result c.args.at c.args.tos_zero c.args.ext c.args.buf.now.bytes c.in-Some.is c.from.ensures))
