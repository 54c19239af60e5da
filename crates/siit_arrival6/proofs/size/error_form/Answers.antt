use Rattle.std.proofs.Common.{◌≡◌, ◌+◌, ap, ◌∙◌, arith}
use Rattle.siit_upper.specs.Walks.{walked}
use Rattle.siit_arrival6.specs.Parts.{found_in}
use Rattle.siit_arrival6.proofs.Lengths.{sent_error}
use Rattle.siit_arrival6.proofs.size.error_form.Goals as goal

pub returns-clause-form : goal.returns-clause-form
returns-clause-form c =
    let found = found_in c.args.header.now c.args.walk in
    let kind = c.requires.kind in
    let message = c.upper_part.result.now in
    let sum : 28 + c.body_len.result ≡ 20 + (8 + c.body_len.result) = omega arith in
    sum
    ∙ ap (λ n. 20 + n) (ap (λ n. 8 + n) c.body_len.ensures.size
    ∙ sent_error c.args.settings.now found c.args.new (walked c.args.quote) message c.upper_part.ensures.value kind.is_error kind.header kind.kind c.requires.walk c.requires.has)
