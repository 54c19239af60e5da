use Rattle.std.proofs.Common.{◌+◌, length, ap, sym, ◌∙◌}
use Rattle.siit_arrival6.specs.Parts.{found_in}
use Rattle.siit_arrival6.proofs.Lengths.{sent_plain}
use Rattle.siit_arrival6.proofs.size.plain_form.Goals as goal

pub returns-clause-form : goal.returns-clause-form
returns-clause-form c =
    let found = found_in c.args.header.now c.args.walk in
    ap (λ n. 20 + n) (ap length c.upper_part.ensures.value ∙ sym (sent_plain c.args.settings.now found c.requires.error))
