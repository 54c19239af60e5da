use Rattle.std.proofs.Common.{◌+◌, ◌∙◌, ap, min, length}
use Rattle.siit_model.specs.Ipv6.{payload_length_in}
use Rattle.siit_quoted.proofs.Accepted6.{body-here}
use Rattle.siit_quoted.proofs.addresses.body6.Goals as goal

pub returns-clause-value : goal.returns-clause-value
returns-clause-value c =
    body-here c.args.part.now c.min-end.result
    (c.min-end.ensures ∙ ap (λ n. min (length c.args.part.now) (40 + n)) (c.from.ensures ∙ c.length.ensures ∙ ap payload_length_in c.new-header.ensures))
