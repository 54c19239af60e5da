use Rattle.std.proofs.Common.{◌+◌, ◌%◌, List, ℕ, ap, subst, ◌∙◌}
use Rattle.std.proofs.lemmas.List.{take_rest}
use Rattle.siit_model.specs.Checksum.{residue}
use Rattle.siit_quoted.specs.Bodies.{NewBody}
use Rattle.siit_quoted.specs.Errors.{body_to_6}
use Rattle.siit_quoted.specs.Sums.{IsDifference}
use Rattle.siit_departure6.specs.Kept.{kept_body}
use Rattle.siit_departure6.proofs.Messages.{message-summed}
use Rattle.siit_departure6.proofs.message.sums_of.Goals as goal

pub returns : goal.returns
returns c =
    let message : List ℕ = c.args.message.now in
    let kept = c.args.kept in
    let quote = c.args.error.now.quote in
    let sums = c.quote_sums46-body.result in
    let body : NewBody = body_to_6 quote.src.0 quote.dst.0 c.args.tos_zero c.args.error.now.new.kind message in
    message-summed message body.bytes kept.len c.blank_sum-head.result sums.gone sums.come c.sum_of-behind.result _
    c.requires.kept.header c.requires.kept.inside c.requires.kept.even
    (subst (λ (b : NewBody). IsDifference (kept_body kept message) b.bytes sums.gone sums.come) (c.requires.kept.body quote.src.0 quote.dst.0 c.args.tos_zero) c.quote_sums46-body.ensures)
    c.blank_sum-head.ensures
    (c.sum_of-behind.ensures.value ∙ ap residue (take_rest message kept.len))
    (ap (λ n. (n + c.from-2.result + c.from-3.result) % 65535) c.from.ensures
    ∙ ap (λ n. (c.blank_sum-head.result + n + c.from-3.result) % 65535) c.from-2.ensures
    ∙ ap (λ n. (c.blank_sum-head.result + sums.gone + n) % 65535) c.from-3.ensures)
