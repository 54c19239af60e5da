use Rattle.std.proofs.Common.{[], ◌∷◌, ◌++◌, ap, ◌∙◌, arith}
use Rattle.siit_addr.specs.Texts.{slash}
use Rattle.siit_addr.specs.Canonical.{decimal_text}
use Rattle.siit_addr.proofs.text.write_prefix6.Goals as goal

pub returns : goal.returns
returns c =
    let address = c.as_str.ensures.value ∙ c.write_addr6.ensures in
    let written = c.push_str.ensures.bytes ∙ ap (λ front. front ++ c.as_str.result.now) c.new-text.ensures ∙ address in
    c.push_decimal.ensures.bytes
    ∙ ap (λ front. front ++ decimal_text c.args.p.len) (c.push.ensures.ascii (omega arith) ∙ ap (λ front. front ++ slash ∷ []) written)
