use Rattle.std.proofs.Common.{◌∙◌, ap, ◌+◌}
use Rattle.siit_v4to6.proofs.Sums.{udp-summed}
use Rattle.siit_v4to6.proofs.upper.udp_sum6.Goals as goal

pub returns-clause-value : goal.returns-clause-value
returns-clause-value c =
    udp-summed c.args.src.0 c.args.dst.0 c.args.part.now c.pseudo_sum6-pseudo.result c.sum_of.result c.sum_of-2.result _ c.requires.header
    c.pseudo_sum6-pseudo.ensures.value c.sum_of.ensures.value c.sum_of-2.ensures.value
    (ap (λ n. n + c.from-2.result + c.from-3.result) c.from.ensures ∙ ap (λ n. c.pseudo_sum6-pseudo.result + n + c.from-3.result) c.from-2.ensures
    ∙ ap (λ n. c.pseudo_sum6-pseudo.result + c.sum_of.result + n) c.from-3.ensures)
