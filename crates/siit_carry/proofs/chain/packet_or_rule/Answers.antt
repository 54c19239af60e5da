use Rattle.std.proofs.Common.{◌≡◌, true, ap, sym, ◌∙◌}
use Rattle.siit_chain.specs.Carried.{captured_packet, is_family}
use Rattle.siit_carry.specs.Captured.{judged}
use Rattle.siit_carry.proofs.Entering.{judged_some}
use Rattle.siit_carry.proofs.chain.packet_or_rule.Goals as goal

pub returns-clause-value : goal.returns-clause-value
returns-clause-value c =
    let same : is_family c.in-Some.family c.args.wanted ≡ true = let a = c.is_same.ensures in let b = c.if-not-is_same.false in cc in
    judged_some c.args.wanted c.in-Some.family c.in-Some.bytes.now c.min.result same c.min.ensures
    ∙ ap (λ x. judged c.args.wanted (captured_packet x)) (sym c.in-Some.is)
