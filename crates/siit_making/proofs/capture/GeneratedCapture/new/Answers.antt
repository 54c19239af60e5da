use Rattle.std.proofs.Common.{ap, ◌∙◌}
use Rattle.siit_views.specs.Contents.{Contents}
use Rattle.siit_making.proofs.Parts.{first_at}
use Rattle.siit_making.proofs.capture.GeneratedCapture.new.Goals as goal

pub invariant_of-result : goal.invariant_of-result
invariant_of-result c =
    first_at c.args.count c.args.seed _ _ _ c.requires (ap (λ (b : Contents). b.bytes) c.load.ensures ∙ c.capture_head.ensures)
    c.new-2.ensures.number c.new-2.ensures.state
