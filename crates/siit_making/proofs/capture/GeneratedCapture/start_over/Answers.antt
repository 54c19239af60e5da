use Rattle.std.proofs.Common.{ap, ◌∙◌}
use Rattle.siit_views.specs.Contents.{Contents}
use Rattle.siit_making.proofs.Parts.{first_at}
use Rattle.siit_making.proofs.capture.GeneratedCapture.start_over.Goals as goal

pub invariant_of-self : goal.invariant_of-self
invariant_of-self c =
    first_at c.self.inside.count c.self.inside.seed _ _ _ c.self.invariant.few (ap (λ (b : Contents). b.bytes) c.load.ensures ∙ c.capture_head.ensures)
    c.new-self-inside.ensures.number c.new-self-inside.ensures.state
