use Rattle.std.proofs.Common.{◌+◌, ◌<◌, length, ap, sym, subst, ◌∙◌, arith}
use Rattle.siit_making.specs.Parts.{AreParts, Parts, parts_at, stepped}
use Rattle.siit_making.proofs.Parts.{next_is, next_same, stepped_on}
use Rattle.siit_making.proofs.capture.GeneratedCapture.step.Goals as goal

pub invariant_of-self : goal.invariant_of-self
invariant_of-self c =
    let old : Parts = parts_at c.self.inside.count c.self.inside.seed c.self.inside.place c.self.inside.hand.bytes c.self.inside.generator.number c.self.inside.generator.state in
    let below : c.self.inside.generator.number < c.self.inside.count = omega (arith, c.self.invariant.made) in
    let same = next_same old _ _ _ _ (ap (λ bytes. c.self.inside.place + length bytes) c.bytes.ensures.value) c.load_record.ensures.bytes
    c.load_record.ensures.number c.load_record.ensures.state in
    subst (λ (p : Parts). AreParts p) (sym same) (next_is old c.self.invariant below)

pub returns-clause-stepped : goal.returns-clause-stepped
returns-clause-stepped c =
    let old : Parts = parts_at c.self.inside.count c.self.inside.seed c.self.inside.place c.self.inside.hand.bytes c.self.inside.generator.number c.self.inside.generator.state in
    let below : c.self.inside.generator.number < c.self.inside.count = omega (arith, c.self.invariant.made) in
    next_same old _ _ _ _ (ap (λ bytes. c.self.inside.place + length bytes) c.bytes.ensures.value) c.load_record.ensures.bytes
    c.load_record.ensures.number c.load_record.ensures.state
    ∙ sym (stepped_on old below) ∙ ap stepped c.self.view_is
