use Rattle.std.proofs.Common.{sym, ◌∙◌, arith}
use Rattle.siit_making.proofs.Parts.{has_stepped}
use Rattle.siit_making.proofs.capture.GeneratedCapture.go_to.Goals as goal

pub loop-self-smaller : goal.loop-self-smaller
loop-self-smaller c =
    let s = has_stepped c.loop-self.self c.step.new.self (sym c.step.ensures.more ∙ c.if-not-step.false) c.step.ensures.stepped in
    omega (arith, s.more, s.count, s.made)
