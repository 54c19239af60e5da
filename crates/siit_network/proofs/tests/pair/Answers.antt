use Rattle.std.proofs.Common.{[], List, All, sym, ◌∙◌, subst, arith}
use Rattle.std.proofs.lemmas.List.Elements.{All-push}
use Rattle.siit_roles.specs.Limits.{IsWithinLimits}
use Rattle.siit_roles.specs.declared.settings.Settings.{Settings}
use Rattle.siit_network.proofs.tests.pair.Goals as goal

none_within : All IsWithinLimits []
none_within k d below = absurd (omega arith)

pub returns-clause-limits : goal.returns-clause-limits
returns-clause-limits c =
    let none = subst (λ (xs : List Settings). All IsWithinLimits xs) (sym c.new-devices.ensures.items) none_within in
    let one = subst (λ (xs : List Settings). All IsWithinLimits xs) (sym c.in_ok-push.ensures.items) (All-push IsWithinLimits c.new-devices.result.items c.in_ok-border.border none c.in_ok-border.ensures) in
    subst (λ (xs : List Settings). All IsWithinLimits xs) (sym (c.new.ensures.devices ∙ c.in_ok-push-2.ensures.items))
    (All-push IsWithinLimits c.push.new.self.items c.in_ok-edge.edge one c.in_ok-edge.ensures)
