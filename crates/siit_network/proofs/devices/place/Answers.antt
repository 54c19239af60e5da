use Rattle.std.proofs.Common.{◌≡◌, ◌∷◌}
use Rattle.siit_network.proofs.Placing.{behind_on, limits_on, placed_on}
use Rattle.siit_network.proofs.devices.place.Goals as goal

pub loop-settings-preserved : goal.loop-settings-preserved
loop-settings-preserved c =
    let items = c.loop-settings.settings-iterator.rest.items in
    let rest = c.next.new.self.rest.items in
    let is : items ≡ c.in-Some.settings ∷ rest = c.in-Some.ensures.steps.0 in
    let family = c.loop-settings.family in
    let done = c.loop-settings.engines.items in
    let now = c.push.new.self.items in
    record {
      engines = rw c.other-family.ensures (placed_on family done now _ c.in-Some.settings rest items is c.loop-settings.invariant.engines c.new.result c.new.ensures.settings c.new.ensures.left c.in-Ok.ensures.items);
      behind = rw c.other-family.ensures (behind_on family done now done c.in-Some.settings rest items is _ c.loop-settings.invariant.behind);
      limits = limits_on family done now done c.in-Some.settings rest items is c.loop-settings.invariant.limits;
    }
