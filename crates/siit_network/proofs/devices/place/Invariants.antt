use Rattle.std.proofs.Common.{◌≡◌, ◌++◌, All}
use Rattle.siit_network.specs.Networks.{family_behind, placed_from}
use Rattle.siit_roles.specs.Limits.{IsWithinLimits}
use Rattle.siit_network.proofs.devices.place.Given as goal

abbrev pub invariant-loop-settings : goal.invariant-loop-settings
invariant-loop-settings l = record {
  engines : l.engines.items ++ placed_from l.family l.settings-iterator.rest.items ≡ placed_from l.fn.left l.fn.devices.items;
  behind : family_behind l.family l.settings-iterator.rest.items ≡ family_behind l.fn.left l.fn.devices.items;
  limits : All IsWithinLimits l.settings-iterator.rest.items;
}
