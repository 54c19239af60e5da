use Rattle.std.proofs.Common.{◌≡◌, ◌++◌, drop, option_map}
use Rattle.toml.specs.View.{items_view}
use Rattle.siit_config.specs.Devices.{entry_in}
use Rattle.siit_config.specs.Keys.{all_of}
use Rattle.siit_config.proofs.arrays.entries.Given as goal

abbrev pub invariant-loop-item : goal.invariant-loop-item
invariant-loop-item l =
    option_map (λ rest. l.entries.items ++ rest) (all_of entry_in (items_view (drop l.item-index l.items)))
    ≡ all_of entry_in (items_view l.items)
