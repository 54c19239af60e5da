use Rattle.std.proofs.Common.{◌≡◌, ◌++◌, drop, map, option_map}
use Rattle.toml.specs.Data.{as_str}
use Rattle.toml.specs.View.{items_view}
use Rattle.siit_config.specs.Keys.{all_of}
use Rattle.siit_config.proofs.arrays.texts.Given as goal

abbrev pub invariant-loop-item : goal.invariant-loop-item
invariant-loop-item l =
    option_map (λ rest. map (λ t. t.now) l.texts.items ++ rest) (all_of as_str (items_view (drop l.item-index l.items)))
    ≡ all_of as_str (items_view l.items)
