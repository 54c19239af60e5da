use Rattle.std.proofs.Common.{◌≡◌, ◌≤◌, [], ◌∷◌, Ok, ap, lit≤}
use Rattle.std.proofs.Math.Bridge.{le_prop}
use Rattle.siit_map.specs.Mapping.{table}
use Rattle.siit_roles.specs.Chain.{Chain}
use Rattle.siit_top.specs.WellKnown.{well_known_chain, well_known_device, well_known_prefix}
use Rattle.siit_top.proofs.well_known_examples.Goals as goal

-- the chain, where its prefix is known to be short enough in this way
abbrev chain_by : 96 ≤ 128 → Chain
chain_by within =
    record well_known_chain { devices = record well_known_device { mapping = table [] (record well_known_prefix { in_range = within }) } ∷ [] }

pub returns : goal.returns
returns c = ap (λ (within : 96 ≤ 128). Ok (chain_by within)) (le_prop _ (lit≤ tt))
