-- The law of what a pair delivers.
use Rattle.std.specs.Prelude.{◌≡◌, ℕ, List, Ok}
use Rattle.siit_capture.specs.Captures.{Records}
use Rattle.siit_config.specs.Config.{config_of}
use Rattle.siit_network.specs.Networks.{network}
use Rattle.siit_pair.specs.Pairs.{IsPair}
use Rattle.siit_roles.specs.Chain.{Chain}
use Rattle.siit_run.specs.Runs.{finished, run_of}
use Rattle.siit_delivery.specs.Deliveries.{Delivers}

-- A run that comes to its end behind both captures, through the network of an accepted configuration that is a pair,
-- delivers each datagram.
abbrev pub PairsDeliver : Type 0
PairsDeliver = (bytes : List ℕ) (chain : Chain) → config_of bytes ≡ Ok chain → (pair : IsPair chain)
    → (coming : ℕ → ℕ → ℕ) (left right : Records) → (run_of (network chain) coming left right).course ≡ finished
    → Delivers pair.border pair.edge left right (run_of (network chain) coming left right).trace.log
