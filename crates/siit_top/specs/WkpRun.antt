-- What `wkp IN OUT` carries: IN as the left capture through the well-known translator, with OUT as the right output and
-- no other.
use Rattle.std.specs.Prelude.{List, ℕ, Option, Some, None}
use Rattle.siit_chain.specs.declared.origin.End.{End}
use Rattle.siit_chain.specs.declared.origin.Output.{Output}
use Rattle.siit_network.specs.Crossings.{Crossing}
use Rattle.siit_top.specs.Carried.{captures_named, crossing_of, outputs_named}
use Rattle.siit_top.specs.Runs.{Run}
use Rattle.siit_top.specs.WellKnown.{well_known_chain}

abbrev pub wkp_captures : (input : List ℕ) → End → Option (List ℕ)
wkp_captures input = captures_named (Some input) None

abbrev pub wkp_outputs : (output : List ℕ) → Output → Option (List ℕ)
wkp_outputs output = outputs_named None (Some output) None

abbrev pub wkp_crossing : (input output : List ℕ) → Run → Crossing
wkp_crossing input output run = crossing_of well_known_chain (wkp_captures input) (wkp_outputs output) run
