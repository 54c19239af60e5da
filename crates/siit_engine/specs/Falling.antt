-- Whatever comes of a packet at a device may live less long.
use Rattle.std.proofs.Common.{ℕ, List}
use Rattle.siit_chain.specs.Outcome.{Falls}
use Rattle.siit_chain.specs.declared.origin.End.{End}
use Rattle.siit_rules.specs.declared.rule.Family.TheVariants.{Four, Six}
use Rattle.siit_device.specs.Laws.{WhatComesLivesLess}
use Rattle.siit_device.proofs.Lives4.{falls4}
use Rattle.siit_device.proofs.Lives6.{falls6}
use Rattle.siit_engine.specs.Placed.{Placed, life_of, outcome_at}
use Rattle.siit_engine.specs.Placing.{falls-by}

law : WhatComesLivesLess
law settings Four bytes number limits small = falls4 settings bytes limits small
law settings Six bytes number limits small = falls6 settings bytes number limits small

pub engine_falls : (device : Placed) (side : End) (packet : List ℕ) (number : ℕ) → Falls life_of packet (outcome_at device side packet number)
engine_falls device side packet number = falls-by law device side packet number
