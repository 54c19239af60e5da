use Rattle.siit_rules.specs.declared.rule.Family.TheVariants.{Four, Six}
use Rattle.siit_device.specs.Laws.{WhatComesLivesLess}
use Rattle.siit_device.proofs.Lives4.{falls4}
use Rattle.siit_device.proofs.Lives6.{falls6}
use Rattle.siit_device.proofs.laws.what_comes_lives_less.Goals as goal

law : WhatComesLivesLess
law settings Four bytes number limits small = falls4 settings bytes limits small
law settings Six bytes number limits small = falls6 settings bytes number limits small

pub returns : goal.returns
returns c = law
