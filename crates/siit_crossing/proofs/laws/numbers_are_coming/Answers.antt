use Rattle.siit_chain.specs.Carried.{chain_of}
use Rattle.siit_crossing.proofs.Runs.{numbers_are_coming}
use Rattle.siit_crossing.proofs.laws.numbers_are_coming.Goals as goal

pub returns : goal.returns
returns g c devices left right = let d = g.D.Device in numbers_are_coming (chain_of d.outcome d.measure devices left right)
