use Rattle.siit_chain.specs.Carried.{chain_of}
use Rattle.siit_crossing.proofs.Runs.{each_record_is_carried}
use Rattle.siit_crossing.proofs.laws.each_record_is_carried.Goals as goal

pub returns : goal.returns
returns g c devices left right = let d = g.D.Device in each_record_is_carried (chain_of d.outcome d.measure devices left right)
