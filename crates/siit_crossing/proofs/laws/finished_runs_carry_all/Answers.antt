use Rattle.siit_chain.specs.Carried.{chain_of}
use Rattle.siit_crossing.proofs.Runs.{finished_runs_carry_all}
use Rattle.siit_crossing.proofs.laws.finished_runs_carry_all.Goals as goal

pub returns : goal.returns
returns g c devices left right = let d = g.D.Device in finished_runs_carry_all (chain_of d.outcome d.measure devices left right)
