use Rattle.siit_chain.specs.Carried.{chain_of}
use Rattle.siit_run.proofs.Turns.{run_ends_lem}
use Rattle.siit_run.proofs.laws.run_ends.Goals as goal

pub returns : goal.returns
returns g c devices left right coming left_records right_records =
    let d = g.D.Device in
    run_ends_lem (chain_of d.outcome d.measure devices left right) coming left_records right_records
