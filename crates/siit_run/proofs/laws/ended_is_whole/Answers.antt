use Rattle.siit_chain.specs.Carried.{chain_of}
use Rattle.siit_run.proofs.Turns.{ended_is_whole_lem}
use Rattle.siit_run.proofs.laws.ended_is_whole.Goals as goal

pub returns : goal.returns
returns g c devices left right coming left_records right_records turns h =
    let d = g.D.Device in
    ended_is_whole_lem (chain_of d.outcome d.measure devices left right) coming left_records right_records turns h
