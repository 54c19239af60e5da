use Rattle.siit_chain.specs.Carried.{chain_of}
use Rattle.siit_chain.proofs.Traces.{enough_turns_lem}
use Rattle.siit_chain.proofs.laws.enough_turns.Goals as goal

pub returns : goal.returns
returns g c devices left right origin turns t p less =
    let d = g.D.Device in
    enough_turns_lem (chain_of d.outcome d.measure devices left right) g.met.D.Device.falls origin turns t p less
