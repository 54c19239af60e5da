use Rattle.siit_chain.specs.Carried.{chain_of}
use Rattle.siit_chain.proofs.Traces.{carry_step}
use Rattle.siit_chain.proofs.laws.one_step.Goals as goal

pub returns : goal.returns
returns g c devices left right origin t p =
    let d = g.D.Device in
    carry_step (chain_of d.outcome d.measure devices left right) g.met.D.Device.falls origin t p
