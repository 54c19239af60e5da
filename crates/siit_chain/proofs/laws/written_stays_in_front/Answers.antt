use Rattle.siit_chain.specs.Carried.{chain_of}
use Rattle.siit_chain.proofs.Traces.{carry_behind}
use Rattle.siit_chain.proofs.laws.written_stays_in_front.Goals as goal

pub returns : goal.returns
returns g c devices left right origin log t p =
    let d = g.D.Device in
    carry_behind (chain_of d.outcome d.measure devices left right) origin log t p
