use Rattle.siit_chain.specs.Carried.{chain_of}
use Rattle.siit_run.proofs.Turns.{after_adds}
use Rattle.siit_run.proofs.laws.turns_only_add.Goals as goal

pub returns : goal.returns
returns g c devices left right run turns more =
    let d = g.D.Device in
    let added = after_adds (chain_of d.outcome d.measure devices left right) turns more run in
    (added.more, added.is)
