use Rattle.siit_fragments.proofs.PlanFacts.{planned-by}
use Rattle.siit_fragments.proofs.cut.plan.Goals as goal

pub returns-clause-planned : goal.returns-clause-planned
returns-clause-planned c =
    let args = c.args in
    planned-by args.total args.header args.mtu c.unit_of-unit.result c.from.result c.unit_of-unit.ensures c.from.ensures
    c.requires.header c.requires.room c.requires.long c.requires.mtu
