use Rattle.std.proofs.Common.{arith}
use Rattle.siit_fragments.proofs.PlanFacts.{facts}
use Rattle.siit_fragments.proofs.cut.place_of.Goals as goal

pub overflow_mul-blocks : goal.overflow_mul-blocks
overflow_mul-blocks c =
    let f = facts c.args.len c.args.plan c.args.k c.requires.planned c.requires.below in
    omega (arith, f.begins, c.requires.most)
