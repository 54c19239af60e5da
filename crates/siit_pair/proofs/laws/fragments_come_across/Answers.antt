use Rattle.siit_pair.proofs.Fragments.{fragments_across}
use Rattle.siit_pair.proofs.laws.fragments_come_across.Goals as goal

pub returns : goal.returns
returns c =
    fragments_across c.rules_leave4.ensures c.rules_leave6.ensures c.cutting_commutes_to_6.ensures c.cutting_commutes_to_4.ensures
