use Rattle.siit_hairpin.proofs.TurnLaws.{replies_come}
use Rattle.siit_hairpin.proofs.laws.replies_come_from_the_first_destination.Goals as goal

pub returns : goal.returns
returns c = replies_come c.extracts_embedded.ensures
