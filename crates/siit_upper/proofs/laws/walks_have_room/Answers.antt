use Rattle.siit_upper.proofs.Walked.{walks_have_room}
use Rattle.siit_upper.proofs.laws.walks_have_room.Goals as goal

pub returns : goal.returns
returns c = walks_have_room
