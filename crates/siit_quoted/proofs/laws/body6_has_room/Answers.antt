use Rattle.siit_quoted.proofs.Extended.{body6-most}
use Rattle.siit_quoted.proofs.laws.body6_has_room.Goals as goal

pub returns : goal.returns
returns c = body6-most
