use Rattle.siit_top.proofs.MapRuns.{map_unread}
use Rattle.siit_top.proofs.commands.map.map.Goals as goal

pub returns-in-Err : goal.returns-in-Err
returns-in-Err g c coming = map_unread c.in-Err.unread c.in-Err.ensures.only c.in-Err.ensures.unread
