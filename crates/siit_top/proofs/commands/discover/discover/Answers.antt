use Rattle.siit_top.proofs.DiscoverRuns.{discover_unread}
use Rattle.siit_top.proofs.commands.discover.discover.Goals as goal

pub returns-in-Err : goal.returns-in-Err
returns-in-Err g c coming = discover_unread c.in-Err.unread c.in-Err.ensures.only c.in-Err.ensures.unread
