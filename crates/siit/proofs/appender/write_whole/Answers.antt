use Rattle.siit.proofs.Appending.{more_written}
use Rattle.siit.proofs.appender.write_whole.Goals as goal

pub loop-rest-preserved : goal.loop-rest-preserved
loop-rest-preserved g c =
    let now = c.in_ok-count.ensures in
    more_written (g.F.Write.contents c.write_some.new.file) c.in_ok-count.count c.loop-rest.invariant now.bound now.ok
