use Rattle.siit_word.proofs.Appended.{more_appended}
use Rattle.siit_word.proofs.files.append_all.Goals as goal

pub loop-rest-preserved : goal.loop-rest-preserved
loop-rest-preserved g c =
    let now = c.in_ok-count.ensures in
    more_appended c.in_ok-count.count c.loop-rest.invariant c.loop-rest-test.ensures now.bound now.ok now.only
