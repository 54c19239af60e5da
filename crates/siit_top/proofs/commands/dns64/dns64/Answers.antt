use Rattle.siit_top.proofs.Dns64Runs.{dns64_stopped}
use Rattle.siit_top.proofs.commands.dns64.dns64.Goals as goal

pub returns : goal.returns
returns g c coming =
    let stopped = c.in-Err-write_answer.ensures in
    dns64_stopped c.in-Err-write_answer.stopped c.in-Ok.ensures.only c.in-Ok.ensures.read c.in-Ok-answer.ensures stopped.part stopped.cause stopped.out
