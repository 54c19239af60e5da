use Rattle.std.proofs.Math.Path.{fun_ext}
use Rattle.siit_chain.specs.Outputs.{name_in}
use Rattle.siit_running.specs.Inputs.{input_name}
use Rattle.siit_top.proofs.CarryRuns.{own_none, run_ended, run_unset}
use Rattle.siit_top.proofs.commands.run.run.Goals as goal

pub returns-in-Err : goal.returns-in-Err
returns-in-Err g c = rw c.unset_status.ensures (run_unset c.in-Err.none c.in-Err.ensures.only c.in-Err.ensures.none)

pub carry-carried-requires-clause-none_of : goal.carry-carried-requires-clause-none_of
carry-carried-requires-clause-none_of g c = own_none c.inputs_of.ensures c.outs_of.ensures c.requires

pub returns : goal.returns
returns g c =
    rw c.carried_status.ensures
    (run_ended c.carry-carried.result (input_name c.inputs_of.result) (name_in c.outs_of.result) (fun_ext c.inputs_of.ensures) (fun_ext c.outs_of.ensures) c.in-Ok.ensures.only c.in-Ok.ensures.settings c.carry-carried.ensures.only c.carry-carried.ensures.ends)
