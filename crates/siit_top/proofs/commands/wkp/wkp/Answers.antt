use Rattle.std.proofs.Math.Path.{fun_ext}
use Rattle.siit_chain.specs.Outputs.{name_in}
use Rattle.siit_running.specs.Inputs.{input_name}
use Rattle.siit_top.proofs.CarryRuns.{own_none}
use Rattle.siit_top.proofs.WkpRuns.{wkp_ended, wkp_no_room}
use Rattle.siit_top.proofs.commands.wkp.wkp.Goals as goal

pub carry-carried-requires-clause-none_of : goal.carry-carried-requires-clause-none_of
carry-carried-requires-clause-none_of g c = own_none c.inputs_of.ensures c.outs_of.ensures c.requires

pub returns : goal.returns
returns g c =
    rw c.carried_status.ensures
    (wkp_ended c.carry-carried.result (input_name c.inputs_of.result) (name_in c.outs_of.result) c.in-Ok.ensures (fun_ext c.inputs_of.ensures) (fun_ext c.outs_of.ensures) c.carry-carried.ensures.only c.carry-carried.ensures.ends)
