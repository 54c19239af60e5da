use Rattle.siit_engine.specs.Placing.{devices_act}
use Rattle.siit_engine.proofs.engine.devices_act.Goals as goal

pub returns : goal.returns
returns c = devices_act
