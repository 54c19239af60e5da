use Rattle.siit_crossing.proofs.Sent.{devices_send_to_6}
use Rattle.siit_crossing.proofs.laws.devices_send_to_6.Goals as goal

pub returns : goal.returns
returns c = devices_send_to_6
