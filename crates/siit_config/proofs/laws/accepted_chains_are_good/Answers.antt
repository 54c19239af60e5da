use Rattle.siit_config.proofs.laws.accepted_chains_are_good.Goals as goal
use Rattle.siit_config.proofs.Accepted.{configured_is}

pub returns : goal.returns
returns c bytes chain h =
    let is = configured_is bytes chain h in
    record {
      some_device = is.some_device;
      few_devices = is.few_devices;
      each = λ k d below. (is.each k d below).good;
    }
