use Rattle.std.proofs.Common.{true}
use Rattle.siit_config.proofs.laws.symmetric_tables_are_disjoint.Goals as goal
use Rattle.siit_config.proofs.Accepted.{configured_is, ok_is}
use Rattle.siit_config.specs.Laws.{symmetric_of}

pub returns : goal.returns
returns c bytes chain h symmetric =
    let is = configured_is bytes chain h in
    let flag = ok_is (symmetric_of bytes) is.flag true is.told symmetric in
    λ k d below. (is.each k d below).disjoint flag
