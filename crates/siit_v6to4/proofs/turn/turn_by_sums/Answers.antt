use Rattle.std.proofs.Common.{arith, refl}
use Rattle.std.proofs.lemmas.Bool.{ne_eqb}
use Rattle.siit_v6to4.proofs.turn.turn_by_sums.Goals as goal

pub returns-in_default : goal.returns-in_default
returns-in_default c =
    let protocol = c.args.protocol in
    rw (ne_eqb protocol 6 (omega arith), ne_eqb protocol 17 (omega arith), ne_eqb protocol 58 (omega arith)) refl
