use Rattle.std.proofs.Common.{arith, refl}
use Rattle.std.proofs.lemmas.Bool.{ne_eqb}
use Rattle.siit_v4to6.proofs.upper.upper46.Goals as goal

pub returns-in_default : goal.returns-in_default
returns-in_default c =
    let protocol = c.args.protocol in
    rw (ne_eqb protocol 6 (omega arith), ne_eqb protocol 17 (omega arith), ne_eqb protocol 1 (omega arith)) refl
