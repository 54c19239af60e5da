use Rattle.std.proofs.Common.{arith, refl}
use Rattle.std.proofs.lemmas.Bool.{ne_eqb}
use Rattle.siit_v6to4.proofs.upper.upper64.Goals as goal

pub returns-in-6 : goal.returns-in-6
returns-in-6 c = rw c.in-6.is cc

pub returns-in-17 : goal.returns-in-17
returns-in-17 c = rw c.in-17.is cc

pub returns-in-58 : goal.returns-in-58
returns-in-58 c = rw c.in-58.is cc

pub returns-in_default : goal.returns-in_default
returns-in_default c =
    let protocol = c.args.protocol in
    rw (ne_eqb protocol 6 (omega arith), ne_eqb protocol 17 (omega arith), ne_eqb protocol 58 (omega arith)) refl
