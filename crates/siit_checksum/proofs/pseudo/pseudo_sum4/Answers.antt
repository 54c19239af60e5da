use Rattle.std.proofs.Common.{arith}
use Rattle.siit_checksum.proofs.Numbers.{pseudo4-is}
use Rattle.siit_checksum.proofs.pseudo.pseudo_sum4.Goals as goal

pub returns-clause-value : goal.returns-clause-value
returns-clause-value c = omega (arith, pseudo4-is c.args.src c.args.dst c.args.protocol c.args.len (omega arith) (omega arith) (omega arith))
