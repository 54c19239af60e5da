use Rattle.std.proofs.Common.{◌∙◌, refl}
use Rattle.siit_icmp.specs.Icmp.{pointer_to_4}
use Rattle.siit_icmp.proofs.Tables.{table-agrees, pointer_to_4-past}
use Rattle.siit_icmp.proofs.pointers.place4.Goals as goal

pub returns : goal.returns
returns c = c.find.ensures ∙ table-agrees c.cases-pointers.ensures.rows pointer_to_4 40 refl refl pointer_to_4-past c.args.p
