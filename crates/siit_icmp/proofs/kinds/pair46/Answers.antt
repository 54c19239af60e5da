use Rattle.std.proofs.Common.{◌+◌, ◌*◌, ◌∙◌, refl, arith}
use Rattle.siit_icmp.proofs.Tables.{table-agrees, row_to_6, row_to_6-past, row_to_6-pair}
use Rattle.siit_icmp.proofs.kinds.pair46.Goals as goal

pub returns : goal.returns
returns c =
    let pair = 256 * c.from.result + c.from-2.result in
    c.find.ensures ∙ table-agrees c.cases-pairs.ensures.rows row_to_6 4096 refl refl row_to_6-past pair
    ∙ row_to_6-pair c.args.kind c.args.code pair (omega arith) (omega arith)
