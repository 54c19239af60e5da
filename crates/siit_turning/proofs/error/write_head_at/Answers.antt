use Rattle.siit_turning.proofs.Heads.{head-at}
use Rattle.siit_turning.proofs.error.write_head_at.Goals as goal

pub returns : goal.returns
returns c = head-at c.args.at c.args.octet c.args.gone c.args.come c.args.bytes.now c.write_head.new.message c.write_head.ensures
