use Rattle.siit_word.proofs.Written.{written}
use Rattle.siit_word.proofs.fields.put16.Goals as goal

pub returns : goal.returns
returns c = written 2 c.args.bytes.now c.args.at _ _ c.requires c.write_u16.ensures
