use Rattle.std.proofs.Common.{codes}
use Rattle.toml.specs.View.{table_view}
use Rattle.siit_config.specs.Texts.{local_embedding_of}
use Rattle.siit_config.proofs.KeyLaws.{text_accepted}
use Rattle.siit_config.proofs.device_keys.local_prefix6.Goals as goal

pub returns : goal.returns
returns c =
    text_accepted c.args.keys.now.device (table_view c.args.keys.now.table.now) (local_embedding_of c.args.provider.now) (codes "local_prefix6") c.in_ok-text.text.now
    c.local_embedding_of.result c.accepted.result c.in_ok-text.ensures c.local_embedding_of.ensures c.accepted.ensures
