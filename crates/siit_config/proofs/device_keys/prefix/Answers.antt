use Rattle.std.proofs.Common.{codes}
use Rattle.toml.specs.View.{table_view}
use Rattle.siit_config.specs.Texts.{embedding_of}
use Rattle.siit_config.proofs.KeyLaws.{text_accepted}
use Rattle.siit_config.proofs.device_keys.prefix.Goals as goal

pub returns : goal.returns
returns c =
    text_accepted c.args.keys.now.device (table_view c.args.keys.now.table.now) embedding_of (codes "prefix") c.in_ok-text.text.now
    c.embedding_of.result c.accepted.result c.in_ok-text.ensures c.embedding_of.ensures c.accepted.ensures
