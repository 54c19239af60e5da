use Rattle.std.proofs.Common.{◌==◌, ap, ◌∙◌, option_and_then}
use Rattle.siit_addr.specs.Addresses.{is_clear_behind}
use Rattle.siit_rfc6052.specs.Embedding.{is_embedding_length, is_embedding_prefix, byte_of}
use Rattle.siit_config.specs.Texts.{kept_if}
use Rattle.siit_config.proofs.Prefixes.{accepted_by}
use Rattle.siit_config.proofs.names.embedding_of.Goals as goal

pub returns : goal.returns
returns c =
    let p = c.in_ok-read_prefix6.field-0 in
    let judged = accepted_by p _ _ _ (is_embedding_length p.len) (is_clear_behind 128 p.len p.addr.0) (byte_of p.addr.0 8 == 0)
    c.new.result c.new.ensures.refused c.new.ensures.accepted in
    c.ok.ensures.value ∙ judged ∙ ap (option_and_then (kept_if (λ p. is_embedding_prefix p.len p.addr.0))) c.in_ok-read_prefix6.ensures
