-- Why a prefix isn't accepted for embedding (RFC 6052 section 2.2), the first reason in this order.
use Rattle.std.specs.Prelude.{ℕ, Option, Some, None, not, ◌==◌, if◌then◌else◌}
use Rattle.siit_addr.specs.Addresses.{is_clear_behind}
use Rattle.siit_rfc6052.specs.Embedding.{is_embedding_length, byte_of}
use Rattle.siit_rfc6052.specs.declared.embed.EmbedFault.{EmbedFault}
use Rattle.siit_rfc6052.specs.declared.embed.EmbedFault.TheVariants.{BadLength, HostBits, NonZeroU}

abbrev pub embed_fault : (len prefix : ℕ) → Option EmbedFault
embed_fault len prefix =
    if not (is_embedding_length len) then Some BadLength
    else if not (is_clear_behind 128 len prefix) then Some HostBits
    else if not (byte_of prefix 8 == 0) then Some NonZeroU
    else None
