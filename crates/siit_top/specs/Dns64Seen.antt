-- The program's names and bytes of messages as those of the definitions.
use Rattle.std.specs.Prelude.{ℕ, List, Option, option_map}
use Rattle.siit_top.specs.Words.{Messages}
use Rattle.siit_top.specs.declared.commands.dns64.MessageBytes.{MessageBytes}

abbrev pub bytes_seen : MessageBytes → Messages
bytes_seen m = record { query = m.query.items; aaaa = m.aaaa.items; a = option_map (λ bytes. bytes.items) m.a }
