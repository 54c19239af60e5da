use Rattle.std.proofs.Common.{arith, sym}
use Rattle.std.proofs.lemmas.Grind.{common_steps}
use Rattle.std.specs.String.{string_bytes}
use Rattle.siit_top.proofs.WordCounts.{map_few, map_many}
use Rattle.siit_top.proofs.commands.map.read_map.Goals as goal
use Rattle.siit_top.proofs.commands.map.read_map.Goals.{in_default-via-then-words-lt3, in_default-via-else-words-lt3+else-words-lt4}

pub returns-in_default : goal.returns-in_default
returns-in_default c =
    elim c.in_default.branch [
      | in_default-via-then-words-lt3 w ↦ sym (map_few string_bytes c.args.words.now (grind (arith, common_steps)))
      | in_default-via-else-words-lt3+else-words-lt4 w ↦ sym (map_many string_bytes c.args.words.now (grind (arith, common_steps)))
    ]
