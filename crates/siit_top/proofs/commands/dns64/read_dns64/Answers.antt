use Rattle.std.proofs.Common.{arith, sym}
use Rattle.std.proofs.lemmas.Grind.{common_steps}
use Rattle.std.specs.String.{string_bytes}
use Rattle.siit_top.proofs.WordCounts.{dns64_few, dns64_many}
use Rattle.siit_top.proofs.commands.dns64.read_dns64.Goals as goal
use Rattle.siit_top.proofs.commands.dns64.read_dns64.Goals.{in_default-via-then-words-lt5, in_default-via-else-words-lt5+else-words-lt6}

pub returns-in_default : goal.returns-in_default
returns-in_default c =
    elim c.in_default.branch [
      | in_default-via-then-words-lt5 w ↦ sym (dns64_few string_bytes c.args.words.now (grind (arith, common_steps)))
      | in_default-via-else-words-lt5+else-words-lt6 w ↦ sym (dns64_many string_bytes c.args.words.now (grind (arith, common_steps)))
    ]
