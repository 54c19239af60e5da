use Rattle.std.proofs.Common.{refl}
use Rattle.std.specs.Fmt.{digits}
use Rattle.siit_chain.specs.Carried.{carried, carry, event}
use Rattle.siit_chain.specs.Log.{entry_text, text_of}
use Rattle.siit_chain.specs.Texts.{report_line}
use Rattle.siit_chain.proofs.examples.carried_examples.Goals as goal

pub returns : goal.returns
unfolding digits carried carry event entry_text text_of report_line
returns c = record { numbered = refl; two_used = refl; depth_first = refl; from_right = refl; other_family = refl; no_packet = refl }
