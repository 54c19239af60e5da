use Rattle.siit_hairpin.proofs.TurnLaws.{translated_pass}
use Rattle.siit_hairpin.proofs.laws.translated_packets_pass.Goals as goal

pub returns : goal.returns
returns c = translated_pass
