use Rattle.siit_addr.proofs.Ipv4ReadAgain.{ipv4_of_text-ipv4_text}
use Rattle.siit_addr.proofs.laws.ipv4_texts_are_read_again.Goals as goal

pub returns : goal.returns
returns c = ipv4_of_text-ipv4_text
