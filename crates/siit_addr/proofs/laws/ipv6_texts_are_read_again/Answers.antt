use Rattle.siit_addr.proofs.Ipv6ReadAgain.{ipv6_of_text-ipv6_text}
use Rattle.siit_addr.proofs.laws.ipv6_texts_are_read_again.Goals as goal

pub returns : goal.returns
returns c = ipv6_of_text-ipv6_text
