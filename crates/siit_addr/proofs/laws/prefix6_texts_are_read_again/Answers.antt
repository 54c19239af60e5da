use Rattle.std.proofs.Common.{option_and_then, ap, ◌∙◌, refl}
use Rattle.siit_addr.specs.Prefixes.{prefix6}
use Rattle.siit_addr.proofs.Ipv6ReadAgain.{parts_of-prefix6_text}
use Rattle.siit_addr.proofs.Prefixes.{within6_same}
use Rattle.siit_addr.proofs.laws.prefix6_texts_are_read_again.Goals as goal

pub returns : goal.returns
returns c p h = ap (option_and_then prefix6) (parts_of-prefix6_text p.addr.0 p.len h p.in_range) ∙ within6_same p _ refl
