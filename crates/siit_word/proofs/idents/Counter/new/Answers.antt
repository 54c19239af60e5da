use Rattle.std.proofs.Common.{◌+◌, ◌%◌, ap}
use Rattle.std.proofs.lemmas.List.{get_or-replicate}
use Rattle.siit_word.proofs.idents.Counter.new.Goals as goal

pub returns : goal.returns
returns c = λ device k known. ap (λ next. (next + k) % 65536) (get_or-replicate 256 device 1 0 known)
