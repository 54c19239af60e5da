use Rattle.std.proofs.Common.{ℕ, List, take, drop, ◌∙◌, ap}
use Rattle.siit_model.specs.Checksum.{residue}
use Rattle.siit_quoted.proofs.sums_turned.addresses_sum.Goals as goal

pub returns : goal.returns
returns c = c.sum_of.ensures.value ∙ ap (λ (b : List ℕ). residue (take 32 (drop 8 b))) c.write_addresses.ensures
