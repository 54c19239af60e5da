use Rattle.siit_pair.proofs.PairExamples.{pair_examples}
use Rattle.siit_pair.proofs.pair.worked_pairs.Goals as goal

pub returns-clause-pairs : goal.returns-clause-pairs
returns-clause-pairs c = pair_examples
