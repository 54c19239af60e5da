use Rattle.std.proofs.Common.{map, sym}
use Rattle.std.specs.String.{string_bytes}
use Rattle.siit_top.proofs.Completed.{completed}
use Rattle.siit_top.proofs.OwnFiles.{own_files}
use Rattle.siit_top.proofs.PairRuns.{pair_kept}
use Rattle.siit_top.proofs.top.siit_main.Goals as goal

pub returns-in-Some-clause-complete : goal.returns-in-Some-clause-complete
returns-in-Some-clause-complete g c = completed (sym c.in-Some.ensures) c.perform.ensures

pub perform-requires : goal.perform-requires
perform-requires g c = own_files (map string_bytes c.args.words.now) (sym c.in-Some.ensures)

pub returns-in-Some-clause-pair : goal.returns-in-Some-clause-pair
returns-in-Some-clause-pair g c = pair_kept c.pairs_deliver.ensures (sym c.in-Some.ensures) c.perform.ensures
