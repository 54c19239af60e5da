use Rattle.siit_map.proofs.ComeBack.{come_back}
use Rattle.siit_map.proofs.disjoint_tables_come_back.Goals as goal

pub returns : goal.returns
returns c = come_back c.extracts_embedded.ensures
