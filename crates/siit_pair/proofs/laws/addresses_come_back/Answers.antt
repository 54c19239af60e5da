use Rattle.siit_pair.proofs.Addresses.{addresses_back, disjoint_back, maps_alike}
use Rattle.siit_pair.proofs.laws.addresses_come_back.Goals as goal

pub returns-clause-reversible : goal.returns-clause-reversible
returns-clause-reversible c = addresses_back

pub returns-clause-disjoint : goal.returns-clause-disjoint
returns-clause-disjoint c = disjoint_back c.disjoint_tables_come_back.ensures

pub returns-clause-alike : goal.returns-clause-alike
returns-clause-alike c = maps_alike
