use Rattle.std.proofs.Common.{arith}
use Rattle.siit_addr.proofs.GroupLists.{number-halves}
use Rattle.siit_addr.proofs.ipv6.address_of.Goals as goal

pub returns : goal.returns
returns c = number-halves c.args.groups.now c.from-high.result c.from-low.result (omega arith) (omega arith) (omega arith)
