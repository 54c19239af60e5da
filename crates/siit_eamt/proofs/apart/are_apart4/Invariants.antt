use Rattle.std.proofs.Common.{◌≡◌, false}
use Rattle.std.specs.List.{AllAdjacentBelow}
use Rattle.siit_addr.specs.Addresses.{overlap}
use Rattle.siit_eamt.proofs.apart.are_apart4.Given as goal

abbrev pub invariant-loop-next : goal.invariant-loop-next
invariant-loop-next l = AllAdjacentBelow (λ p q. overlap 32 p.len p.addr.0 q.len q.addr.0 ≡ false) l.sorted4 l.next
