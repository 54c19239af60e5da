use Rattle.std.proofs.Common.{◌≡◌, length}
use Rattle.siit_icmp.specs.Icmp.{first_plateau, plateau_below}
use Rattle.siit_icmp.proofs.mtu.plateau.Given as goal

abbrev pub invariant-loop-rest : goal.invariant-loop-rest
invariant-loop-rest l = first_plateau l.rest l.length ≡ plateau_below l.length

abbrev pub decreases-loop-rest : goal.decreases-loop-rest
decreases-loop-rest l = length l.rest
