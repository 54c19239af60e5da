use Rattle.std.specs.Prelude.{length}
use Rattle.siit_arrival4.proofs.options.+has_route.Given as goal

abbrev pub decreases-has_route : goal.decreases-has_route
decreases-has_route l = length l.options.now
