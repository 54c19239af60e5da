use Rattle.std.proofs.Common.{◌≡◌, length, map}
use Rattle.siit_command.specs.Words.{is_among}
use Rattle.siit_command.proofs.words.is_output_name.Given as goal

abbrev pub invariant-loop-rest : goal.invariant-loop-rest
invariant-loop-rest l = is_among l.fn.output (map (λ other. other.now) l.fn.others) ≡ is_among l.fn.output (map (λ other. other.now) l.rest)

abbrev pub decreases-loop-rest : goal.decreases-loop-rest
decreases-loop-rest l = length l.rest
