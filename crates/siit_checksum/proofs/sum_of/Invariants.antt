use Rattle.std.proofs.Common.{◌≡◌, ◌+◌, ◌%◌, ◌≤◌, length}
use Rattle.siit_model.specs.Checksum.{words_sum}
use Rattle.siit_checksum.proofs.sum_of.Given as goal

abbrev pub invariant-loop-rest : goal.invariant-loop-rest
invariant-loop-rest l = record {
  low : l.sum ≤ 0xffffffffffff;
  so_far : (l.sum + words_sum l.rest) % 65535 ≡ words_sum l.fn.bytes % 65535;
}

abbrev pub decreases-loop-rest : goal.decreases-loop-rest
decreases-loop-rest l = length l.rest
