use Rattle.std.proofs.Common.{◌≡◌, ◌≢◌, ℕ, suc, ◌<◌, get_or}
use Rattle.siit_addr.specs.Texts.{colon}
use Rattle.siit_addr.proofs.split.split_at_gap.Given as goal

abbrev pub invariant-loop-i : goal.invariant-loop-i
invariant-loop-i l = (k : ℕ) → suc k < l.i → get_or l.text k 0 ≡ colon → get_or l.text (suc k) 0 ≢ colon
