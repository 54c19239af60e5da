use Rattle.std.proofs.Common.{◌≡◌, ◌+◌, ◌^◌, ◌<◌, ◌≤◌, Option, ℕ, sym, subst, arith, ⊎_elim}
use Rattle.std.specs.Option.{SomeIff}
use Rattle.std.proofs.lemmas.Bool.{cases_lt}
use Rattle.siit_eamt.proofs.StartsLemmas.{ends_above}
use Rattle.siit_eamt.proofs.starts.Block.behind.Goals as goal

pub returns-in_err-size : goal.returns-in_err-size
returns-in_err-size c =
    let block = c.args.self in
    let same : c.from.result ≡ block.bits = c.from.ensures in
    subst (λ (behind : Option ℕ). SomeIff behind (block.first + 2 ^ block.bits < 2 ^ 128) (block.first + 2 ^ block.bits)) (sym c.from_residual.ensures)
    (λ below. ends_above block.first block.bits
    (⊎_elim (λ (lt : block.bits < 128). absurd (c.in_err-size.ensures (omega arith))) (λ (ge : 128 ≤ block.bits). ge) (cases_lt block.bits 128)) below)
