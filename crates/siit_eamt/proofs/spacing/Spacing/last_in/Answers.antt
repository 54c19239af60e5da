use Rattle.std.proofs.Common.{◌≡◌, ◌+◌, ◌-◌, ◌*◌, ◌%◌, ◌^◌, ◌<◌, ap, sym, subst, arith, ℕ}
use Rattle.std.proofs.lemmas.Nat.{mul-le, pow_pos}
use Rattle.siit_eamt.specs.Intervals.{bucket_of}
use Rattle.siit_eamt.proofs.Spacings.{bucket_of_last}
use Rattle.siit_eamt.proofs.spacing.Spacing.last_in.Goals as goal

pub returns-clause-bucket : goal.returns-clause-bucket
returns-clause-bucket c =
    let spacing = c.args.self in
    let less : c.args.bucket < spacing.last = omega arith in
    let product : c.from.result * 2 ^ spacing.shift ≡ (c.args.bucket + 1) * 2 ^ spacing.shift = ap (λ n. n * 2 ^ spacing.shift) c.from.ensures in
    let room = mul-le (c.args.bucket + 1) (2 ^ spacing.shift) spacing.last (2 ^ spacing.shift) (omega arith) (omega arith) in
    let whole : c.from.result * 2 ^ spacing.shift % 340282366920938463463374607431768211456 ≡ (c.args.bucket + 1) * 2 ^ spacing.shift = omega arith in
    subst (λ (x : ℕ). bucket_of spacing (spacing.lowest + x - 1) ≡ c.args.bucket) (sym whole)
    (bucket_of_last spacing.lowest (2 ^ spacing.shift) spacing.last (pow_pos spacing.shift) c.args.bucket less)
