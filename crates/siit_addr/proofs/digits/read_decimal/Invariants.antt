use Rattle.std.proofs.Common.{◌≡◌, ◌<◌, Some, drop}
use Rattle.siit_addr.specs.Texts.{decimal_digit_of, number_in}
use Rattle.siit_addr.proofs.NumberIn.{number_on}
use Rattle.siit_addr.proofs.digits.read_decimal.Given as goal

-- what is read and what is left make the number, which is below 10 for one digit and below 100 for two
abbrev pub invariant-loop-byte : goal.invariant-loop-byte
invariant-loop-byte l =
    (number_on 10 decimal_digit_of (Some l.number) (drop l.byte-index l.text) ≡ number_in 10 decimal_digit_of l.text)
    × (l.byte-index ≡ 0 → l.number < 1) × (l.byte-index ≡ 1 → l.number < 10) × (l.byte-index ≡ 2 → l.number < 100)
