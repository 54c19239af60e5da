use Rattle.std.proofs.Common.{◌≡◌, ◌<◌, Some, drop}
use Rattle.siit_addr.specs.Texts.{hex_digit_of, number_in}
use Rattle.siit_addr.proofs.NumberIn.{number_on}
use Rattle.siit_addr.proofs.digits.read_group.Given as goal

-- what is read and what is left make the number, which has four bits for each digit
abbrev pub invariant-loop-byte : goal.invariant-loop-byte
invariant-loop-byte l =
    (number_on 16 hex_digit_of (Some l.group) (drop l.byte-index l.text) ≡ number_in 16 hex_digit_of l.text)
    × (l.byte-index ≡ 0 → l.group < 1) × (l.byte-index ≡ 1 → l.group < 16) × (l.byte-index ≡ 2 → l.group < 256)
    × (l.byte-index ≡ 3 → l.group < 4096)
