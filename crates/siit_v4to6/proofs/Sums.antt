-- A UDP checksum that is computed from nothing, by the parts on both sides of its field.
use Rattle.std.proofs.Common.{◌≡◌, ℕ, ◌+◌, ◌%◌, ◌≤◌, List, ◌++◌, length, take, drop, length-append, ◌-◌, ◌∙◌, ap, sym, arith}
use Rattle.std.proofs.lemmas.Bool.Decides.{nat_tests}
use Rattle.std.proofs.lemmas.List.{length-take-le, take_rest}
use Rattle.siit_model.specs.Bytes.{bytes16, with_field16}
use Rattle.siit_model.specs.Checksum.{residue, checksum_of, without_zero, pseudo6}
use Rattle.siit_v4to6.specs.To6.{udp_checksum6}
use Rattle.siit_checksum.proofs.Residues.{words_sum-append}

-- a datagram with a checksum of zero, by the parts on both sides of the checksum
pub residue-blank_udp : (part : List ℕ) → 8 ≤ length part
    → residue (with_field16 part 6 0) ≡ (residue (take 6 part) + residue (drop 8 part)) % 65535
residue-blank_udp part inside =
    let six : length (take 6 part) ≡ 6 = length-take-le 6 part (omega arith) in
    let eight = length-append (take 6 part) (bytes16 0) in
    let front = words_sum-append (take 6 part) (bytes16 0) (omega arith) in
    let both = words_sum-append (take 6 part ++ bytes16 0) (drop 8 part) (omega arith) in
    omega (arith, front, both)

-- a checksum below 65536 that isn't 0
checksum-is : (pseudo front back blank sum : ℕ) → blank ≡ (front + back) % 65535 → sum ≡ pseudo + front + back
    → 65535 - sum % 65535 ≡ without_zero (checksum_of ((pseudo + blank) % 65535))
checksum-is pseudo front back blank sum is_blank is_sum = grind (arith, nat_tests)

pub udp-summed : (source destination : ℕ) (part : List ℕ) (pseudo front back sum : ℕ) → 8 ≤ length part
    → pseudo ≡ pseudo6 source destination 17 (length part) → front ≡ residue (take 6 part) → back ≡ residue (take (length part - 8) (drop 8 part)) → sum ≡ pseudo + front + back
    → 65535 - sum % 65535 ≡ udp_checksum6 source destination part
udp-summed source destination part pseudo front back sum inside is_pseudo is_front is_back is_sum =
    let is_rest : back ≡ residue (drop 8 part) = is_back ∙ ap residue (take_rest part 8) in
    checksum-is pseudo front back (residue (with_field16 part 6 0)) sum
    (residue-blank_udp part inside ∙ ap (λ n. (n + residue (drop 8 part)) % 65535) (sym is_front) ∙ ap (λ n. (front + n) % 65535) (sym is_rest)) is_sum
    ∙ ap (λ n. without_zero (checksum_of ((n + residue (with_field16 part 6 0)) % 65535))) is_pseudo
