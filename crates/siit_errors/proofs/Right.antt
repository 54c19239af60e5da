-- The checksums of errors are right.
use Rattle.std.proofs.Common.{◌≡◌, ℕ, ◌+◌, ◌%◌, ◌<◌, List, length, sym, subst, arith}
use Rattle.siit_model.specs.Checksum.{words_sum, residue, checksum_of, pseudo6}
use Rattle.siit_errors.specs.Errors.{message, right_message, quote4, quote6, error_packet6}
use Rattle.siit_errors.proofs.Good.{message-length}
use Rattle.siit_errors.specs.Laws.{ErrorsAreRight4, ErrorsAreRight6}

-- a checksum counts as itself
sum-message : (kind code checksum rest : ℕ) (quote : List ℕ) → checksum < 65536
    → words_sum (message kind code checksum rest quote) ≡ checksum + words_sum (message kind code 0 rest quote)
sum-message kind code checksum rest quote small = omega arith

right : (pseudo kind code rest : ℕ) (quote : List ℕ) → (pseudo + residue (right_message pseudo kind code rest quote)) % 65535 ≡ 0
right pseudo kind code rest quote =
    omega (arith, sum-message kind code (checksum_of ((pseudo + residue (message kind code 0 rest quote)) % 65535)) rest quote (omega arith))

pub errors_right4 : ErrorsAreRight4
errors_right4 source kind code rest bytes = omega (arith, right 0 kind code rest (quote4 bytes))

pub errors_right6 : ErrorsAreRight6
errors_right6 source kind code rest bytes =
    let packet = error_packet6 source kind code rest bytes in
    let pseudo : ℕ = pseudo6 packet.source packet.destination 58 (8 + length (quote6 bytes)) in
    let checksum : ℕ = checksum_of ((pseudo + residue (message kind code 0 rest (quote6 bytes))) % 65535) in
    let same : length packet.body ≡ 8 + length (quote6 bytes) = message-length kind code checksum rest (quote6 bytes) in
    subst (λ (n : ℕ). (pseudo6 packet.source packet.destination 58 n + residue packet.body) % 65535 ≡ 0) (sym same)
    (right pseudo kind code rest (quote6 bytes))
