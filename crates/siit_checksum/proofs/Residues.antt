-- Laws of residues and of moved checksums.
use Rattle.std.proofs.Common.{◌≡◌, ℕ, ◌+◌, ◌*◌, ◌%◌, ◌<◌, ◌≤◌, List, [], ◌∷◌, ◌++◌, length, take, drop, suc, zero, arith}
use native.Mathlib.Numerals.{unary_clauses}
use Rattle.siit_model.specs.Bytes.{bytes16, field16, with_field16}
use Rattle.siit_model.specs.Checksum.{words_sum, residue, checksum_of, IsRightChecksum}

-- bytes behind an even number of others
pub words_sum-append : (front back : List ℕ) → length front % 2 ≡ 0 → words_sum (front ++ back) ≡ words_sum front + words_sum back
words_sum-append [] back even = omega arith
words_sum-append (a ∷ []) back even = absurd (omega arith)
words_sum-append (a ∷ b ∷ rest) back even = omega (arith, words_sum-append rest back (omega arith))

pub residue-append : (front back : List ℕ) → length front % 2 ≡ 0 → residue (front ++ back) ≡ (residue front + residue back) % 65535
residue-append front back even = omega (arith, words_sum-append front back even)

-- the two bytes of a number
pub words_sum-bytes16 : (value : ℕ) → value < 65536 → words_sum (bytes16 value) ≡ value
words_sum-bytes16 value small = omega arith

-- bytes cut at an even place
pub words_sum-cut : (bytes : List ℕ) (place : ℕ) → place % 2 ≡ 0 → words_sum bytes ≡ words_sum (take place bytes) + words_sum (drop place bytes)
words_sum-cut bytes zero even = omega arith
words_sum-cut bytes (suc zero) even = absurd (omega arith)
words_sum-cut [] (suc (suc place)) even = omega arith
words_sum-cut (a ∷ []) (suc (suc place)) even = omega arith
words_sum-cut (a ∷ b ∷ rest) (suc (suc place)) even = omega (arith, words_sum-cut rest place (omega arith))

pub residue-cut : (bytes : List ℕ) (place : ℕ) → place % 2 ≡ 0 → residue bytes ≡ (residue (take place bytes) + residue (drop place bytes)) % 65535
residue-cut bytes place even = omega (arith, words_sum-cut bytes place even)

-- a word at an even place that is changed
pub words_sum-with_field16 : (bytes : List ℕ) (place value : ℕ) → place % 2 ≡ 0 → place + 2 ≤ length bytes → value < 65536
    → words_sum (with_field16 bytes place value) + field16 bytes place ≡ words_sum bytes + value
words_sum-with_field16 [] place value even inside small = absurd (omega arith)
words_sum-with_field16 (a ∷ []) place value even inside small = absurd (omega arith)
words_sum-with_field16 (a ∷ b ∷ rest) zero value even inside small = omega arith
words_sum-with_field16 (a ∷ b ∷ rest) (suc zero) value even inside small = absurd (omega arith)
words_sum-with_field16 (a ∷ b ∷ rest) (suc (suc place)) value even inside small =
    let first : words_sum (with_field16 (a ∷ b ∷ rest) (suc (suc place)) value) ≡ a * 256 + b + words_sum (with_field16 rest place value) = simp unary_clauses in
    let field : field16 (a ∷ b ∷ rest) (suc (suc place)) ≡ field16 rest place = simp unary_clauses in
    omega (arith, first, field, words_sum-with_field16 rest place value (omega arith) (omega arith) small)

pub residue-with_field16 : (bytes : List ℕ) (place value : ℕ) → place % 2 ≡ 0 → place + 2 ≤ length bytes → value < 65536
    → (residue (with_field16 bytes place value) + field16 bytes place) % 65535 ≡ (residue bytes + value) % 65535
residue-with_field16 bytes place value even inside small = omega (arith, words_sum-with_field16 bytes place value even inside small)

-- A header is right once its checksum field holds the checksum of the header whose field is 0.
pub is_right-with_checksum : (bytes : List ℕ) (place : ℕ) → place % 2 ≡ 0 → place + 2 ≤ length bytes
    → IsRightChecksum (with_field16 bytes place (checksum_of (residue (with_field16 bytes place 0))))
is_right-with_checksum bytes place even inside =
    let blank = residue-with_field16 bytes place 0 even inside (omega arith) in
    let filled = residue-with_field16 bytes place (checksum_of (residue (with_field16 bytes place 0))) even inside (omega arith) in
    omega (arith, blank, filled)
