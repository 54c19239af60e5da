-- The residue of a number's bytes is that of the number, since 65536 counts as 1.
use Rattle.std.proofs.Common.{◌≡◌, ℕ, zero, suc, ◌+◌, ◌/◌, ◌%◌, ◌^◌, ◌<◌, List, [], ◌∷◌, ◌++◌, ◌∙◌, ap, sym, refl, length, arith, length-append}
use Rattle.std.specs.Int.{byte_at, bytes_high_first}
use native.Mathlib.Nat.{div-div-eq-div-mul, pow-suc}
use Rattle.siit_model.specs.Bytes.{bytes16, bytes32, bytes128}
use Rattle.siit_model.specs.Checksum.{words_sum, residue, pseudo4, pseudo6}
use Rattle.siit_checksum.proofs.Residues.{words_sum-append, words_sum-bytes16}

-- a byte of a number, from the digit of that place on
pub byte_at-is : (place value : ℕ) → byte_at place value ≡ value / 256 ^ place % 256
byte_at-is zero value = omega arith
byte_at-is (suc place) value = refl

pub digit-above : (place value : ℕ) → value / 256 ^ suc place ≡ value / 256 ^ place / 256
digit-above place value = ap (λ (n : ℕ). value / n) (pow-suc 256 place) ∙ sym (div-div-eq-div-mul value (256 ^ place) 256)

-- the lowest bytes, an even number of them, with what is above them
words_sum-bytes_high_first : (count value : ℕ) → count % 2 ≡ 0
    → (words_sum (bytes_high_first count value) + value / 256 ^ count) % 65535 ≡ value % 65535
words_sum-bytes_high_first zero value even = omega arith
words_sum-bytes_high_first (suc zero) value even = absurd (omega arith)
words_sum-bytes_high_first (suc (suc count)) value even =
    let rest = words_sum-bytes_high_first count value (omega arith) in
    let above = digit-above (suc count) value in
    let below = digit-above count value in
    let high = byte_at-is (suc count) value in
    let low = byte_at-is count value in
    omega (arith, rest, above, below, high, low)

pub words_sum-bytes32 : (value : ℕ) → value < 2 ^ 32 → words_sum (bytes32 value) % 65535 ≡ value % 65535
words_sum-bytes32 value small = omega (arith, words_sum-bytes_high_first 4 value refl)

pub words_sum-bytes128 : (value : ℕ) → value < 2 ^ 128 → words_sum (bytes128 value) % 65535 ≡ value % 65535
words_sum-bytes128 value small = omega (arith, words_sum-bytes_high_first 16 value refl)

-- the pseudo-header of IPv4 by its numbers
pub pseudo4-is : (source destination protocol len : ℕ) → source < 2 ^ 32 → destination < 2 ^ 32 → len < 65536
    → pseudo4 source destination protocol len ≡ (source + destination + protocol + len) % 65535
pseudo4-is source destination protocol len s d l =
    omega (arith, words_sum-append (bytes32 source ++ bytes32 destination) (0 ∷ protocol ∷ bytes16 len) refl, words_sum-append (bytes32 source) (bytes32 destination) refl, words_sum-bytes32 source s, words_sum-bytes32 destination d, words_sum-bytes16 len l)

-- the residue of three even parts and what follows them, by the residues of the three
residue-four : (a b c d : List ℕ) (x y z w : ℕ) → length a % 2 ≡ 0 → length b % 2 ≡ 0 → length c % 2 ≡ 0
    → words_sum a % 65535 ≡ x % 65535 → words_sum b % 65535 ≡ y % 65535 → words_sum c % 65535 ≡ z % 65535 → words_sum d ≡ w
    → residue (((a ++ b) ++ c) ++ d) ≡ (x + y + z + w) % 65535
residue-four a b c d x y z w even_a even_b even_c is_x is_y is_z is_w =
    let ab = length-append a b in
    let abc = length-append (a ++ b) c in
    let one = words_sum-append a b even_a in
    let two = words_sum-append (a ++ b) c (omega arith) in
    let three = words_sum-append ((a ++ b) ++ c) d (omega arith) in
    omega (arith, one, two, three)

-- the pseudo-header of IPv6 by its numbers
pub pseudo6-is : (source destination protocol len : ℕ) → source < 2 ^ 128 → destination < 2 ^ 128 → len < 2 ^ 32
    → pseudo6 source destination protocol len ≡ (source + destination + len + protocol) % 65535
pseudo6-is source destination protocol len s d l =
    residue-four (bytes128 source) (bytes128 destination) (bytes32 len) (0 ∷ 0 ∷ 0 ∷ protocol ∷ []) source destination len protocol refl refl refl
    (words_sum-bytes128 source s) (words_sum-bytes128 destination d) (words_sum-bytes32 len l) (omega arith)
