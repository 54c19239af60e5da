-- Numbers that are read back from their bytes.
use Rattle.std.proofs.Common.{◌≡◌, ℕ, suc, ◌+◌, ◌*◌, ◌/◌, ◌%◌, ◌^◌, ◌<◌, ◌∙◌, ap, arith}
use Rattle.std.specs.Int.{byte_at}
use Rattle.siit_checksum.proofs.Numbers.{byte_at-is, digit-above}

-- four bytes in a row
four-bytes : (value place : ℕ)
    → (byte_at (suc (suc (suc place))) value * 256 + byte_at (suc (suc place)) value) * 65536 + (byte_at (suc place) value * 256 + byte_at place value)
    ≡ value / 256 ^ place % 4294967296
four-bytes value place =
    let one = digit-above place value in
    let two = digit-above (suc place) value in
    let three = digit-above (suc (suc place)) value in
    let a = byte_at-is place value in
    let b = byte_at-is (suc place) value in
    let c = byte_at-is (suc (suc place)) value in
    let d = byte_at-is (suc (suc (suc place))) value in
    omega (arith, one, two, three, a, b, c, d)

-- a number of two bytes
pub two-read : (value : ℕ) → value < 65536 → byte_at 1 value * 256 + byte_at 0 value ≡ value
two-read value small = omega arith

-- a number of four bytes
pub four-read : (value : ℕ) → value < 4294967296
    → (byte_at 3 value * 256 + byte_at 2 value) * 65536 + (byte_at 1 value * 256 + byte_at 0 value) ≡ value
four-read value small = omega (arith, four-bytes value 0)

-- a number by its four digits below 2 ^ 32
four-digits : (value : ℕ) → value < 2 ^ 128
    → value / 2 ^ 96 % 2 ^ 32 * 2 ^ 96 + value / 2 ^ 64 % 2 ^ 32 * 2 ^ 64 + value / 2 ^ 32 % 2 ^ 32 * 2 ^ 32 + value % 2 ^ 32 ≡ value
four-digits value small = omega arith

-- a number of sixteen bytes
pub sixteen-read : (value : ℕ) → value < 2 ^ 128
    → ((byte_at 15 value * 256 + byte_at 14 value) * 65536 + (byte_at 13 value * 256 + byte_at 12 value)) * 2 ^ 96
    + ((byte_at 11 value * 256 + byte_at 10 value) * 65536 + (byte_at 9 value * 256 + byte_at 8 value)) * 2 ^ 64
    + ((byte_at 7 value * 256 + byte_at 6 value) * 65536 + (byte_at 5 value * 256 + byte_at 4 value)) * 2 ^ 32
    + ((byte_at 3 value * 256 + byte_at 2 value) * 65536 + (byte_at 1 value * 256 + byte_at 0 value))
    ≡ value
sixteen-read value small =
    let x2 : ℕ = (byte_at 11 value * 256 + byte_at 10 value) * 65536 + (byte_at 9 value * 256 + byte_at 8 value) in
    let x1 : ℕ = (byte_at 7 value * 256 + byte_at 6 value) * 65536 + (byte_at 5 value * 256 + byte_at 4 value) in
    let x0 : ℕ = (byte_at 3 value * 256 + byte_at 2 value) * 65536 + (byte_at 1 value * 256 + byte_at 0 value) in
    let low : x0 ≡ value % 2 ^ 32 = omega (arith, four-bytes value 0) in
    ap (λ w. w * 2 ^ 96 + x2 * 2 ^ 64 + x1 * 2 ^ 32 + x0) (four-bytes value 12)
    ∙ ap (λ w. value / 2 ^ 96 % 2 ^ 32 * 2 ^ 96 + w * 2 ^ 64 + x1 * 2 ^ 32 + x0) (four-bytes value 8)
    ∙ ap (λ w. value / 2 ^ 96 % 2 ^ 32 * 2 ^ 96 + value / 2 ^ 64 % 2 ^ 32 * 2 ^ 64 + w * 2 ^ 32 + x0) (four-bytes value 4)
    ∙ ap (λ w. value / 2 ^ 96 % 2 ^ 32 * 2 ^ 96 + value / 2 ^ 64 % 2 ^ 32 * 2 ^ 64 + value / 2 ^ 32 % 2 ^ 32 * 2 ^ 32 + w) low
    ∙ four-digits value small
