-- Fields inside a list of bytes, the highest byte first, as the headers of RFC 791 and RFC 8200 have them.
use Rattle.std.specs.Prelude.{ℕ, ◌+◌, ◌*◌, ◌^◌, ◌<◌, List, ◌++◌, take, drop, slice_index, Bool, if◌then◌else◌}
use Rattle.std.specs.Int.{bytes_high_first}

-- each number of the list is a byte
abbrev pub AreBytes : List ℕ → Type 0
AreBytes bytes = (place : ℕ) → slice_index bytes place < 256

-- n bytes from a place on
abbrev pub part : List ℕ → ℕ → ℕ → List ℕ
part bytes place n = take n (drop place bytes)

abbrev pub field8 : List ℕ → ℕ → ℕ
field8 bytes place = slice_index bytes place

abbrev pub field16 : List ℕ → ℕ → ℕ
field16 bytes place = slice_index bytes place * 256 + slice_index bytes (place + 1)

abbrev pub field32 : List ℕ → ℕ → ℕ
field32 bytes place = field16 bytes place * 65536 + field16 bytes (place + 2)

abbrev pub field128 : List ℕ → ℕ → ℕ
field128 bytes place =
    field32 bytes place * 2 ^ 96 + field32 bytes (place + 4) * 2 ^ 64
    + field32 bytes (place + 8) * 2 ^ 32 + field32 bytes (place + 12)

-- a number as two, four and sixteen bytes
abbrev pub bytes16 : ℕ → List ℕ
bytes16 value = bytes_high_first 2 value

abbrev pub bytes32 : ℕ → List ℕ
bytes32 value = bytes_high_first 4 value

abbrev pub bytes128 : ℕ → List ℕ
bytes128 value = bytes_high_first 16 value

-- the bytes with a field set to a number
abbrev pub with_field16 : List ℕ → ℕ → ℕ → List ℕ
with_field16 bytes place value = take place bytes ++ bytes16 value ++ drop (place + 2) bytes

abbrev pub with_field32 : List ℕ → ℕ → ℕ → List ℕ
with_field32 bytes place value = take place bytes ++ bytes32 value ++ drop (place + 4) bytes

-- a flag as the bit that is written
abbrev pub flag_bit : Bool → ℕ
flag_bit flag = if flag then 1 else 0
