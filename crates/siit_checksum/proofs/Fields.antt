-- Lists that stay bytes, and stay as long, when fields are set, and numbers that are read of bytes.
use Rattle.std.proofs.Common.{◌≡◌, ℕ, zero, suc, ◌+◌, ◌-◌, ◌*◌, ◌^◌, ◌<◌, min, ◌∙◌, ap, List, [], ◌∷◌, ◌++◌, length, take, drop, slice_index, slice_set, Bool, true, false, if◌then◌else◌, refl, arith, length-append, length-drop, length-take}
use Rattle.std.specs.Int.{byte_at}
use Rattle.std.proofs.lemmas.List.{length-take-le}
use Rattle.siit_model.specs.Bytes.{AreBytes, bytes16, bytes32, field16, field32, field128, part, with_field16}

pub bytes-cons : (byte : ℕ) (rest : List ℕ) → byte < 256 → AreBytes rest → (place : ℕ) → slice_index (byte ∷ rest) place < 256
bytes-cons byte rest small others zero = small
bytes-cons byte rest small others (suc place) = others place

pub bytes-append : (front back : List ℕ) → AreBytes front → AreBytes back → AreBytes (front ++ back)
bytes-append [] back small others = others
bytes-append (byte ∷ front) back small others = bytes-cons byte (front ++ back) (small 0) (bytes-append front back (λ (place : ℕ). small (suc place)) others)

pub bytes-take : (n : ℕ) (bytes : List ℕ) → AreBytes bytes → AreBytes (take n bytes)
bytes-take zero bytes small = λ (place : ℕ). omega arith
bytes-take (suc n) [] small = small
bytes-take (suc n) (byte ∷ rest) small = bytes-cons byte (take n rest) (small 0) (bytes-take n rest (λ (place : ℕ). small (suc place)))

pub bytes-drop : (n : ℕ) (bytes : List ℕ) → AreBytes bytes → AreBytes (drop n bytes)
bytes-drop zero bytes small = small
bytes-drop (suc n) [] small = small
bytes-drop (suc n) (byte ∷ rest) small = bytes-drop n rest (λ (place : ℕ). small (suc place))

pub bytes-bytes16 : (value : ℕ) → AreBytes (bytes16 value)
bytes-bytes16 value =
    bytes-cons (byte_at 1 value) (byte_at 0 value ∷ []) (omega arith) (bytes-cons (byte_at 0 value) [] (omega arith) (λ (place : ℕ). omega arith))

pub bytes-bytes32 : (value : ℕ) → AreBytes (bytes32 value)
bytes-bytes32 value =
    bytes-cons (byte_at 3 value) (byte_at 2 value ∷ byte_at 1 value ∷ byte_at 0 value ∷ []) (omega arith)
    (bytes-cons (byte_at 2 value) (byte_at 1 value ∷ byte_at 0 value ∷ []) (omega arith)
    (bytes-cons (byte_at 1 value) (byte_at 0 value ∷ []) (omega arith) (bytes-cons (byte_at 0 value) [] (omega arith) (λ (place : ℕ). omega arith))))

pub bytes-part : (bytes : List ℕ) (place n : ℕ) → AreBytes bytes → AreBytes (part bytes place n)
bytes-part bytes place n small = bytes-take n (drop place bytes) (bytes-drop place bytes small)

pub length-part : (bytes : List ℕ) (place n : ℕ) → length (part bytes place n) ≡ min n (length bytes - place)
length-part bytes place n = length-take n (drop place bytes) ∙ ap (λ m. min n m) (length-drop place bytes)

pub bytes-with_field16 : (bytes : List ℕ) (place value : ℕ) → AreBytes bytes → AreBytes (with_field16 bytes place value)
bytes-with_field16 bytes place value small =
    bytes-append (take place bytes ++ bytes16 value) (drop (place + 2) bytes)
    (bytes-append (take place bytes) (bytes16 value) (bytes-take place bytes small) (bytes-bytes16 value)) (bytes-drop (place + 2) bytes small)

pub bytes-set_first : (bytes : List ℕ) (value : ℕ) → value < 256 → AreBytes bytes → AreBytes (slice_set bytes 0 value)
bytes-set_first [] value fits small = small
bytes-set_first (byte ∷ rest) value fits small = bytes-cons value rest fits (λ (place : ℕ). small (suc place))

pub bytes-if : (test : Bool) (one other : List ℕ) → AreBytes one → AreBytes other → AreBytes (if test then one else other)
bytes-if true one other small others = small
bytes-if false one other small others = others

pub length-with_field16 : (bytes : List ℕ) (place value : ℕ) → place + 1 < length bytes → length (with_field16 bytes place value) ≡ length bytes
length-with_field16 bytes place value inside =
    let front = length-take-le place bytes (omega arith) in
    let one = length-append (take place bytes) (bytes16 value) in
    let two = length-append (take place bytes ++ bytes16 value) (drop (place + 2) bytes) in
    let back = length-drop (place + 2) bytes in
    omega (arith, front, one, two, back)

pub length-set_first : (bytes : List ℕ) (value : ℕ) → length (slice_set bytes 0 value) ≡ length bytes
length-set_first [] value = refl
length-set_first (byte ∷ rest) value = refl

pub length-if : (test : Bool) (one other : List ℕ) (n : ℕ) → (test ≡ true → length one ≡ n) → length other ≡ n → length (if test then one else other) ≡ n
length-if true one other n same others = same refl
length-if false one other n same others = others

small16 : (a b : ℕ) → a < 256 → b < 256 → a * 256 + b < 65536
small16 a b small_a small_b = omega arith

small32 : (a b : ℕ) → a < 65536 → b < 65536 → a * 65536 + b < 4294967296
small32 a b small_a small_b = omega arith

small128 : (a b c d : ℕ) → a < 4294967296 → b < 4294967296 → c < 4294967296 → d < 4294967296 → a * 2 ^ 96 + b * 2 ^ 64 + c * 2 ^ 32 + d < 2 ^ 128
small128 a b c d small_a small_b small_c small_d = omega arith

pub field16-small : (bytes : List ℕ) (place : ℕ) → AreBytes bytes → field16 bytes place < 65536
field16-small bytes place small = small16 (slice_index bytes place) (slice_index bytes (place + 1)) (small place) (small (place + 1))

pub field32-small : (bytes : List ℕ) (place : ℕ) → AreBytes bytes → field32 bytes place < 4294967296
field32-small bytes place small = small32 (field16 bytes place) (field16 bytes (place + 2)) (field16-small bytes place small) (field16-small bytes (place + 2) small)

pub field128-small : (bytes : List ℕ) (place : ℕ) → AreBytes bytes → field128 bytes place < 2 ^ 128
field128-small bytes place small =
    small128 (field32 bytes place) (field32 bytes (place + 4)) (field32 bytes (place + 8)) (field32 bytes (place + 12))
    (field32-small bytes place small) (field32-small bytes (place + 4) small) (field32-small bytes (place + 8) small) (field32-small bytes (place + 12) small)
