-- A field of 16 bits that is written is read, written over, and cut behind.
use Rattle.std.proofs.Common.{◌≡◌, ℕ, ◌+◌, ◌-◌, ◌*◌, ◌<◌, ◌≤◌, List, ◌∷◌, ◌++◌, length, take, drop, slice_index, ◌∙◌, ap, sym, arith, append_assoc, length-append}
use Rattle.std.specs.Int.{byte_at}
use Rattle.std.proofs.lemmas.List.{take_at, drop_at, take-take, drop-take, length-take-le, length-take, get_or-take, get_or-append-add, drop_more, take-append-drop}
use Rattle.std.proofs.lemmas.Bool.Decides.{nat_tests}
use lib.Seq.{take-append-add}
use Rattle.siit_model.specs.Bytes.{AreBytes, bytes16, field16, with_field16}
use Rattle.siit_model.specs.Upper.{has_field16}
use Rattle.siit_checksum.proofs.Digits.{two-read}

grouped : (bytes : List ℕ) (place value : ℕ) → with_field16 bytes place value ≡ take place bytes ++ (byte_at 1 value ∷ byte_at 0 value ∷ drop (place + 2) bytes)
grouped bytes place value = append_assoc (take place bytes) (bytes16 value) (drop (place + 2) bytes)

byte-at : (bytes : List ℕ) (place more value : ℕ) → place + 1 < length bytes
    → slice_index (with_field16 bytes place value) (place + more) ≡ slice_index (byte_at 1 value ∷ byte_at 0 value ∷ drop (place + 2) bytes) more
byte-at bytes place more value inside =
    let size : length (take place bytes) ≡ place = length-take-le place bytes (omega arith) in
    ap (λ l. slice_index l (place + more)) (grouped bytes place value)
    ∙ ap (λ n. slice_index (take place bytes ++ (byte_at 1 value ∷ byte_at 0 value ∷ drop (place + 2) bytes)) (n + more)) (sym size)
    ∙ get_or-append-add (take place bytes) (byte_at 1 value ∷ byte_at 0 value ∷ drop (place + 2) bytes) more 0

pub field16-with_field16 : (bytes : List ℕ) (place value : ℕ) → place + 1 < length bytes → value < 65536 → field16 (with_field16 bytes place value) place ≡ value
field16-with_field16 bytes place value inside small =
    let here : place + 0 ≡ place = omega arith in
    let high : slice_index (with_field16 bytes place value) place ≡ byte_at 1 value =
    ap (slice_index (with_field16 bytes place value)) (sym here) ∙ byte-at bytes place 0 value inside in
    let low : slice_index (with_field16 bytes place value) (place + 1) ≡ byte_at 0 value = byte-at bytes place 1 value inside in
    ap (λ n. n * 256 + slice_index (with_field16 bytes place value) (place + 1)) high ∙ ap (λ n. byte_at 1 value * 256 + n) low ∙ two-read value small

pub with_field16-twice : (bytes : List ℕ) (place one two : ℕ) → place + 1 < length bytes → with_field16 (with_field16 bytes place one) place two ≡ with_field16 bytes place two
with_field16-twice bytes place one two inside =
    let size : length (take place bytes) ≡ place = length-take-le place bytes (omega arith) in
    let first : take place (with_field16 bytes place one) ≡ take place bytes =
    ap (take place) (grouped bytes place one) ∙ take_at (take place bytes) (byte_at 1 one ∷ byte_at 0 one ∷ drop (place + 2) bytes) place size in
    let last : drop (place + 2) (with_field16 bytes place one) ≡ drop (place + 2) bytes =
    drop_at (take place bytes ++ bytes16 one) (drop (place + 2) bytes) (place + 2) (length-append (take place bytes) (bytes16 one) ∙ ap (λ n. n + 2) size) in
    ap (λ l. l ++ bytes16 two ++ drop (place + 2) (with_field16 bytes place one)) first ∙ ap (λ l. take place bytes ++ bytes16 two ++ l) last

pub field16-take : (bytes : List ℕ) (place k : ℕ) → place + 1 < k → field16 (take k bytes) place ≡ field16 bytes place
field16-take bytes place k inside =
    ap (λ n. n * 256 + slice_index (take k bytes) (place + 1)) (get_or-take k bytes place 0 (omega arith))
    ∙ ap (λ n. slice_index bytes place * 256 + n) (get_or-take k bytes (place + 1) 0 inside)

pub has_field16-take : (bytes : List ℕ) (place k : ℕ) → place + 1 < k → has_field16 (take k bytes) place ≡ has_field16 bytes place
has_field16-take bytes place k inside = let size = length-take k bytes in grind (arith, nat_tests)

-- a field that stands before the cut
pub with_field16-take : (bytes : List ℕ) (place value k : ℕ) → place + 2 ≤ k → place + 1 < length bytes
    → with_field16 (take k bytes) place value ≡ take k (with_field16 bytes place value)
with_field16-take bytes place value k before inside =
    let rest : ℕ = k - (place + 2) in
    let sum : k ≡ place + 2 + rest = omega arith in
    let size : length (take place bytes ++ bytes16 value) ≡ place + 2 =
    length-append (take place bytes) (bytes16 value) ∙ ap (λ n. n + 2) (length-take-le place bytes (omega arith)) in
    let first : take place (take k bytes) ≡ take place bytes = take-take place k bytes (omega arith) in
    let last : drop (place + 2) (take k bytes) ≡ take rest (drop (place + 2) bytes) =
    ap (λ n. drop (place + 2) (take n bytes)) sum ∙ drop-take (place + 2) rest bytes in
    let other : take k (with_field16 bytes place value) ≡ (take place bytes ++ bytes16 value) ++ take rest (drop (place + 2) bytes) =
    ap (λ n. take n (with_field16 bytes place value)) (sum ∙ ap (λ n. n + rest) (sym size)) ∙ take-append-add (take place bytes ++ bytes16 value) (drop (place + 2) bytes) rest in
    ap (λ l. l ++ bytes16 value ++ drop (place + 2) (take k bytes)) first ∙ ap (λ l. take place bytes ++ bytes16 value ++ l) last ∙ sym other

-- a field that is written as it was
two-digits : (high low : ℕ) → high < 256 → low < 256 → (byte_at 1 (high * 256 + low) ≡ high) × (byte_at 0 (high * 256 + low) ≡ low)
two-digits high low small_high small_low = (omega arith, omega arith)

pub with_field16-same : (bytes : List ℕ) (place : ℕ) → AreBytes bytes → place + 1 < length bytes → with_field16 bytes place (field16 bytes place) ≡ bytes
with_field16-same bytes place small inside =
    let digits = two-digits (slice_index bytes place) (slice_index bytes (place + 1)) (small place) (small (place + 1)) in
    let one : drop place bytes ≡ slice_index bytes place ∷ drop (place + 1) bytes = drop_more bytes place 0 (omega arith) in
    let sum : place + 1 + 1 ≡ place + 2 = omega arith in
    let two : drop (place + 1) bytes ≡ slice_index bytes (place + 1) ∷ drop (place + 2) bytes = drop_more bytes (place + 1) 0 inside ∙ ap (λ n. slice_index bytes (place + 1) ∷ drop n bytes) sum in
    grouped bytes place (field16 bytes place)
    ∙ ap (λ n. take place bytes ++ (n ∷ byte_at 0 (field16 bytes place) ∷ drop (place + 2) bytes)) digits.0
    ∙ ap (λ n. take place bytes ++ (slice_index bytes place ∷ n ∷ drop (place + 2) bytes)) digits.1
    ∙ ap (λ l. take place bytes ++ (slice_index bytes place ∷ l)) (sym two) ∙ ap (λ l. take place bytes ++ l) (sym one) ∙ take-append-drop place bytes
