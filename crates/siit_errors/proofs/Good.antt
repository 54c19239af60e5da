-- Errors have a written form.
use Rattle.std.proofs.Common.{◌≡◌, ℕ, ◌+◌, ◌^◌, ◌<◌, ◌≤◌, List, [], ◌∷◌, ◌++◌, length, min, arith}
use Rattle.std.specs.Int.{byte_at}
use Rattle.std.proofs.lemmas.List.{length-take}
use Rattle.siit_model.specs.Bytes.{AreBytes, bytes16, bytes32, field32, field128}
use Rattle.siit_model.specs.Ipv4.{total_length_in}
use Rattle.siit_model.specs.Ipv6.{payload_length_in}
use Rattle.siit_checksum.proofs.Fields.{bytes-append, bytes-bytes16, bytes-cons, bytes-take}
use Rattle.siit_errors.specs.Errors.{message, quote4, quote6}
use Rattle.siit_errors.specs.Laws.{ErrorsAreGood4, ErrorsAreGood6}

bytes-bytes32 : (value : ℕ) → AreBytes (bytes32 value)
bytes-bytes32 value = bytes-append (byte_at 3 value ∷ byte_at 2 value ∷ []) (bytes16 value)
    (bytes-cons (byte_at 3 value) (byte_at 2 value ∷ []) (omega arith) (bytes-cons (byte_at 2 value) [] (omega arith) (λ (place : ℕ). omega arith)))
    (bytes-bytes16 value)

-- a message consists of bytes, and is 8 bytes longer than its quote
message-bytes : (kind code checksum rest : ℕ) (quote : List ℕ) → kind < 256 → code < 256 → AreBytes quote → AreBytes (message kind code checksum rest quote)
message-bytes kind code checksum rest quote small smaller quoted =
    bytes-cons kind (code ∷ bytes16 checksum ++ bytes32 rest ++ quote) small
    (bytes-cons code (bytes16 checksum ++ bytes32 rest ++ quote) smaller
    (bytes-append (bytes16 checksum ++ bytes32 rest) quote (bytes-append (bytes16 checksum) (bytes32 rest) (bytes-bytes16 checksum) (bytes-bytes32 rest)) quoted))

pub message-length : (kind code checksum rest : ℕ) (quote : List ℕ) → length (message kind code checksum rest quote) ≡ 8 + length quote
message-length kind code checksum rest quote = omega arith

quote4-most : (bytes : List ℕ) → length (quote4 bytes) ≤ 548
quote4-most bytes = omega (arith, length-take (min (total_length_in bytes) 548) bytes)

quote6-most : (bytes : List ℕ) → length (quote6 bytes) ≤ 1232
quote6-most bytes = omega (arith, length-take (min (40 + payload_length_in bytes) 1232) bytes)

field32-small : (bytes : List ℕ) (place : ℕ) → AreBytes bytes → field32 bytes place < 2 ^ 32
field32-small bytes place small = omega (arith, small place, small (place + 1), small (place + 2), small (place + 2 + 1))

field128-small : (bytes : List ℕ) (place : ℕ) → AreBytes bytes → field128 bytes place < 2 ^ 128
field128-small bytes place small =
    omega (arith, field32-small bytes place small, field32-small bytes (place + 4) small, field32-small bytes (place + 8) small, field32-small bytes (place + 12) small)

pub errors_good4 : ErrorsAreGood4
errors_good4 source kind code rest bytes small from kinds codes = record {
  tos = omega arith;
  id = omega arith;
  df = omega arith;
  mf = omega arith;
  offset = omega arith;
  ttl = omega arith;
  protocol = omega arith;
  source = from;
  destination = field32-small bytes 12 small;
  whole_words = omega arith;
  few_options = omega arith;
  fits = omega (arith, message-length kind code 0 rest (quote4 bytes), quote4-most bytes);
  option_bytes = λ (place : ℕ). omega arith;
  payload_bytes = message-bytes kind code _ rest (quote4 bytes) kinds codes (bytes-take (min (total_length_in bytes) 548) bytes small);
}

pub errors_good6 : ErrorsAreGood6
errors_good6 source kind code rest bytes small from kinds codes = record {
  class = omega arith;
  flow = omega arith;
  hop = omega arith;
  source = from;
  destination = field128-small bytes 8 small;
  next = omega arith;
  fits = omega (arith, message-length kind code 0 rest (quote6 bytes), quote6-most bytes);
  bytes = message-bytes kind code _ rest (quote6 bytes) kinds codes (bytes-take (min (40 + payload_length_in bytes) 1232) bytes small);
}
