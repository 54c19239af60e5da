-- The new body of an ICMP error, parted, its quote translated, and joined again (RFC 7915 sections 4.3 and 5.3, RFC
-- 4884).
use Rattle.std.specs.Prelude.{ℕ, ◌+◌, ◌%◌, List, [], ◌∷◌, ◌++◌, take, drop, Bool, Result, Ok, Err}
use Rattle.siit_model.specs.Bytes.{field16, bytes16}
use Rattle.siit_model.specs.Checksum.{residue, moved}
use Rattle.siit_model.specs.Extensions.{Walked, Trouble}
use Rattle.siit_v6to4.specs.To4.{walk_in}
use Rattle.siit_quoted.specs.Quoted.{quoted4_fields, quoted6_fields}
use Rattle.siit_quoted.specs.Quotes.{quote_to_6, quote_to_4, quote_turned}
use Rattle.siit_quoted.specs.Bodies.{NewBody, parted, length_octet4, length_octet6, carried_to_6, carried_to_4, joined_to_6, joined_to_4, joined_turned}

-- for an ICMPv4 error that becomes an ICMPv6 error of this type
abbrev pub body_to_6 : (source destination : ℕ) → (tos_zero : Bool) → (kind : ℕ) → List ℕ → NewBody
body_to_6 source destination tos_zero kind message =
    let body = parted 4 (length_octet4 message) (drop 8 message) in
    joined_to_6 (carried_to_6 kind body.extension) (quote_to_6 source destination tos_zero (quoted4_fields body.part))

-- a quote whose walk is accepted; there is none otherwise
abbrev pub quote_by_walk : (Walked → List ℕ) → Result Walked Trouble → List ℕ
quote_by_walk translated (Ok walked) = translated walked
quote_by_walk translated (Err trouble) = []

-- the quote in a part of a body, to IPv4 and turned
abbrev pub part_to_4 : (source destination : ℕ) → (tos_zero : Bool) → (part : List ℕ) → List ℕ
part_to_4 source destination tos_zero part =
    quote_by_walk (λ walked. quote_to_4 source destination tos_zero (quoted6_fields walked part)) (walk_in part)

abbrev pub part_turned : (source destination : ℕ) → (part : List ℕ) → List ℕ
part_turned source destination part =
    quote_by_walk (λ walked. quote_turned source destination (quoted6_fields walked part)) (walk_in part)

-- for an ICMPv6 error that becomes an ICMPv4 error of this type
abbrev pub body_to_4 : (source destination : ℕ) → (tos_zero : Bool) → (kind : ℕ) → List ℕ → NewBody
body_to_4 source destination tos_zero kind message =
    let body = parted 8 (length_octet6 message) (drop 8 message) in
    joined_to_4 (carried_to_4 kind body.extension) (part_to_4 source destination tos_zero body.part)

-- for an ICMPv6 error that is turned: its type stays
abbrev pub body_turned : (source destination : ℕ) → List ℕ → NewBody
body_turned source destination message =
    let body = parted 8 (length_octet6 message) (drop 8 message) in
    joined_turned body.extension (part_turned source destination body.part)

-- The message with a new head and body, and its checksum moved by all that differs, from a pseudo-header of residue
-- `old` to one of residue `new` (RFC 1624). ICMPv4 has none: 0.
abbrev pub error_moved : (old new : ℕ) → (kind code : ℕ) → (rest : List ℕ) → NewBody → List ℕ → List ℕ
error_moved old new kind code rest body message =
    let blank = kind ∷ code ∷ 0 ∷ 0 ∷ rest ++ body.bytes in
    let before = (old + residue (take 2 message ++ 0 ∷ 0 ∷ drop 4 message)) % 65535 in
    kind ∷ code ∷ bytes16 (moved (field16 message 2) before ((new + residue blank) % 65535)) ++ rest ++ body.bytes
