-- The written form of a capture: little-endian, nanoseconds, IP packets of either version.
use Rattle.std.specs.Prelude.{◌≡◌, ℕ, ◌^◌, ◌<◌, ◌≤◌, List, [], ◌∷◌, ◌++◌, length}
use Rattle.std.specs.Int.{bytes_low_first}
use Rattle.std.specs.List.{flat_map}
use Rattle.siit_capture.specs.Records.{Record, most_captured}
use Rattle.siit_capture.specs.declared.form.LinkType.TheVariants.{Raw}

-- a number in four bytes, the lowest first
abbrev pub little_bytes32 : ℕ → List ℕ
little_bytes32 value = bytes_low_first 0 4 value

-- magic of nanoseconds, version 2.4, eight zero bytes, snapshot length 262,144, link type 101
abbrev pub written_head : List ℕ
written_head =
    0x4d ∷ 0x3c ∷ 0xb2 ∷ 0xa1 ∷ 0x02 ∷ 0x00 ∷ 0x04 ∷ 0x00 ∷ 0x00 ∷ 0x00 ∷ 0x00 ∷ 0x00
    ∷ 0x00 ∷ 0x00 ∷ 0x00 ∷ 0x00 ∷ 0x00 ∷ 0x00 ∷ 0x04 ∷ 0x00 ∷ 0x65 ∷ 0x00 ∷ 0x00 ∷ 0x00 ∷ []

-- the time of a record, and twice the length of its packet
abbrev pub written_record_head : (seconds nanoseconds len : ℕ) → List ℕ
written_record_head seconds nanoseconds len =
    little_bytes32 seconds ++ little_bytes32 nanoseconds ++ little_bytes32 len ++ little_bytes32 len

abbrev pub written_record : Record → List ℕ
written_record found = written_record_head found.seconds found.nanoseconds (length found.bytes) ++ found.bytes

abbrev pub written_capture : List Record → List ℕ
written_capture records = written_head ++ flat_map written_record records

-- A record that the written form can tell.
pub record IsWritable (found : Record) : Type 0 where
  pub link : found.link ≡ Raw
  pub seconds : found.seconds < 2 ^ 32
  pub nanoseconds : found.nanoseconds < 1000000000
  pub bytes : length found.bytes ≤ most_captured
