-- Where a piece lies in the whole packet, and the header put before it (RFC 791 section 3.2, RFC 8200 section 4.5).
use Rattle.std.specs.Prelude.{◌≡◌, ◌⊎◌, ℕ, ◌+◌, ◌*◌, ◌/◌, ◌%◌, ◌<◌, min, List, ◌++◌, take, Bool, not, ◌||◌, ◌==◌}
use Rattle.siit_model.specs.Bytes.{with_field16, flag_bit}
use Rattle.siit_model.specs.Checksum.{residue, checksum_of}
use Rattle.siit_fragments.specs.declared.cut.CutPlan.{CutPlan}
use Rattle.siit_fragments.specs.declared.cut.Place.{Place}

-- where piece k lies in a packet of so many bytes
pub record IsPlaceOf (len : ℕ) (plan : CutPlan) (k : ℕ) (place : Place) : Type 0 where
  pub header : (plan.header ≡ 20) ⊎ (plan.header ≡ 48)
  pub unit : plan.unit ≡ 8 * (plan.unit / 8)
  pub some : 0 < plan.unit / 8
  pub blocks : place.blocks ≡ k * (plan.unit / 8)
  pub from : place.from ≡ 8 * place.blocks
  pub begins : place.from + plan.header < len
  pub end : place.end ≡ min len (place.from + plan.header + plan.unit)
  pub last : place.last ≡ (place.end == len)

-- The word of flags and offset, so many units of 8 bytes further on. More is set unless this is the last piece of the
-- last fragment.
abbrev pub word_on : (word blocks : ℕ) → (last : Bool) → ℕ
word_on word blocks last =
    word / 16384 * 16384 + flag_bit ((word / 8192 % 2 == 1) || not last) * 8192 + (word % 8192 + blocks)

-- the same in a Fragment header, where the offset stands above three bits
abbrev pub fragment_word_on : (word blocks : ℕ) → (last : Bool) → ℕ
fragment_word_on word blocks last = 8 * (word / 8 + blocks) + flag_bit ((word % 2 == 1) || not last)

-- an IPv4 header before other bytes, with this length, this word of flags and offset, and the right checksum
abbrev pub fronted4 : (header : List ℕ) → (len word : ℕ) → List ℕ → List ℕ
fronted4 header len word rest =
    let plain = with_field16 (with_field16 (with_field16 (header ++ rest) 2 len) 6 word) 10 0 in
    with_field16 plain 10 (checksum_of (residue (take 20 plain)))

-- an IPv6 header and a Fragment header before other bytes, with this payload length and this word of the latter
abbrev pub fronted6 : (headers : List ℕ) → (len word : ℕ) → List ℕ → List ℕ
fronted6 headers len word rest = with_field16 (with_field16 (headers ++ rest) 4 len) 42 word
