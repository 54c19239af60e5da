-- What a change of bytes does to their residue (RFC 1624).
use Rattle.std.specs.Prelude.{◌≡◌, ℕ, ◌+◌, ◌-◌, ◌%◌, ◌≤◌, List, ◌++◌, length, take, drop, replicate}
use Rattle.siit_model.specs.Checksum.{residue, moved}
use Rattle.siit_model.specs.Upper.{Ends}
use Rattle.siit_v4to6.specs.To6.{upper_to_6}

-- `gone` is the residue of what went, `come` that of what came in its place: without the one and with the other, the
-- residues are equal.
pub record IsDifference (old new : List ℕ) (gone come : ℕ) : Type 0 where
  pub same : (residue old + come) % 65535 ≡ (residue new + gone) % 65535

-- The same of a part that stands alone, or before zeros and an even rest.
pub record IsPartDifference (old new : List ℕ) (gone come : ℕ) : Type 0 where
  pub last : IsDifference old new gone come
  pub before : (rest : List ℕ) (n : ℕ) → length old % 2 ≡ 0 → (length new + n) % 2 ≡ 0
      → IsDifference (old ++ rest) ((new ++ replicate n 0) ++ rest) gone come

-- A quote that is cut, with zeros behind it before an even rest: the sums begin at the even place at or before the cut.
abbrev pub CutQuoteDifference : Type 0
CutQuoteDifference = (quote rest : List ℕ) (kept even n : ℕ)
    → even ≡ kept - kept % 2 → kept ≤ length quote → length quote % 2 ≡ 0 → (kept + n) % 2 ≡ 0
    → IsDifference (quote ++ rest) ((take kept quote ++ replicate n 0) ++ rest)
    (residue (drop even quote)) (residue (drop even (take kept quote)))

-- the same at the end of the message, where nothing has to be even
abbrev pub CutLastDifference : Type 0
CutLastDifference = (quote : List ℕ) (kept even : ℕ) → even ≡ kept - kept % 2 → kept ≤ length quote
    → IsDifference quote (take kept quote) (residue (drop even quote)) (residue (drop even (take kept quote)))

-- A translated upper part differs within its first 18 bytes alone.
abbrev pub UpperBehindStays : Type 0
UpperBehindStays = (protocol : ℕ) (ends : Ends) (whole : ℕ) (part : List ℕ)
    → drop 18 (upper_to_6 protocol ends whole part) ≡ drop 18 part

-- A checksum moved by all of two bodies, beside what else differs between their messages, is moved by what went and
-- what came.
abbrev pub MovedByBodyDifference : Type 0
MovedByBodyDifference = (checksum before after : ℕ) (old new : List ℕ) (gone come : ℕ) → IsDifference old new gone come
    → moved checksum ((before + residue old) % 65535) ((after + residue new) % 65535)
    ≡ moved checksum ((before + gone) % 65535) ((after + come) % 65535)
