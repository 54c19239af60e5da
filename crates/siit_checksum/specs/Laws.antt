-- Laws of residues (RFC 1071) and of moved checksums (RFC 1624).
use Rattle.std.specs.Prelude.{◌≡◌, ℕ, ◌+◌, ◌%◌, ◌<◌, ◌≤◌, List, ◌++◌, length, take, drop}
use Rattle.siit_model.specs.Bytes.{field16, with_field16}
use Rattle.siit_model.specs.Checksum.{residue, moved, moved_udp, moved_between, without_zero}

-- the residue of bytes that stand behind an even number of others
abbrev pub JoinedResidue : Type 0
JoinedResidue = (front back : List ℕ) → length front % 2 ≡ 0 → residue (front ++ back) ≡ (residue front + residue back) % 65535

-- the residue of bytes that are cut at an even place
abbrev pub CutResidue : Type 0
CutResidue = (bytes : List ℕ) (place : ℕ) → place % 2 ≡ 0 → residue bytes ≡ (residue (take place bytes) + residue (drop place bytes)) % 65535

-- a word at an even place that is changed changes the residue by as much
abbrev pub ChangedWordResidue : Type 0
ChangedWordResidue = (bytes : List ℕ) (place value : ℕ) → place % 2 ≡ 0 → place + 2 ≤ length bytes → value < 65536
    → (residue (with_field16 bytes place value) + field16 bytes place) % 65535 ≡ (residue bytes + value) % 65535

-- A part at an even place that is changed changes the residue by as much, whatever stands on both sides of it.
abbrev pub ChangedPartResidue : Type 0
ChangedPartResidue = (front old new back : List ℕ) → length front % 2 ≡ 0 → length old % 2 ≡ 0 → length new % 2 ≡ 0
    → (residue (front ++ old ++ back) + residue new) % 65535 ≡ (residue (front ++ new ++ back) + residue old) % 65535

-- A moved checksum hangs on the difference of both residues alone, so that what is the same in both may be left out of
-- both.
abbrev pub MovedByDifference : Type 0
MovedByDifference = (checksum old new other_old other_new : ℕ) → new ≤ 65535 → other_new ≤ 65535
    → (old + other_new) % 65535 ≡ (other_old + new) % 65535 → moved checksum old new ≡ moved checksum other_old other_new

abbrev pub OnlyDifferencesCount : Type 0
OnlyDifferencesCount = (checksum old new same : ℕ) → old ≤ 65535 → new ≤ 65535
    → moved checksum ((old + same) % 65535) ((new + same) % 65535) ≡ moved checksum old new

-- a checksum that is moved twice: the changes add up
abbrev pub MovedInTurn : Type 0
MovedInTurn = (checksum old new other_old other_new : ℕ) → new ≤ 65535 → other_new ≤ 65535
    → moved (moved checksum old new) other_old other_new ≡ moved checksum ((old + other_old) % 65535) ((new + other_new) % 65535)

-- With the checksum moved between them, the residue of pseudo-header and bytes is the same before and after, whether it
-- was right or wrong.
abbrev pub MovedBetweenKeepsResidue : Type 0
MovedBetweenKeepsResidue = (place old_pseudo new_pseudo : ℕ) (old new : List ℕ) → place % 2 ≡ 0 → place + 2 ≤ length old → place + 2 ≤ length new
    → (new_pseudo + residue (with_field16 new place (moved_between place old_pseudo new_pseudo old new))) % 65535 ≡ (old_pseudo + residue old) % 65535

-- the same of a UDP checksum
abbrev pub MovedUdpBetweenKeepsResidue : Type 0
MovedUdpBetweenKeepsResidue = (place old_pseudo new_pseudo : ℕ) (old new : List ℕ) → place % 2 ≡ 0 → place + 2 ≤ length old → place + 2 ≤ length new
    → (new_pseudo + residue (with_field16 new place (without_zero (moved_between place old_pseudo new_pseudo old new)))) % 65535
    ≡ (old_pseudo + residue old) % 65535

-- A checksum that is moved from one residue to another and then back has its first residue again, whether it was right
-- or wrong.
abbrev pub MovedAndBack : Type 0
MovedAndBack = (checksum old new : ℕ) → old ≤ 65535 → new ≤ 65535 → moved (moved checksum old new) new old ≡ checksum % 65535

-- the same of a UDP checksum
abbrev pub MovedUdpAndBack : Type 0
MovedUdpAndBack = (checksum old new : ℕ) → old ≤ 65535 → new ≤ 65535
    → moved_udp (moved_udp checksum old new) new old % 65535 ≡ checksum % 65535
