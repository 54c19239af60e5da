-- What files mean, and what the calls on them do, by a file's name.
use Rattle.std.specs.Prelude.{◌≡◌, ◌≢◌, ◌⊎◌, ℕ, ◌+◌, ◌-◌, ◌≤◌, ◌<◌, ◌^◌, min, max, List, [], ◌∷◌, ◌++◌, length, take, drop, Bool, Option, Some, None, option_map, if◌then◌else◌, ◌==◌, unwrap_or, IsTrue}
use Rattle.siit_word.specs.Causes.{NeverFalls, Rose}

-- what is known of files, each by its name
pub record FilesMeaning : Type 0 where
  -- whether the bytes of the file are told
  pub told : List ℕ → Bool
  -- what a told file holds, or `None` where there is no such file
  pub contents : List ℕ → Option (List ℕ)
  -- how far the file was read, in bytes from its start, where this is told
  pub given : List ℕ → Option ℕ
  -- how often reading the file has failed, and writing it
  pub read_faults : List ℕ → ℕ
  pub write_faults : List ℕ → ℕ

-- at every name the same
abbrev pub Stays : {X : Type 0} → (List ℕ → X) → (List ℕ → X) → Type 0
Stays old new = (q : List ℕ) → new q ≡ old q

-- at every name but this one the same
abbrev pub StaysBut : {X : Type 0} → List ℕ → (List ℕ → X) → (List ℕ → X) → Type 0
StaysBut name old new = (q : List ℕ) → q ≢ name → new q ≡ old q

-- the name is none of these
abbrev pub IsNoneOf : List ℕ → List (List ℕ) → Type 0
IsNoneOf q [] = Unit {0}
IsNoneOf q (name ∷ names) = (q ≢ name) × IsNoneOf q names

-- Of all files, only those of `reads` were read, and only those of `writes` were written. Whether a file is told stays,
-- and no count of faults falls.
pub record Touches (before after : FilesMeaning) (reads writes : List (List ℕ)) : Type 0 where
  pub told : Stays before.told after.told
  pub contents : (q : List ℕ) → IsNoneOf q writes → after.contents q ≡ before.contents q
  pub given : (q : List ℕ) → IsNoneOf q reads → after.given q ≡ before.given q
  pub read_faults : NeverFalls before.read_faults after.read_faults
  pub write_faults : NeverFalls before.write_faults after.write_faults

-- a call in which reading a file failed, or writing it
abbrev pub ReadFailed : (before after : FilesMeaning) (name : List ℕ) → Type 0
ReadFailed before after name = Rose (before.read_faults name) (after.read_faults name)

abbrev pub WriteFailed : (before after : FilesMeaning) (name : List ℕ) → Type 0
WriteFailed before after name = Rose (before.write_faults name) (after.write_faults name)

-- the bytes of a file that there may be
abbrev pub held : Option (List ℕ) → List ℕ
held file = unwrap_or file []

-- a file's length is a `u64`
abbrev pub IsSmall : Option (List ℕ) → Type 0
IsSmall file = length (held file) < 2 ^ 64

-- `into` begins with n bytes of the file from a place on. None, for a slice that isn't empty, means that the file ends
-- there.
abbrev pub Copies : Option (List ℕ) → ℕ → ℕ → List ℕ → Type 0
Copies None at n into = ⊥
Copies (Some bytes) at n into = (take n into ≡ take n (drop at bytes)) × (n ≤ length bytes - at) × (n ≡ 0 → 0 < length into → length bytes ≤ at)

-- how far a file was read, after a read of n bytes at a place
abbrev pub raised : ℕ → ℕ → ℕ → ℕ
raised at n given = if n == 0 then given else max given (at + n)

-- n bytes of the file, from the place `at` on, were copied to the front of `into`.
pub record Copied (before after : FilesMeaning) (name : List ℕ) (at : ℕ) (into : List ℕ) (n : ℕ) : Type 0 where
  pub bytes : IsTrue (before.told name) → Copies (before.contents name) at n into
  pub small : IsTrue (before.told name) → IsSmall (before.contents name)
  pub given : after.given name ≡ option_map (raised at n) (before.given name)

-- nothing was copied, and reading failed
pub record NotCopied (before after : FilesMeaning) (name : List ℕ) : Type 0 where
  pub cause : ReadFailed before after name
  pub given : after.given name ≡ before.given name

-- The first n of the bytes were added to the file: at least one, where there are some. A missing file was made.
pub record Added (before after : FilesMeaning) (name bytes : List ℕ) (n : ℕ) : Type 0 where
  pub some : min 1 (length bytes) ≤ n
  pub file : IsTrue (after.told name) → after.contents name ≡ Some (held (before.contents name) ++ take n bytes)
  pub small : IsTrue (after.told name) → IsSmall (after.contents name)

-- nothing was added, and writing failed
pub record NotAdded (before after : FilesMeaning) (name : List ℕ) : Type 0 where
  pub cause : WriteFailed before after name
  pub file : IsTrue (after.told name) → after.contents name ≡ before.contents name

-- A file with bytes appended. A missing file is made by them, and stays missing where there are none.
abbrev pub grown : Option (List ℕ) → List ℕ → Option (List ℕ)
grown (Some held) bytes = Some (held ++ bytes)
grown None [] = None
grown None (first ∷ rest) = Some (first ∷ rest)

-- The file holds this text.
abbrev pub Holds : FilesMeaning → (name text : List ℕ) → Type 0
Holds files name text = IsTrue (files.told name) → files.contents name ≡ Some text

-- The file is as before, or holds a part of this text, from its start.
abbrev pub HoldsPart : (before after : FilesMeaning) (name text : List ℕ) → Type 0
HoldsPart before after name text =
    IsTrue (after.told name) → (after.contents name ≡ before.contents name) ⊎ ((n : ℕ) × (n ≤ length text) × (after.contents name ≡ Some (take n text)))

-- The bytes were appended to this file, or a part of them. No other file was written, and none was read.
pub record Appended (before after : FilesMeaning) (name bytes : List ℕ) : Type 0 where
  pub only : Touches before after [] (name ∷ [])
  pub file : IsTrue (after.told name) → after.contents name ≡ grown (before.contents name) bytes

pub record AppendedPart (before after : FilesMeaning) (name bytes : List ℕ) : Type 0 where
  pub only : Touches before after [] (name ∷ [])
  pub file : IsTrue (after.told name) → (n : ℕ) × (n ≤ length bytes) × (after.contents name ≡ grown (before.contents name) (take n bytes))

-- The file was written anew with this text, or a part of it. No other file was written, and none was read.
pub record Written (before after : FilesMeaning) (name text : List ℕ) : Type 0 where
  pub only : Touches before after [] (name ∷ [])
  pub file : Holds after name text

pub record WrittenPart (before after : FilesMeaning) (name text : List ℕ) : Type 0 where
  pub only : Touches before after [] (name ∷ [])
  pub file : HoldsPart before after name text
