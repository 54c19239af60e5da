-- Outputs that are written anew.
use Rattle.std.specs.Prelude.{◌≡◌, ℕ, ◌≤◌, List, [], length, take, Option, Some, None, IsTrue}
use Rattle.siit_word.specs.Files.{FilesMeaning, Holds, HoldsPart, WriteFailed, Written, WrittenPart}
use Rattle.siit_chain.specs.declared.origin.Output.{Output}

-- Each named file holds its text.
pub record HoldTexts (names : Output → Option (List ℕ)) (now : FilesMeaning) (texts : Output → List ℕ) : Type 0 where
  pub each : (o : Output) (name : List ℕ) → names o ≡ Some name → Holds now name (texts o)

-- Each named file is as before, or holds a part of its text, from its start.
pub record HoldParts (names : Output → Option (List ℕ)) (before now : FilesMeaning) (texts : Output → List ℕ) : Type 0 where
  pub each : (o : Output) (name : List ℕ) → names o ≡ Some name → HoldsPart before now name (texts o)

-- Each named file holds all of one text, and perhaps a part of what a longer one adds to it.
pub record HoldBetween (names : Output → Option (List ℕ)) (now : FilesMeaning) (least most : Output → List ℕ) : Type 0 where
  pub each : (o : Output) (name : List ℕ) → names o ≡ Some name → IsTrue (now.told name)
      → (n : ℕ) × (length (least o) ≤ n) × (n ≤ length (most o)) × (now.contents name ≡ Some (take n (most o)))

-- A file was made to hold no bytes, where it is named.
abbrev pub IsMade : (before now : FilesMeaning) → Option (List ℕ) → Type 0
IsMade before now None = now ≡ before
IsMade before now (Some name) = Written before now name []

-- It wasn't: it is as before, or holds no bytes.
abbrev pub IsNotMade : (before now : FilesMeaning) → Option (List ℕ) → Type 0
IsNotMade before now None = ⊥
IsNotMade before now (Some name) = WrittenPart before now name [] × WriteFailed before now name
