-- Files that grow by the texts that are written to them.
use Rattle.std.specs.Prelude.{◌≡◌, ℕ, ◌≤◌, List, [], ◌∷◌, ◌++◌, length, take, Option, Some, None, IsTrue, if◌then◌else◌}
use Rattle.std.specs.Option.{option_copied}
use Rattle.siit_word.specs.Files.{FilesMeaning, WriteFailed, grown}
use Rattle.siit_chain.specs.Log.{is_output}
use Rattle.siit_chain.specs.declared.origin.Output.{Output}
use Rattle.siit_chain.specs.declared.origin.Output.TheVariants.{Left, Right, Report}
use Rattle.siit_chain.specs.declared.origin.Outs.{Outs}

-- the name of the file that takes a text, if any
abbrev pub name_in : Outs → Output → Option (List ℕ)
name_in outs Left = option_copied outs.left
name_in outs Right = option_copied outs.right
name_in outs Report = option_copied outs.report

abbrev pub some_name : Option (List ℕ) → List (List ℕ)
some_name None = []
some_name (Some name) = name ∷ []

-- all names of files that take texts
abbrev pub names_in : Outs → List (List ℕ)
names_in outs = some_name (name_in outs Left) ++ some_name (name_in outs Right) ++ some_name (name_in outs Report)

-- No two texts have one file.
abbrev pub AreApart : (names : Output → Option (List ℕ)) → Type 0
AreApart names = (o q : Output) (name : List ℕ) → names o ≡ Some name → names q ≡ Some name → o ≡ q

-- bytes for one of the texts alone
abbrev pub only : Output → List ℕ → Output → List ℕ
only output bytes o = if is_output o output then bytes else []

-- Each named file grew by its text.
pub record GrewBy (names : Output → Option (List ℕ)) (before after : FilesMeaning) (texts : Output → List ℕ) : Type 0 where
  pub each : (o : Output) (name : List ℕ) → names o ≡ Some name → IsTrue (before.told name)
      → after.contents name ≡ grown (before.contents name) (texts o)

-- Each named file grew by a part of its text, from its start.
pub record GrewByPart (names : Output → Option (List ℕ)) (before after : FilesMeaning) (texts : Output → List ℕ) : Type 0 where
  pub each : (o : Output) (name : List ℕ) → names o ≡ Some name → IsTrue (before.told name)
      → (n : ℕ) × (n ≤ length (texts o)) × (after.contents name ≡ grown (before.contents name) (take n (texts o)))

-- Writing one of the named files failed.
pub record WriteFailedIn (names : Output → Option (List ℕ)) (before after : FilesMeaning) : Type 0 where
  pub output : Output
  pub name : List ℕ
  pub named : names output ≡ Some name
  pub failed : WriteFailed before after name
