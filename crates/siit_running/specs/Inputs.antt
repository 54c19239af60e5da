-- The captures that a run carries, and the run over their records.
use Rattle.std.specs.Prelude.{ℕ, ◌<◌, ◌≤◌, List, ◌++◌, length, Option, Some, None, IsTrue}
use Rattle.std.specs.Option.{option_copied}
use Rattle.siit_word.specs.Files.{FilesMeaning, IsNoneOf, ReadFailed, held}
use Rattle.siit_capture.specs.Captures.{Records, ended, records_of}
use Rattle.siit_chain.specs.Carried.{Chain}
use Rattle.siit_chain.specs.Outputs.{some_name}
use Rattle.siit_chain.specs.declared.origin.End.{End}
use Rattle.siit_chain.specs.declared.origin.End.TheVariants.{Left, Right}
use Rattle.siit_run.specs.Runs.{Run, run_of, started}
use Rattle.siit_running.specs.declared.inputs.Inputs.{Inputs}

-- the name of the file that holds the capture of an end, if any
abbrev pub input_name : Inputs → End → Option (List ℕ)
input_name inputs Left = option_copied inputs.left
input_name inputs Right = option_copied inputs.right

-- the names of all files that hold captures
abbrev pub names_of : (names : End → Option (List ℕ)) → List (List ℕ)
names_of names = some_name (names Left) ++ some_name (names Right)

-- the records of a capture; where no file is named there are none
abbrev pub records_named : FilesMeaning → Option (List ℕ) → Records
records_named files None = ended
records_named files (Some name) = records_of (held (files.contents name))

abbrev pub IsTold : FilesMeaning → Option (List ℕ) → Type 0
IsTold files None = Unit {0}
IsTold files (Some name) = IsTrue (files.told name)

-- Of both captures it is told what they hold.
abbrev pub AreTold : FilesMeaning → (names : End → Option (List ℕ)) → Type 0
AreTold files names = (end : End) → IsTold files (names end)

abbrev pub IsApart : Option (List ℕ) → (others : List (List ℕ)) → Type 0
IsApart None others = Unit {0}
IsApart (Some name) others = IsNoneOf name others

-- No capture is in one of these files.
abbrev pub AreNoneOf : (names : End → Option (List ℕ)) → (others : List (List ℕ)) → Type 0
AreNoneOf names others = (end : End) → IsApart (names end) others

-- reading the file of a capture failed
abbrev pub ReadFailedAt : (before after : FilesMeaning) → Option (List ℕ) → Type 0
ReadFailedAt before after None = ⊥
ReadFailedAt before after (Some name) = ReadFailed before after name

-- The file of a capture has more bytes than a capture may have.
abbrev pub IsTooLong : FilesMeaning → Option (List ℕ) → Type 0
IsTooLong files None = ⊥
IsTooLong files (Some name) = IsTrue (files.told name) → 4294967296 < length (held (files.contents name))

-- It has no more bytes than that.
abbrev pub IsWithin : FilesMeaning → Option (List ℕ) → Type 0
IsWithin files None = Unit {0}
IsWithin files (Some name) = length (held (files.contents name)) ≤ 4294967296

-- the run over both captures before its first turn, where these numbers are to come
abbrev pub started_run : (coming : ℕ → ℕ → ℕ) → FilesMeaning → (names : End → Option (List ℕ)) → Run
started_run coming files names = started coming (records_named files (names Left)) (records_named files (names Right))

-- the whole run over both captures
abbrev pub whole_run : {D : Type 0} → Chain D → (coming : ℕ → ℕ → ℕ) → FilesMeaning → (names : End → Option (List ℕ)) → Run
whole_run chain coming files names = run_of chain coming (records_named files (names Left)) (records_named files (names Right))
