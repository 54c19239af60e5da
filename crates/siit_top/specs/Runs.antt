-- A run of the program.
use Rattle.std.specs.Prelude.{◌≡◌, ◌⊎◌, ℕ, List, [], ◌∷◌, IsTrue}
use Rattle.siit_word.specs.Causes.{Rose}
use Rattle.siit_word.specs.Files.{FilesMeaning, Stays, WriteFailed}
use Rattle.siit_top.specs.declared.commands.ends.Stopped.{Stopped}
use Rattle.siit_top.specs.declared.commands.ends.Stopped.TheVariants as stopped
use Rattle.siit_top.specs.declared.status.Status.{Status}

-- the outside before and after the run, and how it ended
pub record Run : Type 0 where
  -- the files
  pub before : FilesMeaning
  pub after : FilesMeaning
  -- the identifications to come, by device and by how many stand before
  pub coming_before : ℕ → ℕ → ℕ
  pub coming_after : ℕ → ℕ → ℕ
  -- what is printed
  pub out_before : List ℕ
  pub out_after : List ℕ
  pub status : Status

abbrev pub run_between : (before after : FilesMeaning) (coming_before coming_after : ℕ → ℕ → ℕ) (out_before out_after : List ℕ)
    → Status → Run
run_between before after coming_before coming_after out_before out_after status = record {
  before = before;
  after = after;
  coming_before = coming_before;
  coming_after = coming_after;
  out_before = out_before;
  out_after = out_after;
  status = status;
}

-- at one of these names the count rose
abbrev pub SomeRose : (names : List (List ℕ)) (before after : List ℕ → ℕ) → Type 0
SomeRose [] before after = ⊥
SomeRose (name ∷ names) before after = Rose (before name) (after name) ⊎ SomeRose names before after

-- each of these files is told
abbrev pub AllTold : (names : List (List ℕ)) → FilesMeaning → Type 0
AllTold [] files = Unit {0}
AllTold (name ∷ names) files = IsTrue (files.told name) × AllTold names files

-- why a file wasn't written to its end
abbrev pub IsStopped : (before after : FilesMeaning) (name : List ℕ) → Stopped → Type 0
IsStopped before after name stopped.Failed = WriteFailed before after name
IsStopped before after name stopped.NoMemory = Unit {0}

-- No file was written.
abbrev pub Unwritten : Run → Type 0
Unwritten run = Stays run.before.contents run.after.contents

-- No identification was taken.
abbrev pub AreUntaken : Run → Type 0
AreUntaken run = (device k : ℕ) → run.coming_after device k ≡ run.coming_before device k
