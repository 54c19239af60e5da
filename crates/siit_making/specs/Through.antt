-- Files with a generated capture in place of one of them.
use Rattle.std.specs.Prelude.{ℕ, zero, suc, List, [], ◌∷◌, Bool, true, false, ◌==◌, Option, Some, None, if◌then◌else◌}
use Rattle.std.specs.Str.{bytes_eq}
use Rattle.siit_word.specs.Causes.{last_count}
use Rattle.siit_word.specs.Files.{FilesMeaning}

-- what a name stands for
pub data Sight : Type 0 where
  -- the file of this name, as it is
  file : (q : List ℕ) → Sight
  -- the generated capture
  capture : Sight
  -- the reference by which the files are reached
  reference : Sight
  nothing : Sight

abbrev pub told_by : Sight → FilesMeaning → Bool
told_by (file q) files = files.told q
told_by capture files = true
told_by reference files = true
told_by nothing files = false

abbrev pub contents_by : Sight → FilesMeaning → (bytes : List ℕ) → Option (List ℕ)
contents_by (file q) files bytes = files.contents q
contents_by capture files bytes = Some bytes
contents_by reference files bytes = None
contents_by nothing files bytes = None

-- It isn't told how far the capture was read.
abbrev pub given_by : Sight → FilesMeaning → Option ℕ
given_by (file q) files = files.given q
given_by capture files = None
given_by reference files = None
given_by nothing files = None

-- Reading the capture never fails.
abbrev pub read_faults_by : Sight → FilesMeaning → ℕ
read_faults_by (file q) files = files.read_faults q
read_faults_by capture files = 0
read_faults_by reference files = 0
read_faults_by nothing files = 0

-- Writing it always fails: its count stands at the last value.
abbrev pub write_faults_by : Sight → FilesMeaning → ℕ
write_faults_by (file q) files = files.write_faults q
write_faults_by capture files = last_count
write_faults_by reference files = 0
write_faults_by nothing files = 0

-- files as they are seen, where the capture has these bytes
abbrev pub seen : (List ℕ → Sight) → FilesMeaning → (bytes : List ℕ) → FilesMeaning
seen sight files bytes = record {
  told = λ q. told_by (sight q) files;
  contents = λ q. contents_by (sight q) files bytes;
  given = λ q. given_by (sight q) files;
  read_faults = λ q. read_faults_by (sight q) files;
  write_faults = λ q. write_faults_by (sight q) files;
}

-- one name stands for the capture, and each other one for its file
abbrev pub plain_sight : (name q : List ℕ) → Sight
plain_sight name q = if bytes_eq q name then capture else file q

-- The file of this name shows these bytes, and all others are as they are.
abbrev pub with_capture : FilesMeaning → (name bytes : List ℕ) → FilesMeaning
with_capture files name bytes = seen (plain_sight name) files bytes

-- MARKS

-- A list that begins with a number that is no byte is no text, and so no name that a call is given. Such marks tell who
-- hands out a reference to files, and gets it back, what isn't seen otherwise: what the hidden file holds, and whether
-- it is this reference still.
abbrev pub no_byte : ℕ
no_byte = 256

-- the mark of the hidden file
abbrev pub hidden_mark : List ℕ
hidden_mark = no_byte ∷ 1 ∷ []

-- that of a file whose name itself begins so
abbrev pub other_mark : (rest : List ℕ) → List ℕ
other_mark rest = no_byte ∷ 0 ∷ rest

-- that of the reference of this number, by which the files are reached
abbrev pub reference_mark : (number : ℕ) (name : List ℕ) → List ℕ
reference_mark number name = no_byte ∷ 2 ∷ number ∷ name

abbrev pub sight_of_mark : (number : ℕ) (name mark : List ℕ) → Sight
sight_of_mark number name [] = nothing
sight_of_mark number name (zero ∷ rest) = file (no_byte ∷ rest)
sight_of_mark number name (suc zero ∷ rest) = file name
sight_of_mark number name (suc (suc kind) ∷ rest) = if bytes_eq rest (number ∷ name) then reference else nothing

abbrev pub marked_sight : (number : ℕ) (name q : List ℕ) → Sight
marked_sight number name [] = plain_sight name []
marked_sight number name (first ∷ rest) = if first == no_byte then sight_of_mark number name rest else plain_sight name (first ∷ rest)

-- The file of this name shows these bytes, and marks tell of it and of the reference of this number.
abbrev pub with_marks : (number : ℕ) → FilesMeaning → (name bytes : List ℕ) → FilesMeaning
with_marks number files name bytes = seen (marked_sight number name) files bytes
