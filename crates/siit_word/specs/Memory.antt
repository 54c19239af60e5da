-- What files in memory hold.
use Rattle.std.specs.Prelude.{◌≡◌, ℕ, List, true, Contains, Option, Some, None, IsSome, option_map}
use Rattle.std.specs.Option.{option_map_or}
use Rattle.std.specs.BTreeMap.{get_by_text}
use Rattle.siit_word.specs.Causes.{next_count}
use Rattle.siit_word.specs.Files.{FilesMeaning, Stays, StaysBut}
use Rattle.siit_word.specs.declared.memory.MemFile.{MemFile}
use Rattle.siit_word.specs.declared.memory.MemFiles.{MemFiles}

abbrev pub file_at : MemFiles → List ℕ → Option MemFile
file_at m q = get_by_text m.files q

abbrev pub contents_of : MemFiles → List ℕ → Option (List ℕ)
contents_of m q = option_map (λ f. f.bytes.items) (file_at m q)

-- how far a file was read
abbrev pub given_of : MemFiles → List ℕ → ℕ
given_of m q = option_map_or (λ f. f.given) (file_at m q) 0

-- The counts of faults. Names without a file share one pair.
abbrev pub read_faults_of : MemFiles → List ℕ → ℕ
read_faults_of m q = option_map_or (λ f. f.read_faults) (file_at m q) m.read_faults

abbrev pub write_faults_of : MemFiles → List ℕ → ℕ
write_faults_of m q = option_map_or (λ f. f.write_faults) (file_at m q) m.write_faults

-- Every name is told.
abbrev pub meaning_of : MemFiles → FilesMeaning
meaning_of m = record {
  told = λ q. true;
  contents = contents_of m;
  given = λ q. Some (given_of m q);
  read_faults = read_faults_of m;
  write_faults = write_faults_of m;
}

-- the number of the next call
abbrev pub calls_of : MemFiles → ℕ
calls_of m = m.calls

-- the numbers of the calls that are to fail
abbrev pub fails_of : MemFiles → List ℕ
fails_of m = m.fails.items

-- the next call is one that is to fail
abbrev pub IsToFail : MemFiles → Type 0
IsToFail m = Contains (fails_of m) (calls_of m)

-- how often memory refused a growth
abbrev pub starved_of : MemFiles → ℕ
starved_of m = m.starved

-- which calls fail, and what memory refused, is as before
pub record KeepsCalls (old new : MemFiles) : Type 0 where
  pub calls : calls_of new ≡ calls_of old
  pub fails : fails_of new ≡ fails_of old
  pub starved : starved_of new ≡ starved_of old

-- the files and their counts are as before
pub record KeepsFiles (old new : MemFiles) : Type 0 where
  pub contents : Stays (contents_of old) (contents_of new)
  pub given : Stays (given_of old) (given_of new)
  pub reads : Stays (read_faults_of old) (read_faults_of new)
  pub writes : Stays (write_faults_of old) (write_faults_of new)

-- the count of this name rose, and of no other
abbrev pub RaisedFor : (name : List ℕ) (before after : List ℕ → ℕ) → Type 0
RaisedFor name before after = (after name ≡ next_count (before name)) × StaysBut name before after

-- the one count of all names without a file rose, and that of no file
pub record RaisedForMissing (files : MemFiles) (before after : List ℕ → ℕ) : Type 0 where
  pub present : (q : List ℕ) → IsSome (contents_of files q) → after q ≡ before q
  pub missing : (q : List ℕ) → contents_of files q ≡ None → after q ≡ next_count (before q)

-- A call on this name failed, which raised the count of its file alone, or that of all names without a file.
pub record RaisedBy (files : MemFiles) (name : List ℕ) (before after : List ℕ → ℕ) : Type 0 where
  pub present : IsSome (contents_of files name) → RaisedFor name before after
  pub missing : contents_of files name ≡ None → RaisedForMissing files before after
