-- A capture that was carried in part, and what its source knows of the rest.
use Rattle.std.specs.Prelude.{◌≡◌, ℕ, ◌+◌, ◌-◌, ◌*◌, ◌≤◌, List, length, Bool, Option, Some, None, IsTrue, is_some}
use Rattle.siit_word.specs.Files.{FilesMeaning, held}
use Rattle.siit_capture.specs.Captures.{Records, ended, faulty, one_more}
use Rattle.siit_capture.specs.Readings.{Reading, fed, nothing_fed}
use Rattle.siit_capture.specs.Records as found
use Rattle.siit_run.specs.Ahead.{IsReadTo}
use Rattle.siit_run.specs.Looks.{IsHeadOf, records_left}
use Rattle.siit_running.specs.declared.next.Next.{Next}
use Rattle.siit_running.specs.declared.next.Next.TheVariants.{Record, End, Fault}
use Rattle.siit_running.specs.declared.source.Source.{Source}

-- the file that holds a capture: whether its bytes are told, whether there is such a file, and its bytes
pub record CaptureFile : Type 0 where
  pub told : Bool
  pub there : Bool
  pub bytes : List ℕ

abbrev pub file_named : FilesMeaning → Option (List ℕ) → Option CaptureFile
file_named files None = None
file_named files (Some name) = Some (record {
  told = files.told name;
  there = is_some (files.contents name);
  bytes = held (files.contents name);
})

abbrev pub IsToldIn : Option CaptureFile → Type 0
IsToldIn None = Unit {0}
IsToldIn (Some file) = IsTrue file.told

-- what is left of a capture behind all that its reader has given
abbrev pub later_in : Option CaptureFile → Reading → Records
later_in None reading = ended
later_in (Some file) reading = records_left file.bytes reading

-- the record that was given last, if any, and what follows it
abbrev pub given_before : Option found.Record → (place : ℕ) → Records → Records
given_before None place later = later
given_before (Some record_found) place later = one_more record_found place later

-- what isn't carried yet, by what is known of the next item
abbrev pub rest_by : Option Next → Reading → (later : Records) → Records
rest_by None reading later = later
rest_by (Some (Record head)) reading later = given_before reading.found reading.place later
rest_by (Some End) reading later = ended
rest_by (Some (Fault place fault)) reading later = faulty place fault

abbrev pub rest_in : Option CaptureFile → Source → Records
rest_in file source = rest_by source.next source.reader (later_in file source.reader)

-- The records carried are those that were given, but for one that waits.
abbrev pub IsCounted : Option Next → Reading → (carried : ℕ) → Type 0
IsCounted None reading carried = reading.count ≡ carried
IsCounted (Some (Record head)) reading carried = IsHeadOf head reading × (head.number ≡ carried + 1)
IsCounted (Some End) reading carried = Unit {0}
IsCounted (Some (Fault place fault)) reading carried = Unit {0}

-- At its end a file was read whole.
abbrev pub IsReadWhole : Option Next → Reading → List ℕ → Type 0
IsReadWhole None reading bytes = Unit {0}
IsReadWhole (Some (Record head)) reading bytes = Unit {0}
IsReadWhole (Some End) reading bytes = length bytes ≤ fed reading
IsReadWhole (Some (Fault place fault)) reading bytes = Unit {0}

-- It was read at most one piece past the record that is next, if one is.
abbrev pub IsFedNear : Records → (place : ℕ) → Type 0
IsFedNear rest place = (record_found : found.Record) (ends : ℕ) (later : Records) → rest ≡ one_more record_found ends later → place ≤ ends + 65536

-- A file of these bytes was read so far.
pub record IsFedFrom (bytes : List ℕ) (source : Source) : Type 0 where
  pub inside : fed source.reader ≤ length bytes
  pub near : IsFedNear (rest_by source.next source.reader (records_left bytes source.reader)) (fed source.reader)
  pub whole : IsReadWhole source.next source.reader bytes

-- Where there is no file, nothing but the end is found.
abbrev pub HasNothing : Option Next → Type 0
HasNothing None = Unit {0}
HasNothing (Some (Record head)) = ⊥
HasNothing (Some End) = Unit {0}
HasNothing (Some (Fault place fault)) = ⊥

abbrev pub IsReadFrom : Option CaptureFile → Source → Type 0
IsReadFrom None source = HasNothing source.next
IsReadFrom (Some file) source = IsTrue file.told → IsFedFrom file.bytes source

-- A capture may have a fault at this place: its file is there, and the place is none behind the bytes that are read.
abbrev pub MayFailAt : Option CaptureFile → (place : ℕ) → Type 0
MayFailAt None place = ⊥
MayFailAt (Some file) place = (place ≤ 4294967296) × (IsTrue file.told → IsTrue file.there)

abbrev pub FailsWhereItMay : Option CaptureFile → Option Next → Type 0
FailsWhereItMay file None = Unit {0}
FailsWhereItMay file (Some (Record head)) = Unit {0}
FailsWhereItMay file (Some End) = Unit {0}
FailsWhereItMay file (Some (Fault place fault)) = MayFailAt file place

-- A source of a capture, as it may be.
pub record IsSource (file : Option CaptureFile) (source : Source) : Type 0 where
  pub few : fed source.reader ≤ 4294967296
  pub counted : IsCounted source.next source.reader source.carried
  pub from_file : IsReadFrom file source
  pub fails : FailsWhereItMay file source.next

-- a source of which nothing was read
abbrev pub new_source : Source
new_source = record { reader = nothing_fed; next = None; carried = 0 }

-- a bound on how often a record may yet be carried
abbrev pub turns_by : Option Next → (place : ℕ) → ℕ
turns_by None place = 2 * (4294967296 - place)
turns_by (Some (Record head)) place = 2 * (4294967296 - place) + 1
turns_by (Some End) place = 0
turns_by (Some (Fault fault_place fault)) place = 0

abbrev pub turns_left : Source → ℕ
turns_left source = turns_by source.next source.reader.place

-- The next item was looked at. Nothing was carried.
pub record HasLooked (file : Option CaptureFile) (old new : Source) : Type 0 where
  pub source : IsSource file new
  pub rest : IsToldIn file → rest_in file new ≡ rest_in file old
  pub carried : new.carried ≡ old.carried
  pub turns : turns_left new ≤ turns_left old

-- how far the file of a capture was read, where it has a name
abbrev pub IsReadToIn : (before now : FilesMeaning) → Option (List ℕ) → (place : ℕ) → Type 0
IsReadToIn before now None place = Unit {0}
IsReadToIn before now (Some name) place = IsReadTo (before.given name) (now.given name) place

-- How far the source of a capture was read on: no further than one piece past the record that stood next.
pub record ReadsOn (before now : FilesMeaning) (name : Option (List ℕ)) (old new : Source) : Type 0 where
  pub near : IsToldIn (file_named before name) → IsFedNear (rest_in (file_named before name) old) (fed new.reader)
  pub read : IsReadToIn before now name (fed new.reader)
  pub more : fed old.reader ≤ fed new.reader
