-- What looking at the next item of a capture finds.
use Rattle.std.specs.Prelude.{◌≡◌, ℕ, ◌≤◌, ◌<◌, List, length, Option, IsTrue}
use Rattle.siit_word.specs.Files.{FilesMeaning, ReadFailed, held}
use Rattle.siit_capture.specs.Captures.{ended, faulty}
use Rattle.siit_capture.specs.Readings.{Reading, fed}
use Rattle.siit_chain.specs.declared.origin.End.{End}
use Rattle.siit_run.specs.Ahead.{IsReadTo}
use Rattle.siit_run.specs.Looks.{FindsRecord, GivesOne, records_left}
use Rattle.siit_running.specs.Inputs.{IsTooLong, ReadFailedAt}
use Rattle.siit_running.specs.Sources.{ReadsOn}
use Rattle.siit_running.specs.declared.fault.RunFault.{RunFault}
use Rattle.siit_running.specs.declared.fault.RunFault.TheVariants.{ReadFault, WriteFault, BadCapture, TooLong, NoMemory}
use Rattle.siit_running.specs.declared.next.Next.{Next}
use Rattle.siit_running.specs.declared.next.Next.TheVariants as next
use Rattle.siit_running.specs.declared.source.Source.{Source}

-- This stands next in a file of these bytes.
abbrev pub StandsNext : (bytes : List ℕ) → (old new : Reading) → Next → Type 0
StandsNext bytes old new (next.Record head) = FindsRecord head bytes old new
StandsNext bytes old new next.End = (records_left bytes old ≡ ended) × (length bytes ≤ fed new)
StandsNext bytes old new (next.Fault place fault) = records_left bytes old ≡ faulty place fault

-- A record was given, where one stands next.
abbrev pub GivesNext : (old new : Reading) → Next → Type 0
GivesNext old new (next.Record head) = GivesOne head old new
GivesNext old new next.End = Unit {0}
GivesNext old new (next.Fault place fault) = Unit {0}

-- why it wasn't found in a file, which was read to a place
abbrev pub IsUnreadIn : End → (before after : FilesMeaning) → (name : List ℕ) → (place : ℕ) → RunFault → Type 0
IsUnreadIn end before after name place (ReadFault e) =
    (e ≡ end) × ReadFailed before after name × IsReadTo (before.given name) (after.given name) place
IsUnreadIn end before after name place WriteFault = ⊥
IsUnreadIn end before after name place (BadCapture e fault_place fault) = ⊥
IsUnreadIn end before after name place (TooLong e) =
    (e ≡ end) × (IsTrue (before.told name) → 4294967296 < length (held (before.contents name)))
IsUnreadIn end before after name place NoMemory = ⊥

-- why it wasn't found in a capture
abbrev pub IsUnreadable : End → (before after : FilesMeaning) → Option (List ℕ) → (old new : Source) → RunFault → Type 0
IsUnreadable end before after name old new (ReadFault e) = (e ≡ end) × ReadFailedAt before after name × ReadsOn before after name old new
IsUnreadable end before after name old new WriteFault = ⊥
IsUnreadable end before after name old new (BadCapture e fault_place fault) = ⊥
IsUnreadable end before after name old new (TooLong e) = (e ≡ end) × IsTooLong before name
IsUnreadable end before after name old new NoMemory = ⊥
