-- Both captures of a run, and how looking at them or carrying them ends.
use Rattle.std.specs.Prelude.{◌≡◌, ◌≢◌, ◌⊎◌, ℕ, ◌+◌, ◌≤◌, List, Option, Some, None, Result, Ok, Err}
use Rattle.siit_word.specs.Files.{FilesMeaning}
use Rattle.siit_capture.specs.Captures.{Records, ended}
use Rattle.siit_capture.specs.Readings.{fed}
use Rattle.siit_capture.specs.declared.form.CaptureFault.{CaptureFault}
use Rattle.siit_capture.specs.declared.head.Head.{Head}
use Rattle.siit_chain.specs.Carried.{Chain, other_end}
use Rattle.siit_chain.specs.Log.{text_of}
use Rattle.siit_chain.specs.Outputs.{GrewByPart, WriteFailedIn}
use Rattle.siit_chain.specs.declared.origin.End.{End}
use Rattle.siit_chain.specs.declared.origin.End.TheVariants as ends
use Rattle.siit_chain.specs.declared.origin.Origin.{Origin}
use Rattle.siit_chain.specs.declared.origin.Output.{Output}
use Rattle.siit_run.specs.Runs.{Course, Run, begun, finished, head_fault, stopped}
use Rattle.siit_running.specs.Answers.{AreCounts, HasRun, IsNotFarAhead, AreUnread}
use Rattle.siit_running.specs.Inputs.{AreTold, IsTooLong, IsWithin, ReadFailedAt, started_run, whole_run}
use Rattle.siit_running.specs.Sources.{HasLooked, IsFedNear, IsReadToIn, IsSource, MayFailAt, file_named, rest_in, turns_left}
use Rattle.siit_running.specs.Turns.{StopsAt, head_origin, next_end}
use Rattle.siit_running.specs.declared.captures.Captures.{Captures}
use Rattle.siit_running.specs.declared.fault.RunFault.{RunFault}
use Rattle.siit_running.specs.declared.fault.RunFault.TheVariants.{ReadFault, WriteFault, BadCapture, TooLong, NoMemory}
use Rattle.siit_running.specs.declared.next.Next.TheVariants as next
use Rattle.siit_running.specs.declared.running.RunCounts.{RunCounts}
use Rattle.siit_running.specs.declared.source.Source.{Source}

abbrev pub source_at : End → Captures → Source
source_at ends.Left captures = captures.left
source_at ends.Right captures = captures.right

-- what isn't carried yet of the capture of an end
abbrev pub rest_of : FilesMeaning → (names : End → Option (List ℕ)) → Captures → End → Records
rest_of files names captures end = rest_in (file_named files (names end)) (source_at end captures)

-- Both captures are as they may be.
abbrev pub AreSources : FilesMeaning → (names : End → Option (List ℕ)) → Captures → Type 0
AreSources files names captures = (end : End) → IsSource (file_named files (names end)) (source_at end captures)

-- Both captures were looked at. Nothing was carried.
abbrev pub HaveLooked : FilesMeaning → (names : End → Option (List ℕ)) → (old new : Captures) → Type 0
HaveLooked files names old new = (end : End) → HasLooked (file_named files (names end)) (source_at end old) (source_at end new)

-- How far captures were read on: each no further than one piece past the record that stood next. It isn't told of two
-- captures in one file.
pub record ReadOn (before now : FilesMeaning) (names : End → Option (List ℕ)) (old new : Captures) : Type 0 where
  pub near : AreTold before names → (end : End) → IsFedNear (rest_of before names old end) (fed (source_at end new).reader)
  pub read : (end : End) → names (other_end end) ≢ names end → IsReadToIn before now (names end) (fed (source_at end new).reader)
  pub more : (end : End) → fed (source_at end old).reader ≤ fed (source_at end new).reader

-- why looking at both captures found no record, where this is a fault of a capture
abbrev pub IsLookFault : (before now : FilesMeaning) (names : End → Option (List ℕ)) → (old new : Captures)
    → (End → ℕ → CaptureFault → Type 0) → RunFault → Type 0
IsLookFault before now names old new P (ReadFault end) = ReadFailedAt before now (names end) × ReadOn before now names old new
IsLookFault before now names old new P WriteFault = ⊥
IsLookFault before now names old new P (BadCapture end place fault) =
    MayFailAt (file_named before (names end)) place × (AreTold before names → P end place fault)
IsLookFault before now names old new P (TooLong end) = IsTooLong before (names end)
IsLookFault before now names old new P NoMemory = ⊥

-- how both heads are judged
abbrev pub heads_judged : FilesMeaning → (names : End → Option (List ℕ)) → Captures → Course
heads_judged files names captures = begun (head_fault (rest_of files names captures ends.Left)) (head_fault (rest_of files names captures ends.Right))

-- A head has this fault.
abbrev pub HasBadHead : FilesMeaning → (names : End → Option (List ℕ)) → Captures → End → (place : ℕ) → CaptureFault → Type 0
HasBadHead files names captures end place fault = heads_judged files names captures ≡ stopped end place fault

-- The record of this origin stands next in its capture.
pub record StandsAt (origin : Origin) (source : Source) : Type 0 where
  pub by_head : Head
  pub next : source.next ≡ Some (next.Record by_head)
  pub is : origin ≡ head_origin origin.end by_head

-- Of both captures, the record that is carried next, or none where both have ended.
abbrev pub IsChosen : FilesMeaning → (names : End → Option (List ℕ)) → (old new : Captures) → Option Origin → Type 0
IsChosen files names old new None =
    AreTold files names → (end : End) → (rest_of files names old end ≡ ended) × IsWithin files (names end)
IsChosen files names old new (Some origin) =
    StandsAt origin (source_at origin.end new)
    × (AreTold files names → next_end (rest_of files names old ends.Left) (rest_of files names old ends.Right) ≡ Some origin.end)

-- A turn ends the run at a fault of a capture.
abbrev pub HasFault : FilesMeaning → (names : End → Option (List ℕ)) → Captures → End → (place : ℕ) → CaptureFault → Type 0
HasFault files names captures end place fault =
    StopsAt end place fault (rest_of files names captures ends.Left) (rest_of files names captures ends.Right)

-- a source of which the record that stood next was carried, the record of this number
abbrev pub past_record : (number : ℕ) → Source → Source
past_record number source = record { reader = source.reader; next = None; carried = number }

-- both captures, where the record that stood next in that of an end was carried
abbrev pub carried_at : End → (number : ℕ) → Captures → Captures
carried_at ends.Left number captures = record captures { left = past_record number captures.left }
carried_at ends.Right number captures = record captures { right = past_record number captures.right }

-- how often a record may yet be carried, at most
abbrev pub turns_of : Captures → ℕ
turns_of captures = turns_left captures.left + turns_left captures.right

-- The whole run came to its end, and was counted. Both files were read whole.
pub record RunIsWhole (whole : Run) (coming : ℕ → ℕ → ℕ) (names : End → Option (List ℕ)) (outs : Output → Option (List ℕ)) (before now : FilesMeaning) (counts : RunCounts) : Type 0 where
  pub has_run : HasRun outs before now coming whole finished
  pub counted : AreCounts counts whole
  pub within : (end : End) → IsWithin before (names end)

-- A part of the run was written, from its start.
abbrev pub IsPart : (whole : Run) → (outs : Output → Option (List ℕ)) → (before now : FilesMeaning) → Type 0
IsPart whole outs before now = GrewByPart outs before now (text_of whole.trace.log)

-- A part was written, and no capture was read far ahead of it, if any was.
pub record StopsNear {D : Type 0} (chain : Chain D) (start whole : Run) (names : End → Option (List ℕ)) (outs : Output → Option (List ℕ)) (before now : FilesMeaning) : Type 0 where
  pub part : IsPart whole outs before now
  pub ahead : AreUnread before now names ⊎ IsNotFarAhead chain start names outs before now

-- what holds after a run, by its answer
abbrev pub HoldsAfterRun : {D : Type 0} → Chain D → (coming_old coming_new : ℕ → ℕ → ℕ) → (names : End → Option (List ℕ))
    → (outs : Output → Option (List ℕ)) → (before now : FilesMeaning) → Result RunCounts RunFault → Type 0
HoldsAfterRun chain coming_old coming_new names outs before now (Ok counts) =
    AreTold before names → RunIsWhole (whole_run chain coming_old before names) coming_new names outs before now counts
HoldsAfterRun chain coming_old coming_new names outs before now (Err (ReadFault end)) =
    ReadFailedAt before now (names end)
    × (AreTold before names → StopsNear chain (started_run coming_old before names) (whole_run chain coming_old before names) names outs before now)
HoldsAfterRun chain coming_old coming_new names outs before now (Err WriteFault) =
    WriteFailedIn outs before now
    × (AreTold before names → StopsNear chain (started_run coming_old before names) (whole_run chain coming_old before names) names outs before now)
HoldsAfterRun chain coming_old coming_new names outs before now (Err (BadCapture end place fault)) =
    MayFailAt (file_named before (names end)) place
    × (AreTold before names → HasRun outs before now coming_new (whole_run chain coming_old before names) (stopped end place fault))
HoldsAfterRun chain coming_old coming_new names outs before now (Err (TooLong end)) =
    IsTooLong before (names end) × (AreTold before names → IsPart (whole_run chain coming_old before names) outs before now)
HoldsAfterRun chain coming_old coming_new names outs before now (Err NoMemory) =
    AreTold before names → IsPart (whole_run chain coming_old before names) outs before now
