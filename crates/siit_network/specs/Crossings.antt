-- Two captures that are carried through a network, and what holds afterwards.
use Rattle.std.specs.Prelude.{◌≡◌, ◌⊎◌, ℕ, suc, List, Option, Result, Ok, Err}
use Rattle.siit_chain.specs.Carried.{Chain, HasComing, other_end}
use Rattle.siit_chain.specs.Log.{text_of}
use Rattle.siit_chain.specs.Outputs.{WriteFailedIn}
use Rattle.siit_chain.specs.declared.origin.End.{End}
use Rattle.siit_chain.specs.declared.origin.Output.{Output}
use Rattle.siit_engine.specs.Placed.{Placed}
use Rattle.siit_run.specs.Runs.{Course, Run, after, finished, stopped}
use Rattle.siit_running.specs.Answers.{AreCounts, AreUnread, IsNearIn, rest_at}
use Rattle.siit_running.specs.Inputs.{AreTold, IsTooLong, IsWithin, ReadFailedAt, started_run, whole_run}
use Rattle.siit_running.specs.Sources.{MayFailAt, file_named}
use Rattle.siit_running.specs.declared.fault.RunFault.{RunFault}
use Rattle.siit_running.specs.declared.fault.RunFault.TheVariants.{ReadFault, WriteFault, BadCapture, TooLong, NoMemory}
use Rattle.siit_running.specs.declared.running.RunCounts.{RunCounts}
use Rattle.siit_word.specs.Files.{FilesMeaning}
use Rattle.siit_network.specs.Holding.{HoldBetween, HoldParts, HoldTexts}

-- a network, the files of both captures and of the three outputs, and what was outside before and after
pub record Crossing : Type 0 where
  pub network : Chain Placed
  -- the names of the files
  pub captures : End → Option (List ℕ)
  pub outputs : Output → Option (List ℕ)
  -- the files
  pub before : FilesMeaning
  pub now : FilesMeaning
  -- the numbers to come, by device and by how many stand before
  pub coming_before : ℕ → ℕ → ℕ
  pub coming_now : ℕ → ℕ → ℕ

-- It is told what both captures hold.
abbrev pub IsTold : Crossing → Type 0
IsTold c = AreTold c.before c.captures

-- the run over both captures before its first turn, and the whole run
abbrev pub start_of : Crossing → Run
start_of c = started_run c.coming_before c.before c.captures

abbrev pub run_over : Crossing → Run
run_over c = whole_run c.network c.coming_before c.before c.captures

-- The whole run ended so: each named file holds all that it wrote, and its numbers were used.
pub record HasWritten (c : Crossing) (course : Course) : Type 0 where
  pub ends : (run_over c).course ≡ course
  pub holds : HoldTexts c.outputs c.now (text_of (run_over c).trace.log)
  pub comes : HasComing c.coming_now (run_over c).trace

-- The whole run ended behind both captures, and was counted. Both files were read whole.
pub record IsCrossed (c : Crossing) (counts : RunCounts) : Type 0 where
  pub written : HasWritten c finished
  pub counted : AreCounts counts (run_over c)
  pub within : (end : End) → IsWithin c.before (c.captures end)

-- Each named file is as before, or holds a part of what the whole run writes to it, from its start.
abbrev pub IsPart : Crossing → Type 0
IsPart c = HoldParts c.outputs c.before c.now (text_of (run_over c).trace.log)

-- The named files hold what the run writes in some turns, and perhaps a part of what one more turn writes; and each
-- capture was read no further than one piece past the record that this turn looks at.
pub record KeepsNear (c : Crossing) : Type 0 where
  pub turns : ℕ
  pub written : HoldBetween c.outputs c.now (text_of (after c.network turns (start_of c)).trace.log)
      (text_of (after c.network (suc turns) (start_of c)).trace.log)
  pub near : (end : End) → IsNearIn c.before c.now (c.captures end) (c.captures (other_end end))
      (rest_at end (after c.network turns (start_of c)))

-- A part was written, and no capture was read far ahead of it, if any was.
pub record StopsNear (c : Crossing) : Type 0 where
  pub part : IsPart c
  pub ahead : AreUnread c.before c.now c.captures ⊎ KeepsNear c

-- what holds by the answer
abbrev pub HoldsAfter : Crossing → Result RunCounts RunFault → Type 0
HoldsAfter c (Ok counts) = IsTold c → IsCrossed c counts
HoldsAfter c (Err (ReadFault end)) = ReadFailedAt c.before c.now (c.captures end) × (IsTold c → StopsNear c)
HoldsAfter c (Err WriteFault) = WriteFailedIn c.outputs c.before c.now × (IsTold c → StopsNear c)
HoldsAfter c (Err (BadCapture end place fault)) =
    MayFailAt (file_named c.before (c.captures end)) place × (IsTold c → HasWritten c (stopped end place fault))
HoldsAfter c (Err (TooLong end)) = IsTooLong c.before (c.captures end) × (IsTold c → IsPart c)
HoldsAfter c (Err NoMemory) = IsTold c → IsPart c
