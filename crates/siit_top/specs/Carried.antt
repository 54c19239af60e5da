-- What holds of two captures that were carried through a network, by the status.
use Rattle.std.specs.Prelude.{◌≡◌, ℕ, List, ◌++◌, Option, Some, None, Result, Ok, Err}
use Rattle.siit_chain.specs.Outputs.{AreApart, some_name}
use Rattle.siit_chain.specs.Texts.{end_line}
use Rattle.siit_chain.specs.declared.origin.End.{End}
use Rattle.siit_chain.specs.declared.origin.End.TheVariants as ends
use Rattle.siit_chain.specs.declared.origin.Output.{Output}
use Rattle.siit_chain.specs.declared.origin.Output.TheVariants as outputs
use Rattle.siit_capture.specs.declared.form.CaptureFault.{CaptureFault}
use Rattle.siit_network.specs.Crossings.{Crossing, HasWritten, HoldsAfter, IsCrossed, IsTold, run_over}
use Rattle.siit_network.specs.Networks.{network}
use Rattle.siit_roles.specs.Chain.{Chain}
use Rattle.siit_run.specs.Runs.{stopped, totals_of}
use Rattle.siit_running.specs.Answers.{totals_told}
use Rattle.siit_running.specs.Inputs.{AreNoneOf, IsTooLong}
use Rattle.siit_running.specs.Sources.{MayFailAt, file_named}
use Rattle.siit_running.specs.Turns.{of_end}
use Rattle.siit_running.specs.declared.fault.RunFault.{RunFault}
use Rattle.siit_running.specs.declared.fault.RunFault.TheVariants as faults
use Rattle.siit_running.specs.declared.running.RunCounts.{RunCounts}
use Rattle.siit_top.specs.Runs.{Run}
use Rattle.siit_top.specs.declared.status.Status.{Status}
use Rattle.siit_top.specs.declared.status.Status.TheVariants as status

-- THE FILES

-- the captures of both ends, where they are given
abbrev pub captures_named : (left right : Option (List ℕ)) → End → Option (List ℕ)
captures_named left right ends.Left = left
captures_named left right ends.Right = right

-- the outputs, where they have a file
abbrev pub outputs_named : (left right report : Option (List ℕ)) → Output → Option (List ℕ)
outputs_named left right report outputs.Left = left
outputs_named left right report outputs.Right = right
outputs_named left right report outputs.Report = report

-- the files of all outputs
abbrev pub output_files : (Output → Option (List ℕ)) → List (List ℕ)
output_files names = some_name (names outputs.Left) ++ some_name (names outputs.Right) ++ some_name (names outputs.Report)

-- Each output has a file of its own, in which no capture is.
pub record HaveOwnFiles (captures : End → Option (List ℕ)) (names : Output → Option (List ℕ)) : Type 0 where
  pub apart : AreApart names
  pub none_of : AreNoneOf captures (output_files names)

-- a run of the program as the crossing of the network of these settings
abbrev pub crossing_of : Chain → (captures : End → Option (List ℕ)) → (names : Output → Option (List ℕ)) → Run → Crossing
crossing_of chain captures names run = record {
  network = network chain;
  captures = captures;
  outputs = names;
  before = run.before;
  now = run.after;
  coming_before = run.coming_before;
  coming_now = run.coming_after;
}

-- the status once captures were carried, or a fault ended it, where these words name those of both ends
abbrev pub carried_status : (left right : ℕ) → Result (Unit {0}) RunFault → Status
carried_status left right (Ok done) = status.Ok
carried_status left right (Err (faults.ReadFault end)) = status.ReadFault
carried_status left right (Err faults.WriteFault) = status.WriteFault
carried_status left right (Err (faults.BadCapture end place fault)) = status.BadCapture end place fault
carried_status left right (Err (faults.TooLong end)) = status.TooLong (of_end end left right)
carried_status left right (Err faults.NoMemory) = status.NoMemory

-- WHAT HOLDS OF EACH ANSWER

-- Both captures were carried to their ends, and the end line was printed. Where it is told what both captures hold, it
-- is the line of what the run has counted.
pub record IsDone (c : Crossing) (out_old out_new : List ℕ) : Type 0 where
  pub counts : RunCounts
  pub holds : HoldsAfter c (Ok counts)
  pub line : out_new ≡ out_old ++ end_line (totals_told counts)
  pub told_line : IsTold c → out_new ≡ out_old ++ end_line (totals_of (run_over c))

-- What holds once captures were carried and the end line was printed, or why they weren't carried to their ends.
abbrev pub EndsSo : Crossing → (out_old out_new : List ℕ) → Result (Unit {0}) RunFault → Type 0
EndsSo c out_old out_new (Ok done) = IsDone c out_old out_new
EndsSo c out_old out_new (Err fault) = HoldsAfter c (Err fault) × (out_new ≡ out_old)

-- Reading the capture of this end failed.
pub record IsUnreadCapture (c : Crossing) : Type 0 where
  pub end : End
  pub holds : HoldsAfter c (Err (faults.ReadFault end))

-- The capture that this word names, of the words of the left and of the right one, is too long.
pub record IsLongCapture (left right : ℕ) (c : Crossing) (word : ℕ) : Type 0 where
  pub end : End
  pub word_of : word ≡ of_end end left right
  pub holds : HoldsAfter c (Err (faults.TooLong end))

-- what holds by the status, where these words name the captures of both ends; other statuses don't come
abbrev pub CarriedAnswer : (left right : ℕ) → Crossing → (out_old out_new : List ℕ) → Status → Type 0
CarriedAnswer left right c out_old out_new status.Ok = IsDone c out_old out_new
CarriedAnswer left right c out_old out_new status.ReadFault = IsUnreadCapture c
CarriedAnswer left right c out_old out_new status.WriteFault = HoldsAfter c (Err faults.WriteFault)
CarriedAnswer left right c out_old out_new (status.BadCapture end place fault) = HoldsAfter c (Err (faults.BadCapture end place fault))
CarriedAnswer left right c out_old out_new status.NoMemory = HoldsAfter c (Err faults.NoMemory)
CarriedAnswer left right c out_old out_new (status.TooLong word) = IsLongCapture left right c word
CarriedAnswer left right c out_old out_new other = ⊥

-- WHAT THE BYTES DECIDE

-- Both captures end without a fault, and all was written and printed.
pub record IsWhole (c : Crossing) (out_old out_new : List ℕ) : Type 0 where
  pub counts : RunCounts
  pub crossed : IsCrossed c counts
  pub line : out_new ≡ out_old ++ end_line (totals_of (run_over c))

-- The run comes to this fault of a capture, which may have one there, and all until then was written.
pub record ComesToFault (c : Crossing) (end : End) (place : ℕ) (fault : CaptureFault) : Type 0 where
  pub may_fail : MayFailAt (file_named c.before (c.captures end)) place
  pub written : HasWritten c (stopped end place fault)

-- The capture that this word names has more bytes than a capture may have.
pub record HasLongCapture (left right : ℕ) (c : Crossing) (word : ℕ) : Type 0 where
  pub end : End
  pub word_of : word ≡ of_end end left right
  pub long : IsTooLong c.before (c.captures end)

-- The status says what the captures decide.
abbrev pub CarriedSays : (left right : ℕ) → Crossing → (out_old out_new : List ℕ) → Status → Type 0
CarriedSays left right c out_old out_new status.Ok = IsWhole c out_old out_new
CarriedSays left right c out_old out_new (status.BadCapture end place fault) = ComesToFault c end place fault
CarriedSays left right c out_old out_new (status.TooLong word) = HasLongCapture left right c word
CarriedSays left right c out_old out_new other = ⊥
