-- What holds after a run, by its answer.
use Rattle.std.specs.Prelude.{◌≡◌, ◌≢◌, ℕ, suc, ◌≤◌, List, length, take, Option, Some, None, IsTrue}
use Rattle.siit_word.specs.Files.{FilesMeaning, grown}
use Rattle.siit_capture.specs.Captures.{Records}
use Rattle.siit_chain.specs.Carried.{Chain, HasComing, other_end}
use Rattle.siit_chain.specs.Counted.{counts_of}
use Rattle.siit_chain.specs.Log.{text_of}
use Rattle.siit_chain.specs.Outputs.{GrewBy}
use Rattle.siit_chain.specs.Texts.{Totals}
use Rattle.siit_chain.specs.declared.origin.End.{End}
use Rattle.siit_chain.specs.declared.origin.End.TheVariants.{Left, Right}
use Rattle.siit_chain.specs.declared.origin.Output.{Output}
use Rattle.siit_run.specs.Ahead.{IsReadAhead}
use Rattle.siit_run.specs.Runs.{Course, Run, after}
use Rattle.siit_running.specs.declared.fault.RunFault.{RunFault}
use Rattle.siit_running.specs.declared.fault.RunFault.TheVariants.{ReadFault, WriteFault, BadCapture, TooLong, NoMemory}
use Rattle.siit_running.specs.declared.running.RunCounts.{RunCounts}

-- A whole run ended so: each named file grew by all that it wrote, and its numbers were used.
pub record HasRun (outs : Output → Option (List ℕ)) (before now : FilesMeaning) (coming : ℕ → ℕ → ℕ) (whole : Run) (course : Course) : Type 0 where
  pub ends : whole.course ≡ course
  pub grew : GrewBy outs before now (text_of whole.trace.log)
  pub comes : HasComing coming whole.trace

-- what was counted, as the end line tells it
abbrev pub totals_told : RunCounts → Totals
totals_told counts = record {
  left_read = counts.left_read;
  right_read = counts.right_read;
  left = counts.written.left;
  right = counts.written.right;
  dropped = counts.written.dropped;
}

-- what was counted of a whole run
pub record AreCounts (counts : RunCounts) (whole : Run) : Type 0 where
  pub left_read : counts.left_read ≡ whole.left_read
  pub right_read : counts.right_read ≡ whole.right_read
  pub written : counts.written ≡ counts_of whole.trace.log

-- Each named file grew by all of one text, and perhaps by a part of what a longer one adds to it.
pub record GrewBetween (outs : Output → Option (List ℕ)) (before now : FilesMeaning) (least most : Output → List ℕ) : Type 0 where
  pub each : (o : Output) (name : List ℕ) → outs o ≡ Some name → IsTrue (before.told name)
      → (n : ℕ) × (length (least o) ≤ n) × (n ≤ length (most o)) × (now.contents name ≡ grown (before.contents name) (take n (most o)))

-- of both captures, what a run hasn't carried yet of that of an end
abbrev pub rest_at : End → Run → Records
rest_at Left run = run.left
rest_at Right run = run.right

-- A capture in a file of its own was read no further than one piece past the record that is looked at next.
abbrev pub IsNearIn : (before now : FilesMeaning) (name other : Option (List ℕ)) → Records → Type 0
IsNearIn before now None other rest = Unit {0}
IsNearIn before now (Some name) other rest = other ≢ Some name → IsReadAhead (before.given name) (now.given name) rest

-- The named files hold what a run writes in some turns, and perhaps a part of what one more turn writes; and each
-- capture was read no further than one piece past the record that this turn looks at.
pub record IsNotFarAhead {D : Type 0} (chain : Chain D) (start : Run) (names : End → Option (List ℕ)) (outs : Output → Option (List ℕ)) (before now : FilesMeaning) : Type 0 where
  pub turns : ℕ
  pub written : GrewBetween outs before now (text_of (after chain turns start).trace.log) (text_of (after chain (suc turns) start).trace.log)
  pub near : (end : End) → IsNearIn before now (names end) (names (other_end end)) (rest_at end (after chain turns start))

-- No capture was read.
abbrev pub AreUnread : (before now : FilesMeaning) (names : End → Option (List ℕ)) → Type 0
AreUnread before now names = (end : End) (name : List ℕ) → names end ≡ Some name → now.given name ≡ before.given name

-- A fault of reading or writing.
abbrev pub IsFileFault : RunFault → Type 0
IsFileFault (ReadFault end) = Unit {0}
IsFileFault WriteFault = Unit {0}
IsFileFault (BadCapture end place fault) = ⊥
IsFileFault (TooLong end) = ⊥
IsFileFault NoMemory = ⊥
