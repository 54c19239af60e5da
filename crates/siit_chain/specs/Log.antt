-- What a run writes: a list of entries in their order, of which each says what record it comes of. The three files are
-- texts of it.
use Rattle.std.specs.Prelude.{ℕ, List, [], Bool, true, false, if◌then◌else◌, count_by}
use Rattle.std.specs.List.{flat_map}
use Rattle.siit_capture.specs.Written.{written_head}
use Rattle.siit_rules.specs.declared.rule.Rule.{Rule}
use Rattle.siit_chain.specs.Texts.{Totals, end_line, output_record, report_line}
use Rattle.siit_chain.specs.declared.origin.End.{End}
use Rattle.siit_chain.specs.declared.origin.End.TheVariants as ends
use Rattle.siit_chain.specs.declared.origin.Origin.{Origin}
use Rattle.siit_chain.specs.declared.origin.Output.{Output}
use Rattle.siit_chain.specs.declared.origin.Output.TheVariants.{Left, Right, Report}

pub data Entry : Type 0 where
  -- the head of the capture that is written at an end
  begins : End → Entry
  -- a packet that leaves the chain at an end
  leaves : Origin → End → (packet : List ℕ) → Entry
  -- a packet that a rule drops at a device, and whether it was answered; device 0 stands for the capture itself
  drops : Origin → (device : ℕ) → Rule → (answered : Bool) → Entry
  -- the end of a run
  finishes : Totals → Entry

abbrev pub output_at : End → Output
output_at ends.Left = Left
output_at ends.Right = Right

-- the text that takes an entry
abbrev pub output_of : Entry → Output
output_of (begins end) = output_at end
output_of (leaves origin end packet) = output_at end
output_of (drops origin device rule answered) = Report
output_of (finishes totals) = Report

-- an entry as bytes
unfoldable pub entry_text : Entry → List ℕ
entry_text (begins end) = written_head
entry_text (leaves origin end packet) = output_record origin packet
entry_text (drops origin device rule answered) = report_line origin device rule answered
entry_text (finishes totals) = end_line totals

abbrev pub is_output : Output → Output → Bool
is_output Left Left = true
is_output Right Right = true
is_output Report Report = true
is_output _ _ = false

-- what an entry is for a text
abbrev pub share : Output → Entry → List ℕ
share output entry = if is_output output (output_of entry) then entry_text entry else []

-- the texts of a log
unfoldable pub text_of : List Entry → Output → List ℕ
text_of log output = flat_map (share output) log

-- a packet that leaves at this end
abbrev pub is_packet_at : End → Entry → Bool
is_packet_at at (begins end) = false
is_packet_at at (leaves origin end packet) = is_output (output_at at) (output_at end)
is_packet_at at (drops origin device rule answered) = false
is_packet_at at (finishes totals) = false

abbrev pub is_drop : Entry → Bool
is_drop (begins end) = false
is_drop (leaves origin end packet) = false
is_drop (drops origin device rule answered) = true
is_drop (finishes totals) = false

-- how many packets a log has at an end, and how many drops
abbrev pub packets_at : End → List Entry → ℕ
packets_at end log = count_by (is_packet_at end) log

abbrev pub drops_in : List Entry → ℕ
drops_in log = count_by is_drop log
