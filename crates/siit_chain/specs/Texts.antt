-- The texts of packets that are written, of drops, and of a run's end. The report is this project's own.
use Rattle.std.specs.Prelude.{ℕ, ◌-◌, ◌^◌, min, List, [], ◌∷◌, ◌++◌, length, Bool, true, false, codes}
use Rattle.std.specs.Fmt.{decimal}
use Rattle.siit_capture.specs.Written.{written_record_head}
use Rattle.siit_rules.specs.Rows.{row_of}
use Rattle.siit_rules.specs.declared.rule.Answer.{Answer}
use Rattle.siit_rules.specs.declared.rule.Answer.TheVariants.{Silent, Icmp4, Icmp6}
use Rattle.siit_rules.specs.declared.rule.Rule.{Rule}
use Rattle.siit_chain.specs.declared.origin.End.{End}
use Rattle.siit_chain.specs.declared.origin.End.TheVariants.{Left, Right}
use Rattle.siit_chain.specs.declared.origin.Origin.{Origin}

-- the record of a packet: its time, twice its length, and its bytes
abbrev pub output_record : Origin → (packet : List ℕ) → List ℕ
output_record origin packet = written_record_head origin.seconds origin.nanos (length packet) ++ packet

abbrev pub end_letter : End → List ℕ
end_letter Left = codes "L"
end_letter Right = codes "R"

abbrev pub answer_text : Answer → List ℕ
answer_text Silent = codes "silent"
answer_text (Icmp4 kind code) = codes "icmp4/" ++ decimal kind ++ codes "/" ++ decimal code
answer_text (Icmp6 kind code) = codes "icmp6/" ++ decimal kind ++ codes "/" ++ decimal code

-- what was sent back for a drop
abbrev pub answer_given : Rule → (answered : Bool) → List ℕ
answer_given rule true = answer_text (row_of rule).answer
answer_given rule false = answer_text Silent

-- the line of a drop: capture, record, device, the rule's number and name, and what was sent back
unfoldable pub report_line : Origin → (device : ℕ) → Rule → (answered : Bool) → List ℕ
report_line origin device rule answered =
    end_letter origin.end ++ codes " " ++ decimal origin.number ++ codes " " ++ decimal device ++ codes " "
    ++ decimal (row_of rule).number ++ codes " " ++ (row_of rule).name ++ codes " " ++ answer_given rule answered ++ 10 ∷ []

-- what a run counted: records read at both ends, packets that left at both, and drops
pub record Totals : Type 0 where
  pub left_read : ℕ
  pub right_read : ℕ
  pub left : ℕ
  pub right : ℕ
  pub dropped : ℕ

-- A number that doesn't fit a `u64` is written as the last one.
abbrev pub count_text : ℕ → List ℕ
count_text count = decimal (min count (2 ^ 64 - 1))

-- the report's last line
unfoldable pub end_line : Totals → List ℕ
end_line totals =
    codes "end " ++ count_text totals.left_read ++ codes " " ++ count_text totals.right_read ++ codes " " ++ count_text totals.left
    ++ codes " " ++ count_text totals.right ++ codes " " ++ count_text totals.dropped ++ 10 ∷ []
