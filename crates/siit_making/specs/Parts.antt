-- A generated capture that is made part by part: its head, and then record after record. One part is at hand.
use Rattle.std.specs.Prelude.{◌≡◌, ℕ, ◌+◌, ◌-◌, ◌*◌, ◌≤◌, List, ◌++◌, length, drop, nat_lt, if◌then◌else◌}
use Rattle.std.specs.List.{flat_map}
use Rattle.siit_capture.specs.Written.{written_head, written_record}
use Rattle.siit_generator.specs.Generated.{drawn, generated_from, generated_record, next_state}
use Rattle.siit_making.specs.Captures.{generated_capture}

pub record Parts : Type 0 where
  -- how many packets the capture has, and its seed
  pub count : ℕ
  pub seed : ℕ
  -- the part at hand, and its place in the capture
  pub place : ℕ
  pub hand : List ℕ
  -- how many records were made, and the generator's state behind them
  pub made : ℕ
  pub state : ℕ

abbrev pub parts_at : (count seed place : ℕ) (hand : List ℕ) (made state : ℕ) → Parts
parts_at count seed place hand made state = record { count = count; seed = seed; place = place; hand = hand; made = made; state = state }

-- the bytes of the records that are still to be made
abbrev pub later : Parts → List ℕ
later parts = flat_map written_record (generated_from (parts.count - parts.made) parts.made parts.state)

-- The head is at hand.
abbrev pub first_part : (count seed : ℕ) → Parts
first_part count seed = parts_at count seed 0 written_head 0 seed

-- The next record is at hand.
abbrev pub next_part : Parts → Parts
next_part parts = record parts {
  place = parts.place + length parts.hand;
  hand = written_record (generated_record parts.made (drawn (next_state parts.state)));
  made = parts.made + 1;
  state = next_state parts.state;
}

-- another record follows
abbrev pub stepped : Parts → Parts
stepped parts = if nat_lt parts.made parts.count then next_part parts else parts

-- The part at hand stands at its place in the capture, and what is to be made follows it.
pub record AreParts (parts : Parts) : Type 0 where
  pub few : parts.count ≤ 100000
  pub made : parts.made ≤ parts.count
  pub within : parts.place ≤ length (generated_capture parts.count parts.seed)
  pub short : parts.place + length parts.hand ≤ 24 + 1516 * parts.made
  pub rest : drop parts.place (generated_capture parts.count parts.seed) ≡ parts.hand ++ later parts
