-- What one device makes of one packet.
use Rattle.std.specs.Prelude.{ℕ, ◌<◌, List, Bool, Option, Some, None}
use Rattle.std.specs.List.{AllByRecursion}
use Rattle.siit_rules.specs.declared.rule.Rule.{Rule}

pub data Outcome : Type 0 where
  -- refused by a rule, and the answer that goes back, if any
  dropped : (rule : Rule) (answer : Option (List ℕ)) → Outcome
  -- sent back on the side of arrival
  turned : (packet : List ℕ) → Outcome
  -- sent on, and whether the identification that the device was given is used
  through : (used : Bool) (packet : List ℕ) → Outcome
  -- sent on in pieces
  pieces : (used : Bool) (packets : List (List ℕ)) → Outcome

-- Whatever comes of a packet may live less long than it.
abbrev pub Falls : (measure : List ℕ → ℕ) → (packet : List ℕ) → Outcome → Type 0
Falls measure packet (dropped rule None) = Unit {0}
Falls measure packet (dropped rule (Some answer)) = measure answer < measure packet
Falls measure packet (turned next) = measure next < measure packet
Falls measure packet (through used next) = measure next < measure packet
Falls measure packet (pieces used packets) = AllByRecursion (λ next. measure next < measure packet) packets
