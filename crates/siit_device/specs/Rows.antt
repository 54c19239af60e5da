-- Lists of rules in their order. The first row that holds for a packet is the packet's rule.
use Rattle.std.specs.Prelude.{List, [], ◌∷◌, Bool, false, ◌==◌, if◌then◌else◌, Option, Some, None}
use Rattle.siit_rules.specs.Rows.{row_of}
use Rattle.siit_rules.specs.declared.rule.Rule.{Rule}

-- a rule, and where it holds
pub record Row (P : Type 0) : Type 0 where
  pub rule : Rule
  pub holds : P → Bool

abbrev pub row : {P : Type 0} → Rule → (P → Bool) → Row P
row rule holds = record { rule = rule; holds = holds }

abbrev pub first_of : {P : Type 0} → List (Row P) → P → Option Rule
first_of [] packet = None
first_of (r ∷ rows) packet = if r.holds packet then Some r.rule else first_of rows packet

-- the rules of a list that is looked at where an earlier one says nothing
abbrev pub or_rule : Option Rule → Option Rule → Option Rule
or_rule None later = later
or_rule (Some rule) later = Some rule

-- a refusal by this rule
abbrev pub is_by : Rule → Option Rule → Bool
is_by rule None = false
is_by rule (Some other) = (row_of other).number == (row_of rule).number
