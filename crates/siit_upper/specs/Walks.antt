-- The walk over the extension headers (RFC 8200 section 4), with the rule by which a packet is dropped for each
-- trouble.
use Rattle.std.specs.Prelude.{Option, Some, None, Result, Ok, Err}
use Rattle.siit_model.specs.Extensions.{FragmentFields, Trouble, runs_short, out_of_order, behind_fragment, Walked}
use Rattle.siit_rules.specs.declared.rule.Rule.{Rule}
use Rattle.siit_rules.specs.declared.rule.Rule.TheVariants.{ShortExt6, ExtOrder6, ExtAfterFragment6}
use Rattle.siit_upper.specs.declared.walk.FragInfo.{FragInfo}
use Rattle.siit_upper.specs.declared.walk.Walk.{Walk}

abbrev pub rule_of : Trouble → Rule
rule_of runs_short = ShortExt6
rule_of out_of_order = ExtOrder6
rule_of behind_fragment = ExtAfterFragment6

abbrev pub walk_by_rule : Result Walked Trouble → Result Walked Rule
walk_by_rule (Ok walked) = Ok walked
walk_by_rule (Err trouble) = Err (rule_of trouble)

-- the program's records as those of the definition
abbrev pub fragment_in : Option FragInfo → Option FragmentFields
fragment_in None = None
fragment_in (Some f) = Some (record { offset = f.offset; more = f.more; id = f.id })

abbrev pub walked : Walk → Walked
walked w = record { upper = w.upper; at = w.at; fragment = fragment_in w.frag; segments = w.segments }
