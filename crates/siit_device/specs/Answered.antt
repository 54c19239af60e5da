-- Rules that are answered by an ICMP error.
use Rattle.std.specs.Prelude.{Bool, true, false}
use Rattle.siit_rules.specs.Rows.{row_of}
use Rattle.siit_rules.specs.declared.rule.Answer.{Answer}
use Rattle.siit_rules.specs.declared.rule.Answer.TheVariants.{Silent}
use Rattle.siit_rules.specs.declared.rule.Rule.{Rule}

abbrev pub is_error : Answer → Bool
is_error Silent = false
is_error _ = true

abbrev pub is_answered : Rule → Bool
is_answered rule = is_error (row_of rule).answer
