use Rattle.std.proofs.Common.{sym, ◌∙◌}
use Rattle.siit_command.proofs.Names.{among_more}
use Rattle.siit_command.proofs.words.is_output_name.Goals as goal

pub loop-rest-preserved : goal.loop-rest-preserved
loop-rest-preserved c =
    c.loop-rest.invariant ∙ among_more (λ other. other.now) c.args.output.now c.loop-rest.rest.now _ c.in-len1-up.len_at_least (sym c.eq.ensures ∙ c.if-eq.false)
