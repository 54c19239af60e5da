use Rattle.std.proofs.Common.{[], ◌∷◌, refl}
use Rattle.std.proofs.lemmas.Result.{on_ok_weaker, on_err_weaker}
use Rattle.siit_chain.specs.Log.{begins, entry_text}
use Rattle.siit_chain.specs.declared.origin.End.TheVariants as ends
use Rattle.siit_chain.specs.declared.origin.Output.TheVariants as outputs
use Rattle.siit_chain.proofs.Grown.{log_part_of_more, log_then_part, log_twice, on_err_from, wrote_entry, wrote_entry_part}
use Rattle.siit_running.proofs.running.write_heads.Goals as goal

pub returns-in_err-write-clause-err : goal.returns-in_err-write-clause-err
unfolding entry_text
returns-in_err-write-clause-err g c =
    let first = begins ends.Left in
    let second = begins ends.Right in
    on_err_from c.from_residual.result
    (log_part_of_more (first ∷ []) (second ∷ []) (wrote_entry_part first outputs.Left c.capture_head-head.result refl c.capture_head-head.ensures c.in_err-write.ensures.err))

pub returns-clause-ok : goal.returns-clause-ok
unfolding entry_text
returns-clause-ok g c =
    let first = begins ends.Left in
    let second = begins ends.Right in
    on_ok_weaker c.write-2.result (λ grew.
    log_twice (first ∷ []) (second ∷ []) c.in_ok-write.ensures.only
    (wrote_entry first outputs.Left c.capture_head-head.result refl c.capture_head-head.ensures c.in_ok-write.ensures.ok)
    (wrote_entry second outputs.Right c.capture_head-head.result refl c.capture_head-head.ensures grew)) c.write-2.ensures.ok

pub returns-clause-err : goal.returns-clause-err
unfolding entry_text
returns-clause-err g c =
    let first = begins ends.Left in
    let second = begins ends.Right in
    on_err_weaker c.write-2.result (λ part.
    log_then_part (first ∷ []) (second ∷ []) c.in_ok-write.ensures.only
    (wrote_entry first outputs.Left c.capture_head-head.result refl c.capture_head-head.ensures c.in_ok-write.ensures.ok)
    (wrote_entry_part second outputs.Right c.capture_head-head.result refl c.capture_head-head.ensures part)) c.write-2.ensures.err
