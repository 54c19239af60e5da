use Rattle.std.proofs.Common.{◌++◌, length, ap, sym, ◌∙◌}
use Rattle.std.proofs.lemmas.Result.{on_ok_weaker, on_err_weaker}
use Rattle.siit_chain.specs.Log.{leaves}
use Rattle.siit_capture.specs.Written.{written_record_head}
use Rattle.siit_chain.proofs.Grown.{entry_text-leaves, on_err_from, wrote_entry, wrote_entry_part, wrote_first_part, wrote_two, wrote_two_part}
use Rattle.siit_carry.proofs.Leaving.{output_is, text_is}
use Rattle.siit_carry.proofs.write.write_packet.Goals as goal

pub returns-then-len-le-MOST_BEHIND_HEAD-clause-ok : goal.returns-then-len-le-MOST_BEHIND_HEAD-clause-ok
returns-then-len-le-MOST_BEHIND_HEAD-clause-ok g c =
    let origin = c.args.trip.now.origin in
    let held = c.args.buf.now.bytes in
    on_ok_weaker c.write.result (wrote_entry (leaves origin c.args.to held) c.output-output.result c.bytes.result.now (output_is origin c.args.to held c.output-output.result c.output-output.ensures)
    (c.bytes.ensures.value ∙ c.replace_front.ensures.bytes ∙ ap (λ h. h ++ held) (c.record_head-head.ensures ∙ ap (λ b. written_record_head origin.seconds origin.nanos (length b)) c.bytes-len.ensures.value) ∙ sym (entry_text-leaves origin c.args.to held))) c.write.ensures.ok

pub returns-then-len-le-MOST_BEHIND_HEAD-clause-err : goal.returns-then-len-le-MOST_BEHIND_HEAD-clause-err
returns-then-len-le-MOST_BEHIND_HEAD-clause-err g c =
    let origin = c.args.trip.now.origin in
    let held = c.args.buf.now.bytes in
    on_err_weaker c.write.result (wrote_entry_part (leaves origin c.args.to held) c.output-output.result c.bytes.result.now (output_is origin c.args.to held c.output-output.result c.output-output.ensures)
    (c.bytes.ensures.value ∙ c.replace_front.ensures.bytes ∙ ap (λ h. h ++ held) (c.record_head-head.ensures ∙ ap (λ b. written_record_head origin.seconds origin.nanos (length b)) c.bytes-len.ensures.value) ∙ sym (entry_text-leaves origin c.args.to held))) c.write.ensures.err

pub returns-in_err-write-clause-err : goal.returns-in_err-write-clause-err
returns-in_err-write-clause-err g c =
    let origin = c.args.trip.now.origin in
    let held = c.args.buf.now.bytes in
    on_err_from c.from_residual.result
    (wrote_entry_part (leaves origin c.args.to held) c.output-output.result (c.record_head-head.result ++ held) (output_is origin c.args.to held c.output-output.result c.output-output.ensures)
    (ap (λ h. h ++ held) (c.record_head-head.ensures ∙ ap (λ b. written_record_head origin.seconds origin.nanos (length b)) c.bytes-len.ensures.value) ∙ sym (entry_text-leaves origin c.args.to held))
    (wrote_first_part c.output-output.result c.record_head-head.result held c.in_err-write.ensures.err))

pub returns-clause-ok : goal.returns-clause-ok
returns-clause-ok g c =
    let origin = c.args.trip.now.origin in
    let held = c.args.buf.now.bytes in
    on_ok_weaker c.write-3.result (λ grew.
    wrote_entry (leaves origin c.args.to held) c.output-output.result (c.record_head-head.result ++ c.bytes-2.result.now) (output_is origin c.args.to held c.output-output.result c.output-output.ensures)
    (text_is origin c.args.to held c.bytes-len.result.now c.bytes-2.result.now c.record_head-head.result c.bytes-len.ensures.value c.bytes-2.ensures.value c.record_head-head.ensures)
    (wrote_two c.output-output.result c.record_head-head.result c.bytes-2.result.now c.in_ok-write.ensures.only c.in_ok-write.ensures.ok grew)) c.write-3.ensures.ok

pub returns-clause-err : goal.returns-clause-err
returns-clause-err g c =
    let origin = c.args.trip.now.origin in
    let held = c.args.buf.now.bytes in
    on_err_weaker c.write-3.result (λ part.
    wrote_entry_part (leaves origin c.args.to held) c.output-output.result (c.record_head-head.result ++ c.bytes-2.result.now) (output_is origin c.args.to held c.output-output.result c.output-output.ensures)
    (text_is origin c.args.to held c.bytes-len.result.now c.bytes-2.result.now c.record_head-head.result c.bytes-len.ensures.value c.bytes-2.ensures.value c.record_head-head.ensures)
    (wrote_two_part c.output-output.result c.record_head-head.result c.bytes-2.result.now c.in_ok-write.ensures.only c.in_ok-write.ensures.ok part)) c.write-3.ensures.err
