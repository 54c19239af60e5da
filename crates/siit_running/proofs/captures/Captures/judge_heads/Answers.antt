use Rattle.std.proofs.Common.{None, ap, sym, ◌∙◌}
use Rattle.std.specs.Vec.{with_items}
use Rattle.std.proofs.lemmas.Result.{err_from_is_err_and}
use Rattle.siit_chain.specs.declared.origin.End.TheVariants.{Left, Right}
use Rattle.siit_run.specs.Runs.{begun, head_fault}
use Rattle.siit_running.specs.Ends.{rest_of, HasBadHead}
use Rattle.siit_running.specs.Inputs.{input_name}
use Rattle.siit_running.specs.Sources.{file_named}
use Rattle.siit_running.specs.declared.captures.Captures.{Captures}
use Rattle.siit_running.proofs.BothLooks.{begun_left, begun_right, head_bad, head_good, judged_fault, looked_before, may_fail, right_fault, source_then}
use Rattle.siit_running.proofs.Exits.{if_err_by, on_ok_by}
use Rattle.siit_running.proofs.Sides.{told_in}
use Rattle.siit_running.proofs.captures.Captures.judge_heads.Goals as goal

pub look-requires-clause-source : goal.look-requires-clause-source
look-requires-clause-source g c = c.requires.sources Left

pub look-requires-2-clause-source : goal.look-requires-2-clause-source
look-requires-2-clause-source g c =
    source_then (input_name c.args.inputs Right) c.in_ok-left.ensures.only c.args.self.now.right (c.requires.sources Right)

pub returns-in_err-judge_head-clause-fault : goal.returns-in_err-judge_head-clause-fault
returns-in_err-judge_head-clause-fault g c =
    let a = g.F.Files.meaning c.args.files.now in
    let names = input_name c.args.inputs in
    let old = c.args.self.now in
    let new : Captures = record { left = c.look.new.self; right = old.right; piece = with_items old.piece c.look.new.piece } in
    let fault = c.in_err-judge_head.field-0.0 in
    let from = err_from_is_err_and c.from_residual-in_err-judge_head.result c.from_residual-in_err-judge_head.ensures.1 in
    rw (from.1, from.2)
    (judged_fault a (g.F.Files.meaning c.look.new.files) names old new (HasBadHead a names old) c.in_ok-left.left Left fault c.in_err-judge_head.ensures
    (may_fail (file_named a (names Left)) c.look.new.self c.in_ok-left.left c.in_ok-left.ensures.known c.in_ok-left.ensures.looked.source) (λ told e place f is.
    let bad = head_bad (file_named a (names Left)) old.left c.look.new.self c.in_ok-left.left c.in_ok-left.ensures.known c.in_ok-left.ensures.looked (told_in a (names Left) (told Left)) Left fault e place f c.in_err-judge_head.ensures is in
    begun_left (head_fault (rest_of a names old Left)) (head_fault (rest_of a names old Right)) e place f bad.0 bad.1 bad.2))

pub returns-in_err-right-clause-fault : goal.returns-in_err-right-clause-fault
returns-in_err-right-clause-fault g c =
    let a = g.F.Files.meaning c.args.files.now in
    let names = input_name c.args.inputs in
    let old = c.args.self.now in
    let new : Captures = record { left = c.look.new.self; right = c.look-2.new.self; piece = with_items (with_items old.piece c.look.new.piece) c.look-2.new.piece } in
    let from = err_from_is_err_and c.from_residual-in_err-right.result c.from_residual-in_err-right.ensures.1 in
    rw (from.1, from.2)
    (right_fault a (g.F.Files.meaning c.look.new.files) names old new (HasBadHead a names old) (g.F.Files.meaning c.look-2.new.files) c.in_ok-left.ensures.only c.in_ok-left.ensures.read c.in_err-right.ensures.only c.in_err-right.field-0.0 c.in_err-right.ensures.fault)

pub returns-clause-good : goal.returns-clause-good
returns-clause-good g c =
    let a = g.F.Files.meaning c.args.files.now in
    let names = input_name c.args.inputs in
    let old = c.args.self.now in
    on_ok_by c.judge_head-2.result (λ is told.
    let left = head_good (file_named a (names Left)) old.left c.look.new.self c.in_ok-left.left c.in_ok-left.ensures.known c.in_ok-left.ensures.looked (told_in a (names Left) (told Left)) Left c.in_ok-judge_head.ensures in
    let looked = looked_before (names Right) c.in_ok-left.ensures.only old.right c.look-2.new.self c.in_ok-right.ensures.looked in
    let right = head_good (file_named a (names Right)) old.right c.look-2.new.self c.in_ok-right.right c.in_ok-right.ensures.known looked (told_in a (names Right) (told Right)) Right (is ∙ c.judge_head-2.ensures) in
    ap (λ l. begun l (head_fault (rest_of a names old Right))) left ∙ ap (λ r. begun None r) right)

pub returns-clause-fault : goal.returns-clause-fault
returns-clause-fault g c =
    let a = g.F.Files.meaning c.args.files.now in
    let names = input_name c.args.inputs in
    let old = c.args.self.now in
    let new : Captures = record { left = c.look.new.self; right = c.look-2.new.self; piece = with_items (with_items old.piece c.look.new.piece) c.look-2.new.piece } in
    if_err_by c.judge_head-2.result _ (λ fault is.
    judged_fault a (g.F.Files.meaning c.look-2.new.files) names old new (HasBadHead a names old) c.in_ok-right.right Right fault (sym is ∙ c.judge_head-2.ensures)
    (may_fail (file_named a (names Right)) c.look-2.new.self c.in_ok-right.right c.in_ok-right.ensures.known (looked_before (names Right) c.in_ok-left.ensures.only old.right c.look-2.new.self c.in_ok-right.ensures.looked).source) (λ told e place f h.
    let left = head_good (file_named a (names Left)) old.left c.look.new.self c.in_ok-left.left c.in_ok-left.ensures.known c.in_ok-left.ensures.looked (told_in a (names Left) (told Left)) Left c.in_ok-judge_head.ensures in
    let looked = looked_before (names Right) c.in_ok-left.ensures.only old.right c.look-2.new.self c.in_ok-right.ensures.looked in
    let bad = head_bad (file_named a (names Right)) old.right c.look-2.new.self c.in_ok-right.right c.in_ok-right.ensures.known looked (told_in a (names Right) (told Right)) Right fault e place f (sym is ∙ c.judge_head-2.ensures) h in
    begun_right (head_fault (rest_of a names old Left)) (head_fault (rest_of a names old Right)) e place f bad.0 bad.1 left bad.2))
