use Rattle.std.proofs.Common.{Option, sym, subst}
use Rattle.std.specs.Vec.{with_items}
use Rattle.std.proofs.lemmas.Result.{err_from_is_err_and}
use Rattle.siit_chain.specs.declared.origin.End.TheVariants.{Left, Right}
use Rattle.siit_chain.specs.declared.origin.Origin.{Origin}
use Rattle.siit_running.specs.Ends.{HasFault, IsChosen}
use Rattle.siit_running.specs.Inputs.{input_name}
use Rattle.siit_running.specs.Sources.{file_named}
use Rattle.siit_running.specs.declared.captures.Captures.{Captures}
use Rattle.siit_running.proofs.BothLooks.{have_looked, is_chosen, looked_before, may_fail, no_fault, rest_fault, right_fault, source_then, told_fault, told_next}
use Rattle.siit_running.proofs.Sides.{told_in}
use Rattle.siit_running.proofs.captures.Captures.next_origin.Goals as goal

pub look-requires-clause-source : goal.look-requires-clause-source
look-requires-clause-source g c = c.requires.sources Left

pub look-requires-2-clause-source : goal.look-requires-2-clause-source
look-requires-2-clause-source g c =
    source_then (input_name c.args.inputs Right) c.in_ok-left.ensures.only c.args.self.now.right (c.requires.sources Right)

pub returns-in_err-left-2-clause-fault : goal.returns-in_err-left-2-clause-fault
returns-in_err-left-2-clause-fault g c =
    let a = g.F.Files.meaning c.args.files.now in
    let names = input_name c.args.inputs in
    let old = c.args.self.now in
    let new : Captures = record { left = c.look.new.self; right = old.right; piece = with_items old.piece c.look.new.piece } in
    let from = err_from_is_err_and c.from_residual-in_err-left-2.result c.from_residual-in_err-left-2.ensures.1 in
    rw (from.1, from.2)
    (told_fault a (g.F.Files.meaning c.look.new.files) names old new (HasFault a names old) c.in_ok-left.left Left c.in_err-left-2.field-0.0 c.in_err-left-2.ensures
    (may_fail (file_named a (names Left)) c.look.new.self c.in_ok-left.left c.in_ok-left.ensures.known c.in_ok-left.ensures.looked.source) (λ told place f is.
    rest_fault (file_named a (names Left)) old.left c.look.new.self c.in_ok-left.left c.in_ok-left.ensures.known c.in_ok-left.ensures.looked place f is (told_in a (names Left) (told Left))))

pub returns-in_err-right-clause-fault : goal.returns-in_err-right-clause-fault
returns-in_err-right-clause-fault g c =
    let a = g.F.Files.meaning c.args.files.now in
    let names = input_name c.args.inputs in
    let old = c.args.self.now in
    let new : Captures = record { left = c.look.new.self; right = c.look-2.new.self; piece = with_items (with_items old.piece c.look.new.piece) c.look-2.new.piece } in
    let from = err_from_is_err_and c.from_residual-in_err-right.result c.from_residual-in_err-right.ensures.1 in
    rw (from.1, from.2)
    (right_fault a (g.F.Files.meaning c.look.new.files) names old new (HasFault a names old) (g.F.Files.meaning c.look-2.new.files) c.in_ok-left.ensures.only c.in_ok-left.ensures.read c.in_err-right.ensures.only c.in_err-right.field-0.0 c.in_err-right.ensures.fault)

pub returns-in_err-right-2-clause-fault : goal.returns-in_err-right-2-clause-fault
returns-in_err-right-2-clause-fault g c =
    let a = g.F.Files.meaning c.args.files.now in
    let names = input_name c.args.inputs in
    let old = c.args.self.now in
    let new : Captures = record { left = c.look.new.self; right = c.look-2.new.self; piece = with_items (with_items old.piece c.look.new.piece) c.look-2.new.piece } in
    let from = err_from_is_err_and c.from_residual-in_err-right-2.result c.from_residual-in_err-right-2.ensures.1 in
    let looked = looked_before (names Right) c.in_ok-left.ensures.only old.right c.look-2.new.self c.in_ok-right.ensures.looked in
    let before = told_next c.in_ok-left.left Left c.in_ok-left-2.left c.in_ok-left-2.ensures in
    rw (from.1, from.2)
    (told_fault a (g.F.Files.meaning c.look-2.new.files) names old new (HasFault a names old) c.in_ok-right.right Right c.in_err-right-2.field-0.0 c.in_err-right-2.ensures
    (may_fail (file_named a (names Right)) c.look-2.new.self c.in_ok-right.right c.in_ok-right.ensures.known (looked_before (names Right) c.in_ok-left.ensures.only old.right c.look-2.new.self c.in_ok-right.ensures.looked).source) (λ told place f is. (
      no_fault (file_named a (names Left)) old.left c.look.new.self c.in_ok-left.left c.in_ok-left.ensures.known c.in_ok-left.ensures.looked c.in_ok-left-2.left before (told_in a (names Left) (told Left)),
      rest_fault (file_named a (names Right)) old.right c.look-2.new.self c.in_ok-right.right c.in_ok-right.ensures.known looked place f is (told_in a (names Right) (told Right)),
    )))

pub returns-clause-chosen : goal.returns-clause-chosen
returns-clause-chosen g c =
    let a = g.F.Files.meaning c.args.files.now in
    let names = input_name c.args.inputs in
    let old = c.args.self.now in
    let new : Captures = record { left = c.look.new.self; right = c.look-2.new.self; piece = with_items (with_items old.piece c.look.new.piece) c.look-2.new.piece } in
    let looked = looked_before (names Right) c.in_ok-left.ensures.only old.right c.look-2.new.self c.in_ok-right.ensures.looked in
    subst (λ (o : Option Origin). IsChosen a names old new o) (sym c.earlier.ensures)
    (is_chosen a names old new c.in_ok-left.left c.in_ok-right.right c.in_ok-left.ensures.known c.in_ok-right.ensures.known (have_looked a names old new c.in_ok-left.ensures.looked looked)
    c.in_ok-left-2.left c.in_ok-right-2.right (told_next c.in_ok-left.left Left c.in_ok-left-2.left c.in_ok-left-2.ensures) (told_next c.in_ok-right.right Right c.in_ok-right-2.right c.in_ok-right-2.ensures))
