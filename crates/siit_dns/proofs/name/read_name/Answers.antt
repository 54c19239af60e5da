use Rattle.std.proofs.Common.{◌-◌, Some, sym, refl}
use Rattle.siit_model.specs.Bytes.{part}
use Rattle.siit_dns.specs.Names.{Run}
use Rattle.siit_dns.proofs.NamesRead.{IsReadOn, goes_on, later-lacks}
use Rattle.siit_dns.proofs.name.read_name.Goals as goal

pub returns-in_err-run-clause-value : goal.returns-in_err-run-clause-value
returns-in_err-run-clause-value c =
    let so_far : IsReadOn c.args.bytes.now c.args.place c.runs.limit c.runs.name.items (Some c.in-Some.next) = rw c.in-Some.is at c.runs.invariant in
    rw c.from_residual-in_err-run.ensures
    (sym (later-lacks c.args.bytes.now c.args.place c.runs.limit c.in-Some.next c.runs.name.items so_far c.if-next-limit.false (c.in_err-run.ensures.none refl)))

pub runs-preserved : goal.runs-preserved
runs-preserved c =
    let so_far : IsReadOn c.args.bytes.now c.args.place c.runs.limit c.runs.name.items (Some c.in-Some.next) = rw c.in-Some.is at c.runs.invariant in
    let read : Run = record { labels = part c.args.bytes.now c.in-Some.next (c.in_ok-run.run'.end - c.in-Some.next); target = c.in_ok-run.run'.target } in
    rw c.in_ok-run.ensures.pushed
    (goes_on c.args.bytes.now c.args.place c.runs.limit c.in-Some.next c.runs.name.items read so_far c.if-next-limit.false c.in_ok-run.ensures.run)
