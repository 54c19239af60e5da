use Rattle.std.proofs.Common.{List, sym, subst}
use Rattle.siit_eamt.specs.declared.entry.Eam.{Eam}
use Rattle.siit_eamt.specs.Table.{IsTable}
use Rattle.siit_eamt.proofs.Accepted.{accepted_from_parts}
use Rattle.siit_eamt.proofs.table.Eamt.build.Goals as goal

pub invariant_of-result : goal.invariant_of-result
invariant_of-result c =
    subst (λ (xs : List Eam). IsTable xs c.in_ok-intervals4.intervals4 c.in_ok-intervals6.intervals6 c.in_ok-sorted4.sorted4.items c.in_ok-sorted6.sorted6.items)
    (sym c.in_ok-entries.ensures.items)
    (record {
      accepted = accepted_from_parts c.args.entries.now c.if-entries-gt-MOST_ENTRIES.false c.in_ok-tries.ensures.faultless;
      four = c.in_ok-intervals4.ensures;
      six = c.in_ok-intervals6.ensures;
      all4 = c.in_ok-sorted4.ensures.all;
      ascending4 = c.in_ok-sorted4.ensures.ascending;
      all6 = c.in_ok-sorted6.ensures.all;
      ascending6 = c.in_ok-sorted6.ensures.ascending;
    })
