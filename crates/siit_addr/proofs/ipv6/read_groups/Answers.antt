use Rattle.std.proofs.Common.{sym}
use Rattle.std.proofs.lemmas.Bool.{eqb-true}
use Rattle.siit_addr.proofs.GroupLists.{part-full}
use Rattle.siit_addr.proofs.ipv6.read_groups.Goals as goal

pub returns-then-is_full : goal.returns-then-is_full
returns-then-is_full c =
    part-full c.args.at_end c.args.text.now c.loop-part.groups.items c.in-Some.part.now c.in-Some.behind.now c.loop-part.rest.now
    c.in_ok-group.group c.loop-part.invariant c.in-Some.ensures.parts (sym c.in_ok-group.ensures)
    (eqb-true _ _ (sym c.if-is_full.ensures.value))
