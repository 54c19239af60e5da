use Rattle.std.proofs.Common.{refl, sym, ◌∙◌, subst}
use Rattle.siit_eamt.proofs.Disjoint.{IsDisjoint, is_the_test}
use Rattle.siit_eamt.proofs.DisjointLemmas.{NeighboursApart4, NeighboursApart6, AllClear, disjoint_from_neighbours, neighbours4_from_disjoint, neighbours6_from_disjoint}
use Rattle.siit_eamt.proofs.table.Eamt.is_disjoint.Goals as goal
use Rattle.siit_eamt.proofs.table.Eamt.is_disjoint.Goals.{then-are_apart4, else-are_apart4}

pub returns-then-are_apart6 : goal.returns-then-are_apart6
returns-then-are_apart6 c =
    let inside = c.self.inside in
    let prefix = c.args.prefix in
    is_the_test _ _ _ (elim c.if-are_apart4.branch [
      | then-are_apart4 w ↦ (
        λ clear. subst (λ xs. IsDisjoint xs prefix) c.self.view_is
            (disjoint_from_neighbours inside.entries.items inside.intervals4 inside.intervals6 inside.sorted4.items inside.sorted6.items prefix c.self.invariant
            (subst NeighboursApart4 c.deref.ensures.value (w.if-are_apart4.ensures.0 refl))
            (subst NeighboursApart6 w.deref-then-are_apart4.ensures.value (w.are_apart6.ensures.0 cc))
            (subst (λ xs. AllClear xs prefix) c.deref-then-are_apart6.ensures.value (c.are_clear_of.ensures.0 clear))),
        λ d. c.are_clear_of.ensures.1 (subst (λ xs. AllClear xs prefix) (sym (c.deref-then-are_apart6.ensures.value ∙ c.self.view_is)) d.clear),
      )
      | else-are_apart4 w ↦ absurd cc
    ])

pub returns-else-are_apart6 : goal.returns-else-are_apart6
returns-else-are_apart6 c =
    let inside = c.self.inside in
    let prefix = c.args.prefix in
    is_the_test _ _ _ (elim c.if-are_apart4.branch [
      | then-are_apart4 w ↦ (
        λ t. absurd cc,
        λ d.
            let e : IsDisjoint inside.entries.items prefix = subst (λ xs. IsDisjoint xs prefix) (sym c.self.view_is) d in
            let next = neighbours6_from_disjoint inside.entries.items inside.intervals4 inside.intervals6 inside.sorted4.items inside.sorted6.items prefix c.self.invariant e in
            w.value-is ∙ w.are_apart6.ensures.1 (subst NeighboursApart6 (sym w.deref-then-are_apart4.ensures.value) next),
      )
      | else-are_apart4 w ↦ (
        λ t. absurd cc,
        λ d.
            let e : IsDisjoint inside.entries.items prefix = subst (λ xs. IsDisjoint xs prefix) (sym c.self.view_is) d in
            let next = neighbours4_from_disjoint inside.entries.items inside.intervals4 inside.intervals6 inside.sorted4.items inside.sorted6.items prefix c.self.invariant e in
            let apart = c.are_apart4.ensures.1 (subst NeighboursApart4 (sym c.deref.ensures.value) next) in
            absurd cc,
      )
    ])
