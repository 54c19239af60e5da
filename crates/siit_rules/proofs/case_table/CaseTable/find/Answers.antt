use Rattle.std.proofs.Common.{rules, Ok, Err, sym}
use Rattle.std.proofs.lemmas.List.Sorted.{answers_always}
use Rattle.siit_rules.proofs.Cases.{searched}
use Rattle.siit_rules.proofs.case_table.CaseTable.find.Goals as goal

pub returns-in-Ok : goal.returns-in-Ok
returns-in-Ok g c =
    let facts = c.in-Ok.ensures in
    let by_key = facts.position (λ row. row.0) (answers_always _ _ _ (λ f a r g called. search rules)) in
    rw (← c.self.view_is) (sym (searched c.self.inside.rows c.self.invariant c.args.key (Ok c.in-Ok.place) facts.bound by_key))

pub returns-in-Err : goal.returns-in-Err
returns-in-Err g c =
    let facts = c.in-Err.ensures in
    let by_key = facts.position (λ row. row.0) (answers_always _ _ _ (λ f a r g called. search rules)) in
    rw (← c.self.view_is) (sym (searched c.self.inside.rows c.self.invariant c.args.key (Err c.in-Err.field-0) facts.bound by_key))
