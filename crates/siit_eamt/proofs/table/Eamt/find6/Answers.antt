use Rattle.std.proofs.Common.{◌≡◌, ℕ, ◌<◌, ◌^◌, List, Option, None, Some, option_map, sym, ap, ◌∙◌, subst, refl, arith}
use Rattle.siit_eamt.specs.declared.entry.Eam.{Eam}
use Rattle.siit_eamt.specs.declared.interval.Interval.{Interval}
use Rattle.siit_eamt.specs.Entries.{holds6, length6, down}
use Rattle.siit_eamt.specs.Faults.{table_fault}
use Rattle.siit_eamt.specs.Intervals.{AnswerAs, IsAnswer, place6}
use Rattle.siit_eamt.proofs.Accepted.{good_from_accepted}
use Rattle.siit_eamt.proofs.Found.{answer_is, found_none, found_within, found_held, found_best}
use Rattle.siit_eamt.proofs.table.Eamt.find6.Goals as goal

pub returns-in_default-clause-found : goal.returns-in_default-clause-found
returns-in_default-clause-found g c =
    let answers = subst (λ (xs : List Eam). AnswerAs (place6 xs) (2 ^ 128) c.self.inside.intervals6) c.self.view_is c.self.invariant.six in
    let is = answer_is (place6 c.args.self.now) (2 ^ 128) c.self.inside.intervals6 c.args.x.0 c.args.x.0 c.find.result None answers refl (omega arith) c.find.ensures.answer c.in_default.is in
    sym (ap (option_map (λ (best : ℕ × Eam). (best.0, down best.1 c.args.x.0))) (found_none (holds6 c.args.x.0) length6 c.args.self.now is))

pub read-eam-requires : goal.read-eam-requires
read-eam-requires g c =
    let answers = subst (λ (xs : List Eam). AnswerAs (place6 xs) (2 ^ 128) c.self.inside.intervals6) c.self.view_is c.self.invariant.six in
    let is = answer_is (place6 c.args.self.now) (2 ^ 128) c.self.inside.intervals6 c.args.x.0 c.args.x.0 c.find.result (Some c.in-Some.entry) answers refl (omega arith) c.find.ensures.answer c.in-Some.is in
    found_within (holds6 c.args.x.0) length6 c.args.self.now c.in-Some.entry is

pub down-requires-clause-good : goal.down-requires-clause-good
down-requires-clause-good g c =
    let accepted = subst (λ (xs : List Eam). table_fault xs ≡ None) c.self.view_is c.self.invariant.accepted in
    good_from_accepted c.args.self.now accepted c.in-Some.entry c.read-eam.result c.read-eam.ensures.entry

pub down-requires-clause-held : goal.down-requires-clause-held
down-requires-clause-held g c =
    let answers = subst (λ (xs : List Eam). AnswerAs (place6 xs) (2 ^ 128) c.self.inside.intervals6) c.self.view_is c.self.invariant.six in
    let is = answer_is (place6 c.args.self.now) (2 ^ 128) c.self.inside.intervals6 c.args.x.0 c.args.x.0 c.find.result (Some c.in-Some.entry) answers refl (omega arith) c.find.ensures.answer c.in-Some.is in
    found_held (holds6 c.args.x.0) length6 c.args.self.now c.in-Some.entry is c.read-eam.result c.read-eam.ensures.entry

pub returns-clause-found : goal.returns-clause-found
returns-clause-found g c =
    let answers = subst (λ (xs : List Eam). AnswerAs (place6 xs) (2 ^ 128) c.self.inside.intervals6) c.self.view_is c.self.invariant.six in
    let is = answer_is (place6 c.args.self.now) (2 ^ 128) c.self.inside.intervals6 c.args.x.0 c.args.x.0 c.find.result (Some c.in-Some.entry) answers refl (omega arith) c.find.ensures.answer c.in-Some.is in
    let best = found_best (holds6 c.args.x.0) length6 c.args.self.now c.in-Some.entry is c.read-eam.result c.read-eam.ensures.entry in
    ap (λ (n : ℕ). Some (c.in-Some.entry, n)) c.down.ensures
    ∙ sym (ap (option_map (λ (best : ℕ × Eam). (best.0, down best.1 c.args.x.0))) best)
