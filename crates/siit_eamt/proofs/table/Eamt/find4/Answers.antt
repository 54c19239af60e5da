use Rattle.std.proofs.Common.{◌≡◌, ℕ, ◌<◌, ◌^◌, List, Option, None, Some, option_map, sym, ap, ◌∙◌, subst, arith}
use Rattle.siit_eamt.specs.declared.entry.Eam.{Eam}
use Rattle.siit_eamt.specs.declared.interval.Interval.{Interval}
use Rattle.siit_eamt.specs.Entries.{holds4, length4, up}
use Rattle.siit_eamt.specs.Faults.{table_fault}
use Rattle.siit_eamt.specs.Intervals.{AnswerAs, IsAnswer, place4}
use Rattle.siit_eamt.proofs.Accepted.{good_from_accepted}
use Rattle.siit_eamt.proofs.Found.{answer_is, found_none, found_within, found_held, found_best}
use Rattle.siit_eamt.proofs.table.Eamt.find4.Goals as goal

pub returns-in_default-clause-found : goal.returns-in_default-clause-found
returns-in_default-clause-found g c =
    let answers = subst (λ (xs : List Eam). AnswerAs (place4 xs) (2 ^ 32) c.self.inside.intervals4) c.self.view_is c.self.invariant.four in
    let is = answer_is (place4 c.args.self.now) (2 ^ 32) c.self.inside.intervals4 c.from.result c.args.a.0 c.find.result None answers c.from.ensures (omega arith) c.find.ensures.answer c.in_default.is in
    sym (ap (option_map (λ (best : ℕ × Eam). (best.0, up best.1 c.args.a.0))) (found_none (holds4 c.args.a.0) length4 c.args.self.now is))

pub read-eam-requires : goal.read-eam-requires
read-eam-requires g c =
    let answers = subst (λ (xs : List Eam). AnswerAs (place4 xs) (2 ^ 32) c.self.inside.intervals4) c.self.view_is c.self.invariant.four in
    let is = answer_is (place4 c.args.self.now) (2 ^ 32) c.self.inside.intervals4 c.from.result c.args.a.0 c.find.result (Some c.in-Some.entry) answers c.from.ensures (omega arith) c.find.ensures.answer c.in-Some.is in
    found_within (holds4 c.args.a.0) length4 c.args.self.now c.in-Some.entry is

pub up-requires-clause-good : goal.up-requires-clause-good
up-requires-clause-good g c =
    let accepted = subst (λ (xs : List Eam). table_fault xs ≡ None) c.self.view_is c.self.invariant.accepted in
    good_from_accepted c.args.self.now accepted c.in-Some.entry c.read-eam.result c.read-eam.ensures.entry

pub up-requires-clause-held : goal.up-requires-clause-held
up-requires-clause-held g c =
    let answers = subst (λ (xs : List Eam). AnswerAs (place4 xs) (2 ^ 32) c.self.inside.intervals4) c.self.view_is c.self.invariant.four in
    let is = answer_is (place4 c.args.self.now) (2 ^ 32) c.self.inside.intervals4 c.from.result c.args.a.0 c.find.result (Some c.in-Some.entry) answers c.from.ensures (omega arith) c.find.ensures.answer c.in-Some.is in
    found_held (holds4 c.args.a.0) length4 c.args.self.now c.in-Some.entry is c.read-eam.result c.read-eam.ensures.entry

pub returns-clause-found : goal.returns-clause-found
returns-clause-found g c =
    let answers = subst (λ (xs : List Eam). AnswerAs (place4 xs) (2 ^ 32) c.self.inside.intervals4) c.self.view_is c.self.invariant.four in
    let is = answer_is (place4 c.args.self.now) (2 ^ 32) c.self.inside.intervals4 c.from.result c.args.a.0 c.find.result (Some c.in-Some.entry) answers c.from.ensures (omega arith) c.find.ensures.answer c.in-Some.is in
    let best = found_best (holds4 c.args.a.0) length4 c.args.self.now c.in-Some.entry is c.read-eam.result c.read-eam.ensures.entry in
    ap (λ (n : ℕ). Some (c.in-Some.entry, n)) c.up.ensures
    ∙ sym (ap (option_map (λ (best : ℕ × Eam). (best.0, up best.1 c.args.a.0))) best)
