use Rattle.std.proofs.Common.{◌≡◌, ◌∙◌, ℕ, ◌+◌, ◌<◌, ◌^◌, ◌++◌, Option, Some, None, option_map, List, length, drop, ap, sym, subst, arith}
use Rattle.siit_capture.specs.Fronts.{whole}
use Rattle.siit_capture.specs.Heads.{head_front}
use Rattle.siit_capture.specs.Holding.{found_record}
use Rattle.siit_capture.specs.Queues.{Queue}
use Rattle.siit_capture.specs.Readings.{Reading, WaitsForBytes, fed, records_fed, records_to_come, with_piece}
use Rattle.siit_capture.specs.Records.{Record}
use Rattle.siit_capture.proofs.Pieces.{fed_with_piece, head_few, none_by, records_with_piece, waiting_rest, whole_with_piece}
use Rattle.siit_capture.proofs.reader.CaptureReader.feed.Goals as goal

pub push-requires : goal.push-requires
push-requires c =
    let r = c.self.inside in
    let waits : WaitsForBytes (records_fed (record { form = r.form; place = r.place; count = r.count; found = None; rest = r.queue.rest })) =
    subst (λ (v : Reading). WaitsForBytes (records_fed v)) (sym c.self.view_is) c.requires.waits in
    omega (arith, waiting_rest r.form r.place r.queue.rest c.self.invariant.head waits, c.requires.size)

pub overflow_add-self : goal.overflow_add-self
overflow_add-self c =
    let r = c.self.inside in
    let all : List ℕ = r.queue.rest ++ c.args.piece.now in
    let pushed : c.push.new.self.rest ≡ all = ap (λ (q : Queue). q.rest) c.push.ensures in
    let head : head_front all ≡ whole c.in-Some.form (drop 24 all) = subst (λ (xs : List ℕ). head_front xs ≡ whole c.in-Some.form (drop 24 xs)) (c.rest.ensures ∙ pushed) c.in-Some.ensures in
    let few : r.place + length r.queue.rest + length c.args.piece.now < 2 ^ 64 = subst (λ (v : Reading). fed v + length c.args.piece.now < 2 ^ 64) (sym c.self.view_is) c.requires.fed in
    omega (arith, head_few r.place r.queue.rest c.args.piece.now c.in-Some.form (drop 24 all) few head)

pub invariant_of-self-2 : goal.invariant_of-self-2
invariant_of-self-2 c =
    let r = c.self.inside in
    let all : List ℕ = r.queue.rest ++ c.args.piece.now in
    let pushed : c.push.new.self.rest ≡ all = ap (λ (q : Queue). q.rest) c.push.ensures in
    let head : head_front all ≡ whole c.in-Some.form (drop 24 all) = subst (λ (xs : List ℕ). head_front xs ≡ whole c.in-Some.form (drop 24 xs)) (c.rest.ensures ∙ pushed) c.in-Some.ensures in
    let few : r.place + length r.queue.rest + length c.args.piece.now < 2 ^ 64 = subst (λ (v : Reading). fed v + length c.args.piece.now < 2 ^ 64) (sym c.self.view_is) c.requires.fed in
    let left : length c.take.new.self.rest ≡ length (drop 24 all) = ap (λ (q : Queue). length q.rest) c.take.ensures ∙ ap (λ xs. length (drop 24 xs)) pushed in
    record {
      few = omega (arith, left, head_few r.place r.queue.rest c.args.piece.now c.in-Some.form (drop 24 all) few head);
      counted = omega (arith, c.self.invariant.counted);
      head = tt;
      item = λ some. cc;
    }

pub returns-clause-records : goal.returns-clause-records
returns-clause-records c =
    let r = c.self.inside in
    let piece : List ℕ = c.args.piece.now in
    let all : List ℕ = r.queue.rest ++ piece in
    let last : Option Record = option_map (found_record r.queue.taken) r.found in
    let old : Reading = record { form = r.form; place = r.place; count = r.count; found = last; rest = r.queue.rest } in
    let new : Reading = record { form = Some c.in-Some.form; place = r.place + 24; count = r.count; found = None; rest = c.take.new.self.rest } in
    let pushed : c.push.new.self.rest ≡ all = ap (λ (q : Queue). q.rest) c.push.ensures in
    let head : head_front all ≡ whole c.in-Some.form (drop 24 all) = subst (λ (xs : List ℕ). head_front xs ≡ whole c.in-Some.form (drop 24 xs)) (c.rest.ensures ∙ pushed) c.in-Some.ensures in
    let left : c.take.new.self.rest ≡ drop 24 all = ap (λ (q : Queue). q.rest) c.take.ensures ∙ ap (drop 24) pushed in
    let made : new ≡ with_piece old piece = whole_with_piece r.form r.place r.count last r.queue.rest piece c.take.new.self.rest c.in-Some.form (none_by r.form c.if-is_some.ensures) head left in
    λ more. ap (λ (v : Reading). records_to_come v more) made ∙ records_with_piece old piece more ∙ ap (λ (v : Reading). records_to_come v (piece ++ more)) c.self.view_is

pub returns-clause-fed : goal.returns-clause-fed
returns-clause-fed c =
    let r = c.self.inside in
    let piece : List ℕ = c.args.piece.now in
    let all : List ℕ = r.queue.rest ++ piece in
    let last : Option Record = option_map (found_record r.queue.taken) r.found in
    let old : Reading = record { form = r.form; place = r.place; count = r.count; found = last; rest = r.queue.rest } in
    let new : Reading = record { form = Some c.in-Some.form; place = r.place + 24; count = r.count; found = None; rest = c.take.new.self.rest } in
    let pushed : c.push.new.self.rest ≡ all = ap (λ (q : Queue). q.rest) c.push.ensures in
    let head : head_front all ≡ whole c.in-Some.form (drop 24 all) = subst (λ (xs : List ℕ). head_front xs ≡ whole c.in-Some.form (drop 24 xs)) (c.rest.ensures ∙ pushed) c.in-Some.ensures in
    let left : c.take.new.self.rest ≡ drop 24 all = ap (λ (q : Queue). q.rest) c.take.ensures ∙ ap (drop 24) pushed in
    let made : new ≡ with_piece old piece = whole_with_piece r.form r.place r.count last r.queue.rest piece c.take.new.self.rest c.in-Some.form (none_by r.form c.if-is_some.ensures) head left in
    ap fed made ∙ fed_with_piece old piece ∙ ap (λ (v : Reading). fed v + length piece) c.self.view_is
