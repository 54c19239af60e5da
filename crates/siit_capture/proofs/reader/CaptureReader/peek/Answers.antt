use Rattle.std.proofs.Common.{◌≡◌, Option, None, Ok, Err, option_map, List, ℕ, subst}
use Rattle.siit_capture.specs.Heads.{head_front}
use Rattle.siit_capture.specs.Holding.{found_record}
use Rattle.siit_capture.specs.Peeks.{Peeks}
use Rattle.siit_capture.specs.Readings.{Reading}
use Rattle.siit_capture.specs.Records.{Record}
use Rattle.siit_capture.specs.Told.{IsTold, told_head}
use Rattle.siit_capture.proofs.Next.{faulty_head, next_head, next_record}
use Rattle.siit_capture.proofs.reader.CaptureReader.peek.Goals as goal

pub returns-in-Some : goal.returns-in-Some
returns-in-Some c =
    let r = c.self.inside in
    let answer = c.read_record.result in
    let last : Option Record = option_map (found_record r.queue.taken) r.found in
    let told : IsTold c.in-Some.form answer r.queue.rest = subst (λ (xs : List ℕ). IsTold c.in-Some.form answer xs) c.rest.ensures c.read_record.ensures in
    subst (λ (v : Reading). Peeks answer v) c.self.view_is (next_record r.form c.in-Some.form r.place r.count last r.queue.rest answer c.in-Some.is told)

pub returns-in-Ok : goal.returns-in-Ok
returns-in-Ok c =
    let r = c.self.inside in
    let last : Option Record = option_map (found_record r.queue.taken) r.found in
    let told : told_head (Ok c.in-Ok.field-0) r.queue.rest ≡ head_front r.queue.rest =
    subst (λ (xs : List ℕ). told_head (Ok c.in-Ok.field-0) xs ≡ head_front xs) c.rest-in-None.ensures c.in-Ok.ensures in
    subst (λ (v : Reading). Peeks (Ok None) v) c.self.view_is (next_head r.form r.place r.count last r.queue.rest c.in-Ok.field-0 c.in-None.is c.self.invariant.head told)

pub returns-in-Err : goal.returns-in-Err
returns-in-Err c =
    let r = c.self.inside in
    let last : Option Record = option_map (found_record r.queue.taken) r.found in
    let told : told_head (Err c.in-Err.fault) r.queue.rest ≡ head_front r.queue.rest =
    subst (λ (xs : List ℕ). told_head (Err c.in-Err.fault) xs ≡ head_front xs) c.rest-in-None.ensures c.in-Err.ensures in
    subst (λ (v : Reading). Peeks (Err c.in-Err.fault) v) c.self.view_is (faulty_head r.form r.place r.count last r.queue.rest c.in-Err.fault c.in-None.is told)
