use Rattle.std.proofs.Common.{◌≡◌, ◌∙◌, ◌+◌, ◌-◌, Option, option_map, length, ap, sym, subst, arith, length-take, length-drop, []}
use Rattle.siit_capture.specs.Holding.{found_record}
use Rattle.siit_capture.specs.Peeks.{IsNext}
use Rattle.siit_capture.specs.Queues.{Queue}
use Rattle.siit_capture.specs.Readings.{Reading, with_record}
use Rattle.siit_capture.specs.Records.{Record}
use Rattle.siit_capture.specs.Told.{told_record}
use Rattle.siit_capture.proofs.Next.{given_reading}
use Rattle.siit_capture.proofs.Pieces.{past_head_by_record}
use Rattle.siit_capture.proofs.reader.CaptureReader.give.Goals as goal

pub returns-clause-reading : goal.returns-clause-reading
returns-clause-reading c =
    let r = c.self.inside in
    let head = c.args.head in
    let last : Option Record = option_map (found_record r.queue.taken) r.found in
    let next : IsNext head (record { form = r.form; place = r.place; count = r.count; found = last; rest = r.queue.rest }) = subst (λ (v : Reading). IsNext head v) (sym c.self.view_is) c.requires.next in
    given_reading r.form r.place r.count last c.take.new.self r.queue.rest head c.take.ensures next
    ∙ ap (λ (v : Reading). with_record (told_record head v.rest) v) c.self.view_is

pub invariant_of-self : goal.invariant_of-self
invariant_of-self c =
    let r = c.self.inside in
    let head = c.args.head in
    let last : Option Record = option_map (found_record r.queue.taken) r.found in
    let next : IsNext head (record { form = r.form; place = r.place; count = r.count; found = last; rest = r.queue.rest }) = subst (λ (v : Reading). IsNext head v) (sym c.self.view_is) c.requires.next in
    let left : length c.take.new.self.rest ≡ length r.queue.rest - (16 + head.captured) = ap (λ (q : Queue). length q.rest) c.take.ensures ∙ length-drop (16 + head.captured) r.queue.rest in
    record {
      few = omega (arith, left, next.fits, c.self.invariant.few);
      counted = omega (arith, c.self.invariant.counted);
      head = past_head_by_record r.form r.place r.queue.rest c.take.new.self.rest _ _ _ c.self.invariant.head (next.records []);
      item = λ some. omega (arith, ap (λ (q : Queue). length q.taken) c.take.ensures, length-take (16 + head.captured) r.queue.rest, next.fits);
    }
