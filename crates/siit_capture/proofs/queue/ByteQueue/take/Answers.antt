use Rattle.std.proofs.Common.{◌≡◌, ◌∙◌, ◌+◌, ◌≤◌, ap, length, take, drop, arith}
use Rattle.std.specs.List.{slice_range}
use Rattle.std.proofs.lemmas.List.Edits.{length-between}
use Rattle.siit_capture.specs.Queues.{Queue}
use Rattle.siit_capture.proofs.Places.{slice_range-drop, slice_range-take}
use Rattle.siit_capture.proofs.queue.ByteQueue.take.Goals as goal

pub returns : goal.returns
returns c =
    let q = c.self.inside in
    let n = c.args.n in
    let held : slice_range q.memory.items q.start q.end ≡ c.args.self.now.rest = ap (λ (v : Queue). v.rest) c.self.view_is in
    let fits : q.start + n ≤ q.end =
    omega (arith, ap length held, length-between q.memory.items q.start q.end (omega (arith, c.self.invariant.size, c.self.invariant.within)), c.requires, c.self.invariant.ordered) in
    let front : slice_range q.memory.items q.start (q.start + n) ≡ take n c.args.self.now.rest =
    slice_range-take q.memory.items q.start n q.end fits ∙ ap (take n) held in
    let behind : slice_range q.memory.items (q.start + n) q.end ≡ drop n c.args.self.now.rest =
    slice_range-drop q.memory.items q.start n q.end fits ∙ ap (drop n) held in
    λ i. record { taken = front i; rest = behind i }
