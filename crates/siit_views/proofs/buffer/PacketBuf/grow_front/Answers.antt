use Rattle.std.proofs.Common.{◌≡◌, ◌∙◌, ◌+◌, ◌-◌, ◌++◌, ap, replicate, arith, rules}
use Rattle.std.specs.List.{slice_range}
use Rattle.siit_views.specs.Contents.{Contents}
use Rattle.siit_views.proofs.Places.{slice_range-grown}
use Rattle.siit_views.proofs.buffer.PacketBuf.grow_front.Goals as goal

pub returns-clause-bytes : goal.returns-clause-bytes
returns-clause-bytes c =
    let b = c.self.inside in
    let held : slice_range b.room.items b.start b.end ≡ c.args.self.now.bytes = ap (λ (v : Contents). v.bytes) c.self.view_is in
    let front : b.start ≡ c.args.self.now.front = ap (λ (v : Contents). v.front) c.self.view_is in
    let zeros : c.fill.new.self ≡ replicate c.args.n 0 = search rules in
    let back : b.start - c.args.n + c.args.n ≡ b.start = omega arith in
    slice_range-grown b.room.len (b.start - c.args.n) c.args.n b.end b.room.items c.fill.new.self (omega (arith, b.room.ok.0)) (omega arith) (omega (arith, b.room.ok.0)) (omega arith)
    ∙ ap (λ l. l ++ slice_range b.room.items (b.start - c.args.n + c.args.n) b.end) zeros
    ∙ ap (λ l. replicate c.args.n 0 ++ l) (ap (λ i. slice_range b.room.items i b.end) back ∙ held)
