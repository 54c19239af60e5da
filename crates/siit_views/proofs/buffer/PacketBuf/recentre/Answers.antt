use Rattle.std.proofs.Common.{◌≡◌, ◌∙◌, ◌+◌, ◌-◌, ap, arith}
use Rattle.std.specs.List.{slice_range}
use Rattle.siit_views.specs.Contents.{Contents, centred}
use Rattle.siit_views.proofs.Places.{slice_range-copy_within}
use Rattle.siit_views.proofs.buffer.PacketBuf.recentre.Goals as goal

pub returns : goal.returns
returns c =
    let b = c.self.inside in
    let held : slice_range b.room.items b.start b.end ≡ c.args.self.now.bytes = ap (λ (v : Contents). v.bytes) c.self.view_is in
    ap centred (ap (λ l. slice_range l 256 (256 + (b.end - b.start))) c.copy_within.ensures.items
    ∙ slice_range-copy_within b.start b.end 256 b.room.items (omega arith) (omega arith) (omega arith) ∙ held)
