use Rattle.std.proofs.Common.{◌≡◌, ◌∙◌, ap, length, drop, arith}
use Rattle.std.specs.List.{slice_range}
use Rattle.std.proofs.lemmas.List.Edits.{length-between}
use Rattle.siit_views.specs.Contents.{Contents}
use Rattle.siit_views.proofs.Places.{slice_range-drop}
use Rattle.siit_views.proofs.buffer.PacketBuf.shrink_front.Goals as goal

pub returns-clause-bytes : goal.returns-clause-bytes
returns-clause-bytes c =
    let b = c.self.inside in
    let held : slice_range b.room.items b.start b.end ≡ c.args.self.now.bytes = ap (λ (v : Contents). v.bytes) c.self.view_is in
    slice_range-drop b.room.items b.start c.args.n b.end (omega (arith, ap length held, length-between b.room.items b.start b.end (omega arith))) ∙ ap (drop c.args.n) held
