use Rattle.std.proofs.Common.{◌∙◌, ℕ, List, ◌+◌, ap, length, arith}
use Rattle.siit_views.specs.Contents.{centred}
use Rattle.siit_views.proofs.Places.{slice_range-written}
use Rattle.siit_views.proofs.buffer.PacketBuf.load.Goals as goal

pub returns : goal.returns
returns c =
    let b = c.self.inside in
    let bytes : List ℕ = c.args.bytes.now in
    ap centred (slice_range-written b.room.len 256 (256 + length bytes) b.room.items c.copy_from_slice.new.self (omega (arith, b.room.ok.0)) (omega arith) (omega (arith, b.room.ok.0)) (omega arith) ∙ c.copy_from_slice.ensures.after)
