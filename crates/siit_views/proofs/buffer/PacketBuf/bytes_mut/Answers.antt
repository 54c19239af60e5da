use Rattle.std.proofs.Common.{◌≡◌, ◌∙◌, ℕ, List, ap, refl, arith}
use Rattle.std.specs.List.{slice_range}
use Rattle.siit_views.specs.Contents.{Contents, rewritten}
use Rattle.siit_views.proofs.Places.{slice_range-lent}
use Rattle.siit_views.proofs.buffer.PacketBuf.bytes_mut.Goals as goal

pub returns : goal.returns
returns c =
    let b = c.self.inside in
    let held : slice_range b.room.items b.start b.end ≡ c.args.self.now.bytes = ap (λ (v : Contents). v.bytes) c.self.view_is in (
      (
        refl,
        λ left.
            ap (λ (l : List ℕ). let v : Contents = record { bytes = l; front = b.start } in v) (slice_range-lent b.room.len b.start b.end b.room.items left (omega (arith, b.room.ok.0)) (omega arith) (omega (arith, b.room.ok.0)))
            ∙ ap (λ (v : Contents). let w : Contents = record { bytes = rewritten v.bytes left; front = v.front } in w) c.self.view_is,
      ),
      record { writes_back = tt; value = c.slice_mut.ensures.value ∙ held },
    )
