use Rattle.std.proofs.Common.{◌≡◌, ℕ, List, ◌++◌, take, length, arith, ap, sym, subst}
use Rattle.std.proofs.lemmas.Grind.{common_steps}
use Rattle.siit_checksum.proofs.Fields.{bytes-append, bytes-take}
use Rattle.siit_model.specs.Bytes.{AreBytes}
use Rattle.siit_word.proofs.Touched.{touches_then}
use Rattle.siit_command.proofs.Fronts.{read_more, room_left}
use Rattle.siit_command.proofs.reading.read_whole.Goals as goal

pub loop-files-preserved : goal.loop-files-preserved
loop-files-preserved g c =
    let before = c.loop-files.invariant in
    let now = c.in-Ok-read.ensures in
    let bytes = c.loop-files.bytes in
    let place : c.len-in-loop-files.result ≡ length bytes.items = omega (arith, c.len-in-loop-files.ensures, bytes.ok.0) in
    let more : c.extend_from_slice.new.self.items ≡ bytes.items ++ take c.in-Ok-read.count c.read.new.into =
    let h = c.extend_from_slice.ensures.items in
    let d = c.deref.ensures.value in
    let ok = c.if-is_err.ensures in
    let failed = c.if-is_err.false in
    grind (arith, common_steps) in
    record {
      front = read_more before.front before.only now.ok place now.bound more;
      are_bytes = subst (λ (xs : List ℕ). AreBytes xs) (sym more) (bytes-append bytes.items (take c.in-Ok-read.count c.read.new.into) before.are_bytes (bytes-take c.in-Ok-read.count c.read.new.into now.bytes));
      room = room_left c.loop-files.piece.len c.read.new.into _ (omega (arith, before.room, c.loop-files.piece.ok.0)) (omega (arith, before.room, c.read.auto.into, ap length c.deref_mut.ensures.value));
      only = touches_then before.only now.only;
    }
