use Rattle.std.proofs.Common.{refl}
use Rattle.siit_turning.proofs.Packets.{part-moves, part-stays}
use Rattle.siit_turning.proofs.turning.turn_part.Goals as goal

pub returns-then-is_later : goal.returns-then-is_later
returns-then-is_later c = part-stays c.args.at c.args.bytes.now c.args.arrived.now c.args.new c.is_later.result c.is_later.ensures c.if-is_later.true

pub returns : goal.returns
returns c =
    part-moves c.args.at _ c.args.bytes.now c.turn_upper.new.part c.args.arrived.now c.args.new c.is_later.result c.is_later.ensures c.if-is_later.false refl c.turn_upper.ensures
