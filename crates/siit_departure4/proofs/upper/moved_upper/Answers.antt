use Rattle.siit_departure4.proofs.Uppers.{first-moved, later-stays}
use Rattle.siit_departure4.proofs.upper.moved_upper.Goals as goal

pub returns-then-is_later : goal.returns-then-is_later
returns-then-is_later c =
    later-stays c.args.bytes.now c.args.arrived.now c.args.to.now c.is_later.result c.requires c.is_later.ensures c.if-is_later.true

pub returns : goal.returns
returns c =
    first-moved c.args.bytes.now c.upper64_behind.new.bytes c.args.arrived.now c.args.to.now c.is_later.result c.from.result c.requires c.is_later.ensures
    c.if-is_later.false c.from.ensures c.upper64_behind.ensures
