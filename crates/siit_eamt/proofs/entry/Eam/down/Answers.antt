use Rattle.std.proofs.Common.{◌≡◌, ◌/◌, ◌-◌, ◌^◌, arith}
use Rattle.siit_eamt.specs.Entries.{weight}
use Rattle.siit_eamt.proofs.Ranges.{IsSuffix6-from_held, room4}
use Rattle.siit_eamt.proofs.entry.Eam.down.Goals as goal

pub overflow_cast-result : goal.overflow_cast-result
overflow_cast-result c =
    let e = c.args.self.now in
    let suffix = IsSuffix6-from_held e c.args.x.0 c.requires.good c.requires.held in
    let room = room4 e c.requires.good (omega arith) in
    let quotient : (c.args.x.0 - e.p6.addr.0) / 2 ^ c.bits_behind-behind.result ≡ (c.args.x.0 - e.p6.addr.0) / weight e = cc in
    omega (arith, quotient, suffix.moved)

pub overflow_add-result : goal.overflow_add-result
overflow_add-result c =
    let e = c.args.self.now in
    let suffix = IsSuffix6-from_held e c.args.x.0 c.requires.good c.requires.held in
    let room = room4 e c.requires.good (omega arith) in
    let quotient : (c.args.x.0 - e.p6.addr.0) / 2 ^ c.bits_behind-behind.result ≡ (c.args.x.0 - e.p6.addr.0) / weight e = cc in
    omega (arith, quotient, suffix.moved)
