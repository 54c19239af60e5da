use Rattle.std.proofs.Common.{◌≡◌, ◌*◌, ◌-◌, ◌^◌, arith}
use Rattle.siit_eamt.specs.Entries.{weight}
use Rattle.siit_eamt.proofs.Ranges.{IsSuffix4-from_held, room6}
use Rattle.siit_eamt.proofs.entry.Eam.up.Goals as goal

pub overflow_add-result : goal.overflow_add-result
overflow_add-result c =
    let e = c.args.self.now in
    let suffix = IsSuffix4-from_held e c.args.a.0 c.requires.good c.requires.held in
    let room = room6 e c.requires.good (omega arith) in
    let product : c.from-suffix.result * 2 ^ c.bits_behind.result ≡ (c.args.a.0 - e.p4.addr.0) * weight e = cc in
    omega (arith, product, suffix.moved)

pub returns : goal.returns
returns c =
    let e = c.args.self.now in
    let suffix = IsSuffix4-from_held e c.args.a.0 c.requires.good c.requires.held in
    let room = room6 e c.requires.good (omega arith) in
    let product : c.from-suffix.result * 2 ^ c.bits_behind.result ≡ (c.args.a.0 - e.p4.addr.0) * weight e = cc in
    omega (arith, product, suffix.moved)
