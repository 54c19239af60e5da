use Rattle.std.proofs.Common.{subst}
use Rattle.siit_model.specs.Bytes.{AreBytes}
use Rattle.siit_engine.specs.Placing.{devices_act}
use Rattle.siit_engine.proofs.device.translate_by.Goals as goal

pub returns : goal.returns
returns g c =
    let small : AreBytes c.args.buf.now.bytes = subst AreBytes c.bytes.ensures.value c.are_bytes.ensures in
    rw (devices_act c.args.engine.now c.args.side c.args.buf.now.bytes c.args.ident c.family_on.ensures.limits small)
    (rw c.family_on.ensures.family at c.translate.ensures.outcome)
