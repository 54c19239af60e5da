use Rattle.std.proofs.Common.{subst}
use Rattle.std.specs.Prelude.{Option}
use Rattle.siit_capture.specs.LinkPackets.{IpPacket}
use Rattle.siit_chain.specs.Carried.{carry_captured, chain_of, fresh}
use Rattle.siit_chain.specs.Log.{text_of}
use Rattle.siit_chain.specs.Outputs.{name_in, GrewByPart}
use Rattle.siit_chain.proofs.Grown.{on_err_from}
use Rattle.siit_running.proofs.Exits.{packet_is}
use Rattle.siit_running.proofs.source.Source.carry.Goals as goal

pub returns-in_err-counts-clause-part : goal.returns-in_err-counts-clause-part
returns-in_err-counts-clause-part g c =
    let d = g.D.Device in
    let chain = c.args.chain.now in
    let all = carry_captured (chain_of d.outcome d.measure chain.devices.items chain.left chain.right) c.args.origin (fresh (g.I.Idents.coming c.args.idents.now)) in
    on_err_from c.from_residual.result
    (subst (λ (p : Option IpPacket). GrewByPart (name_in c.args.outs) (g.F.Files.meaning c.args.files.now) (g.F.Files.meaning c.carry.new.files) (text_of (all p).log))
    (packet_is c.args.self.now.reader.found c.link_packet.result c.requires.waits c.link_packet.ensures) c.in_err-counts.ensures.err)
