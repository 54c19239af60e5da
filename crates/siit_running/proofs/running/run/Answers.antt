use Rattle.siit_chain.specs.Carried.{chain_of}
use Rattle.siit_chain.specs.Outputs.{name_in}
use Rattle.siit_running.specs.Inputs.{input_name}
use Rattle.siit_running.proofs.Ended.{ahead_of, part_of}
use Rattle.siit_running.proofs.running.run.Goals as goal

pub returns-clause-part : goal.returns-clause-part
returns-clause-part g c =
    let d = g.D.Device in
    λ told.
    part_of (chain_of d.outcome d.measure c.args.chain.now.devices.items c.args.chain.now.left c.args.chain.now.right) (g.I.Idents.coming c.args.idents.now) (g.I.Idents.coming c.carry_captures.new.idents) (input_name c.args.inputs) (name_in c.args.outs)
    (g.F.Files.meaning c.args.files.now) (g.F.Files.meaning c.carry_captures.new.files) told c.carry_captures.result c.carry_captures.ensures.ends

pub returns-clause-ahead : goal.returns-clause-ahead
returns-clause-ahead g c =
    let d = g.D.Device in
    λ told.
    ahead_of (chain_of d.outcome d.measure c.args.chain.now.devices.items c.args.chain.now.left c.args.chain.now.right) (g.I.Idents.coming c.args.idents.now) (g.I.Idents.coming c.carry_captures.new.idents) (input_name c.args.inputs) (name_in c.args.outs)
    (g.F.Files.meaning c.args.files.now) (g.F.Files.meaning c.carry_captures.new.files) told c.carry_captures.result c.carry_captures.ensures.ends
