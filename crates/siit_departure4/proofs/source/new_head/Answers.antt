use Rattle.std.proofs.Common.{refl}
use Rattle.siit_upper.specs.Walks.{fragment_in}
use Rattle.siit_v6to4.specs.declared.fields.Head64.{Head64}
use Rattle.siit_device.specs.Arrival6.{arrived_fragment}
use Rattle.siit_arrival6.specs.Arrived.{arrival_of}
use Rattle.siit_departure4.proofs.Heads.{head-is}
use Rattle.siit_departure4.proofs.source.new_head.Goals as goal

pub returns : goal.returns
returns c =
    let to : Head64 = record { src = c.source.result; dst = c.args.dst; tos = c.new_tos.result; ident = c.args.ident } in
    head-is c.args.settings.now (arrived_fragment (arrival_of c.args.bytes.now c.args.arrived.now)) (fragment_in c.args.arrived.now.walk.frag) c.args.ident
    c.identification.result to c.args.src c.identification.ensures refl c.requires.source c.requires.sourceless c.source.ensures.found c.source.ensures.pooled
    c.requires.destination c.new_tos.ensures
