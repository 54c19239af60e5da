use Rattle.siit_chain.specs.Outputs.{name_in}
use Rattle.siit_network.specs.Networks.{network}
use Rattle.siit_running.specs.Inputs.{input_name}
use Rattle.siit_top.proofs.CarriedAnswers.{is_done, not_printed}
use Rattle.siit_top.proofs.commands.carrying.carry.Goals as goal

pub returns-in-Ok-clause-ends : goal.returns-in-Ok-clause-ends
returns-in-Ok-clause-ends g c =
    is_done (record {
      network = network c.args.settings;
      captures = input_name c.args.inputs;
      outputs = name_in c.args.outs;
      before = g.F.Files.meaning c.args.files.now;
      now = g.F.Files.meaning c.carry_captures.new.files;
      coming_before = g.I.Idents.coming c.args.idents.now;
      coming_now = g.I.Idents.coming c.carry_captures.new.idents;
    }) c.in_ok-counts.counts _ _ c.in_ok-counts.ensures.ends c.in-Ok.ensures.ok

pub returns-in-Err-clause-ends : goal.returns-in-Err-clause-ends
returns-in-Err-clause-ends g c = (
  not_printed (record {
    network = network c.args.settings;
    captures = input_name c.args.inputs;
    outputs = name_in c.args.outs;
    before = g.F.Files.meaning c.args.files.now;
    now = g.F.Files.meaning c.carry_captures.new.files;
    coming_before = g.I.Idents.coming c.args.idents.now;
    coming_now = g.I.Idents.coming c.carry_captures.new.idents;
  }) c.in_ok-counts.counts c.in_ok-counts.ensures.ends,
  c.in-Err.ensures.err,
)
