use Rattle.std.proofs.Common.{subst}
use Rattle.std.proofs.lemmas.Result.{err_from_is_err_and}
use Rattle.siit_chain.specs.Carried.{Chain, chain_of}
use Rattle.siit_chain.specs.Outputs.{name_in}
use Rattle.siit_engine.specs.Placed.{Placed, life_of, outcome_at}
use Rattle.siit_network.specs.Crossings.{HoldsAfter}
use Rattle.siit_network.specs.Networks.{network}
use Rattle.siit_running.specs.Inputs.{input_name}
use Rattle.siit_network.proofs.Answers.{holds_after, not_made}
use Rattle.siit_network.proofs.Placing.{as_many_placed, same_network}
use Rattle.siit_network.proofs.crossing.carry_captures.Goals as goal

pub returns-in_err-create_outputs-clause-ends : goal.returns-in_err-create_outputs-clause-ends
returns-in_err-create_outputs-clause-ends g c =
    let meaning = g.F.Files.meaning in
    let coming = g.I.Idents.coming c.args.idents.now in
    let from = err_from_is_err_and c.from_residual-in_err-create_outputs.result c.from_residual-in_err-create_outputs.ensures.1 in
    rw (from.1, from.2)
    (not_made (record {
      network = network c.args.settings;
      captures = input_name c.args.inputs;
      outputs = name_in c.args.outs;
      before = meaning c.args.files.now;
      now = meaning c.create_outputs.new.files;
      coming_before = coming;
      coming_now = coming;
    }) c.in_err-create_outputs.ensures.only c.in_err-create_outputs.ensures.err c.in_err-create_outputs.ensures.cause)

pub run-requires-clause-few : goal.run-requires-clause-few
run-requires-clause-few g c =
    as_many_placed c.args.settings.left c.args.settings.devices c.in_ok-chain.ensures.devices c.requires.few

pub returns-clause-ends : goal.returns-clause-ends
returns-clause-ends g c =
    let meaning = g.F.Files.meaning in
    let settings = c.args.settings in
    let made = c.in_ok-chain.chain in
    let files = meaning c.args.files.now in
    let now = meaning c.run.new.files in
    let coming = g.I.Idents.coming c.args.idents.now in
    let coming_now = g.I.Idents.coming c.run.new.idents in
    let names = input_name c.args.inputs in
    let outs = name_in c.args.outs in
    let chain = chain_of outcome_at life_of made.devices.items made.left made.right in
    let is = same_network settings made.devices.items made.left made.right c.in_ok-chain.ensures.devices c.in_ok-chain.ensures.left c.in_ok-chain.ensures.right in
    subst (λ (n : Chain Placed). HoldsAfter (record { network = n; captures = names; outputs = outs; before = files; now = now; coming_before = coming; coming_now = coming_now }) c.run.result) is
    (holds_after chain coming coming_now names outs files (meaning c.create_outputs.new.files) now c.requires.none_of c.in_ok-create_outputs.ensures.only c.in_ok-create_outputs.ensures.ok c.run.ensures.only c.run.result
    (record {
      ok = c.run.ensures.ok;
      counts = c.run.ensures.counts;
      within = c.run.ensures.within;
      bad = c.run.ensures.bad;
      bad_place = c.run.ensures.bad_place;
      part = c.run.ensures.part;
      near = c.run.ensures.ahead;
      read_fault = c.run.ensures.read_fault;
      write_fault = c.run.ensures.write_fault;
      too_long = c.run.ensures.too_long;
    }))
