use Rattle.siit_running.specs.Inputs.{input_name}
use Rattle.siit_network.specs.Networks.{network}
use Rattle.siit_making.specs.Captures.{generated_capture}
use Rattle.siit_making.proofs.Crossed.{crossed_as, inputs_are}
use Rattle.siit_making.proofs.carrying.carry_shown.Goals as goal

pub returns-clause-ends : goal.returns-clause-ends
returns-clause-ends g c =
    let it = c.args.files.now in
    let now = c.carry_captures.new.files in
    (crossed_as (network c.args.settings) it.capture.now.count it.capture.now.seed c.requires.most c.args.name.now c.utf8.name c.args.outs c.requires.texts
    (g.F.Files.meaning it.files.now) (g.F.Files.meaning now.files.now) (g.I.Idents.coming c.args.idents.now) (g.I.Idents.coming c.carry_captures.new.idents)
    it.files.ghost_name now.files.ghost_name it.name.now now.name.now (generated_capture now.capture.now.count now.capture.now.seed) (input_name c.args.inputs) c.carry_captures.result
    c.requires.none_of c.requires.shown (inputs_are c.args.inputs c.args.name.now c.requires.left c.requires.right)
    (record { ends = c.carry_captures.ensures.ends; only = c.carry_captures.ensures.only })).ends

pub returns-clause-fault : goal.returns-clause-fault
returns-clause-fault g c =
    let it = c.args.files.now in
    let now = c.carry_captures.new.files in
    (crossed_as (network c.args.settings) it.capture.now.count it.capture.now.seed c.requires.most c.args.name.now c.utf8.name c.args.outs c.requires.texts
    (g.F.Files.meaning it.files.now) (g.F.Files.meaning now.files.now) (g.I.Idents.coming c.args.idents.now) (g.I.Idents.coming c.carry_captures.new.idents)
    it.files.ghost_name now.files.ghost_name it.name.now now.name.now (generated_capture now.capture.now.count now.capture.now.seed) (input_name c.args.inputs) c.carry_captures.result
    c.requires.none_of c.requires.shown (inputs_are c.args.inputs c.args.name.now c.requires.left c.requires.right)
    (record { ends = c.carry_captures.ensures.ends; only = c.carry_captures.ensures.only })).fault

pub returns-clause-only : goal.returns-clause-only
returns-clause-only g c =
    let it = c.args.files.now in
    let now = c.carry_captures.new.files in
    (crossed_as (network c.args.settings) it.capture.now.count it.capture.now.seed c.requires.most c.args.name.now c.utf8.name c.args.outs c.requires.texts
    (g.F.Files.meaning it.files.now) (g.F.Files.meaning now.files.now) (g.I.Idents.coming c.args.idents.now) (g.I.Idents.coming c.carry_captures.new.idents)
    it.files.ghost_name now.files.ghost_name it.name.now now.name.now (generated_capture now.capture.now.count now.capture.now.seed) (input_name c.args.inputs) c.carry_captures.result
    c.requires.none_of c.requires.shown (inputs_are c.args.inputs c.args.name.now c.requires.left c.requires.right)
    (record { ends = c.carry_captures.ensures.ends; only = c.carry_captures.ensures.only })).only

pub returns-clause-same_reference : goal.returns-clause-same_reference
returns-clause-same_reference g c =
    let it = c.args.files.now in
    let now = c.carry_captures.new.files in
    (crossed_as (network c.args.settings) it.capture.now.count it.capture.now.seed c.requires.most c.args.name.now c.utf8.name c.args.outs c.requires.texts
    (g.F.Files.meaning it.files.now) (g.F.Files.meaning now.files.now) (g.I.Idents.coming c.args.idents.now) (g.I.Idents.coming c.carry_captures.new.idents)
    it.files.ghost_name now.files.ghost_name it.name.now now.name.now (generated_capture now.capture.now.count now.capture.now.seed) (input_name c.args.inputs) c.carry_captures.result
    c.requires.none_of c.requires.shown (inputs_are c.args.inputs c.args.name.now c.requires.left c.requires.right)
    (record { ends = c.carry_captures.ensures.ends; only = c.carry_captures.ensures.only })).reference
