use Rattle.std.proofs.Common.{ap, rules}
use Rattle.siit_chain.specs.Outputs.{name_in}
use Rattle.siit_network.specs.Networks.{network}
use Rattle.siit_making.specs.Parts.{Parts}
use Rattle.siit_making.proofs.Crossed.{ends_moved}
use Rattle.siit_making.proofs.carrying.carry_generated.Goals as goal

pub returns-clause-ends : goal.returns-clause-ends
returns-clause-ends g c =
    ends_moved (network c.args.settings) c.start_over.new.self.count c.args.capture.count c.start_over.new.self.seed c.args.capture.seed c.args.name.now (name_in c.args.outs)
    (g.F.Files.meaning c.args.files.now) (g.F.Files.meaning c.carry_shown.new.files.files.now) _ (g.I.Idents.coming c.args.idents.now) (g.I.Idents.coming c.carry_shown.new.idents)
    c.carry_shown.result (ap (λ (p : Parts). p.count) c.start_over.ensures.first) (ap (λ (p : Parts). p.seed) c.start_over.ensures.first) (search rules) c.carry_shown.ensures.ends
