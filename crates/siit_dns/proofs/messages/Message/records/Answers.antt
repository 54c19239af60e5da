use Rattle.std.proofs.Common.{◌∙◌, [], arith, ap}
use Rattle.siit_dns.specs.Messages.{DnsMessage}
use Rattle.siit_dns.specs.Reading.{value_of}
use Rattle.siit_dns.specs.Sections.{sections_left}
use Rattle.siit_dns.proofs.Items.{whole-parts, its-records, records-whole}
use Rattle.siit_dns.proofs.messages.Message.records.Goals as goal

pub sections_in-requires : goal.sections_in-requires
sections_in-requires c = omega (arith, (whole-parts c.self.inside.bytes.now c.self.inside.first c.self.invariant).header)

pub new-requires : goal.new-requires
new-requires c = records-whole c.self.inside.bytes.now c.self.inside.first (sections_left c.sections_in.result) c.self.invariant c.sections_in.ensures

pub returns : goal.returns
returns c =
    c.new.ensures
    ∙ ap (value_of []) (its-records c.self.inside.bytes.now c.self.inside.first (sections_left c.sections_in.result) c.self.invariant c.sections_in.ensures)
    ∙ ap (λ (m : DnsMessage). m.records) c.self.view_is
