use Rattle.std.proofs.Common.{◌∙◌, arith, ap, sym}
use Rattle.siit_dns.specs.Messages.{DnsMessage}
use Rattle.siit_dns.proofs.Items.{whole-parts}
use Rattle.siit_dns.proofs.messages.Message.id.Goals as goal

pub get16-requires : goal.get16-requires
get16-requires c = omega (arith, (whole-parts c.self.inside.bytes.now c.self.inside.first c.self.invariant).header)

pub returns : goal.returns
returns c = c.get16.ensures ∙ sym (whole-parts c.self.inside.bytes.now c.self.inside.first c.self.invariant).id ∙ ap (λ (m : DnsMessage). m.id) c.self.view_is
