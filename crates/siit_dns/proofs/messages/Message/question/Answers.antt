use Rattle.std.proofs.Common.{◌∙◌, arith, ap}
use Rattle.siit_dns.specs.Messages.{DnsMessage}
use Rattle.siit_dns.specs.Seen.{question_seen}
use Rattle.siit_dns.proofs.Items.{whole-parts, question-fault, question-value}
use Rattle.siit_dns.proofs.messages.Message.question.Goals as goal

pub read_question-requires : goal.read_question-requires
read_question-requires c = omega (arith, (whole-parts c.self.inside.bytes.now c.self.inside.first c.self.invariant).header)

pub unreachable-requires : goal.unreachable-requires
unreachable-requires c = question-fault c.self.inside.bytes.now c.self.inside.first c.in-Err.field-0 c.self.invariant c.in-Err.ensures.value

pub returns : goal.returns
returns c =
    question-value c.self.inside.bytes.now c.self.inside.first c.in-Ok.field-0-1 (question_seen c.in-Ok.question) c.self.invariant c.in-Ok.ensures.value
    ∙ ap (λ (m : DnsMessage). m.question) c.self.view_is
