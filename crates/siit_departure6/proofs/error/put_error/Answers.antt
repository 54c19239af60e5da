use Rattle.std.proofs.Common.{ap, ◌∙◌, length}
use Rattle.siit_model.specs.Ipv4.{ipv4_fields}
use Rattle.siit_views.specs.Writers.{packet_in6}
use Rattle.siit_departure6.specs.Parts.{header_for}
use Rattle.siit_departure6.proofs.ErrorIs.{error-packet}
use Rattle.siit_departure6.proofs.error.put_error.Goals as goal

pub returns-clause-bytes : goal.returns-clause-bytes
returns-clause-bytes c =
    error-packet c.args.settings.now c.args.buf.now.bytes c.args.arrived.now c.args.error.now (packet_in6 c.fields_for-fields.result) c.from.result _
    c.translate_message.new.buf.bytes c.ipv6_header.result c.replace_front.new.buf.bytes
    c.requires.arrived c.requires.error c.requires.no_padding c.from.ensures
    (c.fields_for-fields.ensures ∙ ap (λ b. header_for c.args.settings.now c.args.arrived.now.new (ipv4_fields b)) (c.new.ensures ∙ c.bytes.ensures.value))
    c.translate_message.ensures.bytes
    (ap length c.bytes-2.ensures.value)
    c.ipv6_header.ensures
    c.replace_front.ensures.bytes
