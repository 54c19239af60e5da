use Rattle.std.proofs.Common.{◌≡◌, ℕ, ◌+◌, ◌-◌, ◌≤◌, List, [], length, drop, ◌∙◌, ap, sym, subst}
use Rattle.siit_model.specs.Ipv4.{Ipv4Packet}
use Rattle.siit_model.specs.Ipv6.{ipv6_fields, payload_length_in}
use Rattle.siit_upper.specs.Walks.{walked}
use Rattle.siit_v6to4.specs.Heads.{headed_packet4}
use Rattle.siit_v6to4.proofs.Heads.{fits16, head-is, upper-is, upper-length-is}
use Rattle.siit_v6to4.proofs.header.head64_by.Goals as goal

pub overflow_add-total : goal.overflow_add-total
overflow_add-total c =
    let bytes : List ℕ = c.args.buf.now.bytes in
    let at : ℕ = c.args.walk.now.at in
    let len : c.length.result ≡ payload_length_in bytes = c.length.ensures ∙ ap payload_length_in (c.new-header.ensures ∙ c.bytes.ensures.value) in
    fits16 _ (subst (λ n. 20 + n ≤ 65535) (upper-length-is bytes at c.requires.no_padding ∙ ap (λ n. n - at) (sym len)) c.requires.fits)

pub fields64-fields-requires-clause-total : goal.fields64-fields-requires-clause-total
fields64-fields-requires-clause-total c =
    let bytes : List ℕ = c.args.buf.now.bytes in
    let at : ℕ = c.args.walk.now.at in
    let same : c.new-header.result ≡ bytes = c.new-header.ensures ∙ c.bytes.ensures.value in
    ap (λ n. 20 + (n - at)) (c.length.ensures ∙ ap payload_length_in same)
    ∙ ap (λ n. 20 + n) (sym (upper-length-is bytes at c.requires.no_padding))
    ∙ ap (λ b. 20 + length (drop at (ipv6_fields b).body)) (sym same)

pub returns-clause-bytes : goal.returns-clause-bytes
returns-clause-bytes c =
    let bytes : List ℕ = c.args.buf.now.bytes in
    let at : ℕ = c.args.walk.now.at in
    let same : c.new-header.result ≡ bytes = c.new-header.ensures ∙ c.bytes.ensures.value in
    let packet : List ℕ → Ipv4Packet = λ b. headed_packet4 c.args.to.now (walked c.args.walk.now) (ipv6_fields b) in
    head-is (packet bytes) _ _ c.replace_front.new.buf.bytes c.ipv4_header.result (drop (40 + c.from.result) bytes)
    (c.fields64-fields.ensures.fields ∙ ap (λ b. record (packet b) { payload = [] }) same)
    (ap (λ n. 20 + (n - at)) (c.length.ensures ∙ ap payload_length_in same) ∙ ap (λ n. 20 + n) (sym (upper-length-is bytes at c.requires.no_padding)))
    c.ipv4_header.ensures
    (upper-is bytes at (40 + c.from.result) c.requires.no_padding (ap (λ n. 40 + n) c.from.ensures))
    c.replace_front.ensures.bytes
