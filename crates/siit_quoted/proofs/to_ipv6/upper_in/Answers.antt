use Rattle.std.proofs.Common.{◌≡◌, ℕ, ◌-◌, List, min, length, ◌∙◌, ap, arith}
use Rattle.siit_model.specs.Ipv4.{header_length_in, total_length_in, ipv4_fields}
use Rattle.siit_quoted.proofs.Quotes46.{upper-first, upper-later}
use Rattle.siit_quoted.proofs.to_ipv6.upper_in.Goals as goal

pub returns-then-offset-ne0 : goal.returns-then-offset-ne0
returns-then-offset-ne0 c =
    let quote : List ℕ = c.args.quote.now in
    let is : c.offset.result ≡ (ipv4_fields quote).offset = c.offset.ensures ∙ ap (λ b. (ipv4_fields b).offset) c.new-header.ensures in
    upper-later c.args.new.src.0 c.args.new.dst.0 quote c.requires.ordered (λ none. absurd (omega (arith, is, none)))

pub returns : goal.returns
returns c =
    let quote : List ℕ = c.args.quote.now in
    let same : c.new-header.result ≡ quote = c.new-header.ensures in
    let offset : c.offset.result ≡ (ipv4_fields quote).offset = c.offset.ensures ∙ ap (λ b. (ipv4_fields b).offset) same in
    let header : c.header_len-header_len.result ≡ header_length_in quote = c.header_len-header_len.ensures ∙ ap header_length_in same in
    let total : c.total-total.result ≡ total_length_in quote = c.total-total.ensures ∙ ap total_length_in same in
    let len : c.min-len.result ≡ min (length quote) (total_length_in quote) = c.min-len.ensures ∙ ap (λ n. min (length quote) n) (c.from.ensures ∙ total) in
    upper-first c.args.new.src.0 c.args.new.dst.0 quote c.upper46.new.part c.protocol-protocol.result _ c.header_len-header_len.result c.min-len.result c.src.result.0 c.dst.result.0
    (omega (arith, header, len, c.requires.inside, c.requires.ordered)) (omega (arith, len)) (omega (arith, offset)) header len
    (c.protocol-protocol.ensures ∙ ap (λ b. (ipv4_fields b).protocol) same)
    (ap (λ n. n - c.header_len-header_len.result) total)
    (c.src.ensures ∙ ap (λ b. (ipv4_fields b).source) same) (c.dst.ensures ∙ ap (λ b. (ipv4_fields b).destination) same)
    c.upper46.ensures
