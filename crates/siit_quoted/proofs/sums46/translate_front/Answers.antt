use Rattle.std.proofs.Common.{◌≡◌, ℕ, ◌-◌, List, ◌==◌, ◌∙◌, ap, sym, arith}
use Rattle.std.proofs.lemmas.Bool.{ne_eqb}
use Rattle.siit_model.specs.Ipv4.{header_length_in, total_length_in, ipv4_fields}
use Rattle.siit_quoted.proofs.Quotes46.{not_first}
use Rattle.siit_quoted.proofs.QuoteSums46.{front-first}
use Rattle.siit_quoted.proofs.sums46.translate_front.Goals as goal

pub returns-then-offset-ne0 : goal.returns-then-offset-ne0
returns-then-offset-ne0 c =
    let quote : List ℕ = c.args.quote.now in
    let is : c.offset.result ≡ (ipv4_fields quote).offset = c.offset.ensures ∙ ap (λ b. (ipv4_fields b).offset) c.new-header.ensures in
    sym (not_first ((ipv4_fields quote).offset == 0) _ c.args.front.now (ne_eqb (ipv4_fields quote).offset 0 (λ none. absurd (omega (arith, is, none)))))

pub returns : goal.returns
returns c =
    let quote : List ℕ = c.args.quote.now in
    let same : c.new-header.result ≡ quote = c.new-header.ensures in
    let offset : c.offset.result ≡ (ipv4_fields quote).offset = c.offset.ensures ∙ ap (λ b. (ipv4_fields b).offset) same in
    let header : c.header_len.result ≡ header_length_in quote = c.header_len.ensures ∙ ap header_length_in same in
    let total : c.total.result ≡ total_length_in quote = c.total.ensures ∙ ap total_length_in same in
    front-first c.args.new.src.0 c.args.new.dst.0 quote c.args.front.now c.upper46.new.part c.protocol.result _ c.src.result.0 c.dst.result.0
    (omega (arith, offset)) (c.protocol.ensures ∙ ap (λ b. (ipv4_fields b).protocol) same)
    (ap (λ n. n - c.header_len.result) total ∙ ap (λ n. total_length_in quote - n) header)
    (c.src.ensures ∙ ap (λ b. (ipv4_fields b).source) same) (c.dst.ensures ∙ ap (λ b. (ipv4_fields b).destination) same)
    c.upper46.ensures
