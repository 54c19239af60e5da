use Rattle.std.proofs.Common.{◌≡◌, ℕ, ◌+◌, ◌-◌, ◌/◌, ◌≤◌, List, ◌++◌, length, take, drop, ◌∙◌, ap, sym, subst, arith, length-drop}
use Rattle.std.proofs.lemmas.List.{length-take-le}
use Rattle.siit_model.specs.Bytes.{part}
use Rattle.siit_model.specs.Extensions.{Walked}
use Rattle.siit_upper.specs.Walks.{walked}
use Rattle.siit_quoted.specs.Bodies.{padding}
use Rattle.siit_quoted.specs.Quoted.{quoted6_fields}
use Rattle.siit_quoted.specs.Quotes.{quote_to_4}
use Rattle.siit_quoted.proofs.Extended.{extended-is, joined-inside, padded-length, part-front, taken-most}
use Rattle.siit_quoted.proofs.Bodies.{fits-still, told}
use Rattle.siit_quoted.proofs.to_ipv4.quote_extended.Goals as goal

pub pad_quote-requires-clause-fits : goal.pad_quote-requires-clause-fits
pad_quote-requires-clause-fits c =
    let old : List ℕ = c.args.buf.now.bytes in
    let at : ℕ = c.args.at in
    let end : ℕ = at + c.args.place in
    let len : ℕ = c.rewrite64-len.result in
    let front = length-take-le at old (omega (arith, c.requires.inside)) in
    let size = joined-inside (take at old) _ (drop end old) c.rewrite64-len.new.buf.bytes at len (sym front) c.rewrite64-len.ensures.len c.rewrite64-len.ensures.bytes in
    let inside = c.requires.inside in
    fits-still len c.args.place at (length (drop end old)) (length c.rewrite64-len.new.buf.bytes) (length old)
    (omega (arith, c.rewrite64-len.ensures.most)) c.requires.least size (length-drop end old) (omega (arith, inside)) c.requires.most

pub pad_quote-requires-clause-told : goal.pad_quote-requires-clause-told
pad_quote-requires-clause-told c =
    told c.rewrite64-len.result (subst (λ n. n ≤ 1020) (sym c.rewrite64-len.ensures.len) (taken-most 1020 _))

pub returns-clause-bytes : goal.returns-clause-bytes
returns-clause-bytes c =
    let old : List ℕ = c.args.buf.now.bytes in
    let at : ℕ = c.args.at in
    let end : ℕ = at + c.args.place in
    let w : Walked = walked c.args.walk in
    let made = λ (q : List ℕ). take 1020 (quote_to_4 c.args.new.src.0 c.args.new.dst.0 c.args.tos_zero (quoted6_fields w q)) in
    let same : made (part old at (end - at)) ≡ made (take c.args.place (drop at old)) = ap made (part-front old at c.args.place) in
    extended-is (take at old) (made (take c.args.place (drop at old))) (drop end old) c.rewrite64-len.new.buf.bytes c.pad_quote.new.buf.bytes at c.rewrite64-len.result 4
    (sym (length-take-le at old (omega (arith, c.requires.inside)))) (c.rewrite64-len.ensures.len ∙ ap length same)
    (c.rewrite64-len.ensures.bytes ∙ ap (λ l. take at old ++ l ++ drop end old) same) c.pad_quote.ensures.bytes

pub returns-clause-octet : goal.returns-clause-octet
returns-clause-octet c =
    let old : List ℕ = c.args.buf.now.bytes in
    let at : ℕ = c.args.at in
    let end : ℕ = at + c.args.place in
    let w : Walked = walked c.args.walk in
    let made = λ (q : List ℕ). take 1020 (quote_to_4 c.args.new.src.0 c.args.new.dst.0 c.args.tos_zero (quoted6_fields w q)) in
    let same : made (part old at (end - at)) ≡ made (take c.args.place (drop at old)) = ap made (part-front old at c.args.place) in
    c.pad_quote.ensures.octet
    ∙ ap (λ n. (n + padding 4 n) / 4) (c.rewrite64-len.ensures.len ∙ ap length same)
    ∙ ap (λ n. n / 4) (sym (padded-length 4 (made (take c.args.place (drop at old)))))
