use Rattle.std.proofs.Common.{ℕ, List, ◌++◌, length, take, drop, ◌∙◌, ap, sym, subst, arith, length-drop, take_all}
use Rattle.siit_model.specs.Extensions.{Walked}
use Rattle.siit_upper.specs.Walks.{walked}
use Rattle.siit_quoted.specs.Bodies.{NewBody, joined_to_4}
use Rattle.siit_quoted.specs.Quoted.{HasQuote6, quoted6_fields}
use Rattle.siit_quoted.specs.Quotes.{quote_to_4}
use Rattle.siit_quoted.proofs.Bodies.{body-is, body-none, has-alone, has-extended}
use Rattle.siit_quoted.proofs.Extended.{part-rest, rest-gone}
use Rattle.siit_quoted.proofs.Quotes64.{quote-most}
use Rattle.siit_quoted.proofs.to_ipv4.quote64_by.Goals as goal

pub quote_extended-requires-clause-quote : goal.quote_extended-requires-clause-quote
quote_extended-requires-clause-quote c =
    has-extended (walked c.args.walk.now) c.args.ext c.in-Some.place c.from.result (drop c.args.at c.args.buf.now.bytes) c.in-Some.is c.from.ensures c.requires.quote

pub rewrite64-requires-clause-quote : goal.rewrite64-requires-clause-quote
rewrite64-requires-clause-quote c =
    let old : List ℕ = c.args.buf.now.bytes in
    subst (HasQuote6 (walked c.args.walk.now)) (sym (part-rest c.bytes-end.result.now old c.args.at c.bytes-end.ensures.value))
    (has-alone (walked c.args.walk.now) c.args.ext (drop c.args.at old) c.in-None.is c.requires.quote)

pub returns-in-Some-clause-bytes : goal.returns-in-Some-clause-bytes
returns-in-Some-clause-bytes c =
    let old : List ℕ = c.args.buf.now.bytes in
    let made = λ (q : List ℕ). quote_to_4 c.args.new.src.0 c.args.new.dst.0 c.args.tos_zero (quoted6_fields (walked c.args.walk.now) q) in
    c.quote_extended.ensures.bytes
    ∙ sym (ap (λ (b : NewBody). take c.args.at old ++ b.bytes) (body-is joined_to_4 made c.args.ext c.in-Some.place c.from.result c.args.at old c.in-Some.is c.from.ensures))

pub returns-in-Some-clause-octet : goal.returns-in-Some-clause-octet
returns-in-Some-clause-octet c =
    let old : List ℕ = c.args.buf.now.bytes in
    let made = λ (q : List ℕ). quote_to_4 c.args.new.src.0 c.args.new.dst.0 c.args.tos_zero (quoted6_fields (walked c.args.walk.now) q) in
    c.quote_extended.ensures.octet
    ∙ sym (ap (λ (b : NewBody). b.octet) (body-is joined_to_4 made c.args.ext c.in-Some.place c.from.result c.args.at old c.in-Some.is c.from.ensures))

pub returns-in-None-clause-bytes : goal.returns-in-None-clause-bytes
returns-in-None-clause-bytes c =
    let old : List ℕ = c.args.buf.now.bytes in
    let at : ℕ = c.args.at in
    let w : Walked = walked c.args.walk.now in
    let made = λ (q : List ℕ). quote_to_4 c.args.new.src.0 c.args.new.dst.0 c.args.tos_zero (quoted6_fields w q) in
    let most = quote-most c.args.new.src.0 c.args.new.dst.0 c.args.tos_zero w (drop at old) (has-alone w c.args.ext (drop at old) c.in-None.is c.requires.quote) in
    rest-gone (λ q. take 65575 (made q)) c.rewrite64.new.buf.bytes (take at old) _ (drop at old) old (length c.bytes-end.result.now)
    (part-rest c.bytes-end.result.now old at c.bytes-end.ensures.value) (omega (arith, ap length c.bytes-end.ensures.value)) c.rewrite64.ensures.bytes
    ∙ ap (λ l. take at old ++ l) (take_all 65575 (made (drop at old)) (omega (arith, most, length-drop at old, c.bytes-end.ensures.most)))
    ∙ sym (ap (λ (b : NewBody). take at old ++ b.bytes) (body-none joined_to_4 made c.args.ext (drop at old) c.in-None.is))
