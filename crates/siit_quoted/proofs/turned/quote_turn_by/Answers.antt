use Rattle.std.proofs.Common.{ℕ, List, ◌++◌, length, take, drop, ◌∙◌, ap, sym, subst, arith}
use Rattle.siit_model.specs.Extensions.{Walked}
use Rattle.siit_upper.specs.Walks.{walked}
use Rattle.siit_quoted.specs.Bodies.{NewBody, joined_turned}
use Rattle.siit_quoted.specs.Quoted.{HasQuote6, quoted6_fields}
use Rattle.siit_quoted.specs.Quotes.{quote_turned}
use Rattle.siit_quoted.proofs.Bodies.{body-is, body-none, has-alone, has-extended}
use Rattle.siit_quoted.proofs.Extended.{part-rest, rest-gone}
use Rattle.siit_quoted.proofs.turned.quote_turn_by.Goals as goal

pub turn_extended-requires-clause-quote : goal.turn_extended-requires-clause-quote
turn_extended-requires-clause-quote c =
    has-extended (walked c.args.walk.now) c.args.ext c.in-Some.place c.from.result (drop c.args.at c.args.buf.now.bytes) c.in-Some.is c.from.ensures c.requires.quote

pub rewrite_turned-requires-clause-quote : goal.rewrite_turned-requires-clause-quote
rewrite_turned-requires-clause-quote c =
    let old : List ℕ = c.args.buf.now.bytes in
    subst (HasQuote6 (walked c.args.walk.now)) (sym (part-rest c.bytes-end.result.now old c.args.at c.bytes-end.ensures.value))
    (has-alone (walked c.args.walk.now) c.args.ext (drop c.args.at old) c.in-None.is c.requires.quote)

pub returns-in-Some-clause-bytes : goal.returns-in-Some-clause-bytes
returns-in-Some-clause-bytes c =
    let old : List ℕ = c.args.buf.now.bytes in
    let made = λ (q : List ℕ). quote_turned c.args.new.src.0 c.args.new.dst.0 (quoted6_fields (walked c.args.walk.now) q) in
    c.turn_extended.ensures.bytes
    ∙ sym (ap (λ (b : NewBody). take c.args.at old ++ b.bytes) (body-is joined_turned made c.args.ext c.in-Some.place c.from.result c.args.at old c.in-Some.is c.from.ensures))

pub returns-in-Some-clause-octet : goal.returns-in-Some-clause-octet
returns-in-Some-clause-octet c =
    let old : List ℕ = c.args.buf.now.bytes in
    let made = λ (q : List ℕ). quote_turned c.args.new.src.0 c.args.new.dst.0 (quoted6_fields (walked c.args.walk.now) q) in
    c.turn_extended.ensures.octet
    ∙ sym (ap (λ (b : NewBody). b.octet) (body-is joined_turned made c.args.ext c.in-Some.place c.from.result c.args.at old c.in-Some.is c.from.ensures))

pub returns-in-None-clause-bytes : goal.returns-in-None-clause-bytes
returns-in-None-clause-bytes c =
    let old : List ℕ = c.args.buf.now.bytes in
    let at : ℕ = c.args.at in
    let w : Walked = walked c.args.walk.now in
    let made = λ (q : List ℕ). quote_turned c.args.new.src.0 c.args.new.dst.0 (quoted6_fields w q) in
    rest-gone made c.rewrite_turned.new.buf.bytes (take at old) _ (drop at old) old (length c.bytes-end.result.now)
    (part-rest c.bytes-end.result.now old at c.bytes-end.ensures.value) (omega (arith, ap length c.bytes-end.ensures.value)) c.rewrite_turned.ensures.bytes
    ∙ sym (ap (λ (b : NewBody). take at old ++ b.bytes) (body-none joined_turned made c.args.ext (drop at old) c.in-None.is))
