use Rattle.std.proofs.Common.{◌≡◌, ℕ, ◌+◌, ◌-◌, ◌/◌, List, ◌++◌, length, take, drop, ◌∙◌, ap, sym, arith, length-drop}
use Rattle.std.proofs.lemmas.List.{length-take-le}
use Rattle.siit_model.specs.Bytes.{part}
use Rattle.siit_model.specs.Extensions.{Walked}
use Rattle.siit_upper.specs.Walks.{walked}
use Rattle.siit_quoted.specs.Bodies.{padding}
use Rattle.siit_quoted.specs.Quoted.{quoted6_fields}
use Rattle.siit_quoted.specs.Quotes.{quote_turned}
use Rattle.siit_quoted.proofs.Extended.{extended-is, joined-inside, padded-length, part-front}
use Rattle.siit_quoted.proofs.Bodies.{turned-fits, turned-told, turned-within}
use Rattle.siit_quoted.proofs.turned.turn_extended.Goals as goal

pub pad_quote-requires-clause-fits : goal.pad_quote-requires-clause-fits
pad_quote-requires-clause-fits c =
    let old : List ℕ = c.args.buf.now.bytes in
    let at : ℕ = c.args.at in
    let end : ℕ = at + c.args.place in
    let len : ℕ = c.rewrite_turned-len.result in
    let front = length-take-le at old (omega (arith, c.requires.inside)) in
    let size = joined-inside (take at old) _ (drop end old) c.rewrite_turned-len.new.buf.bytes at len (sym front) c.rewrite_turned-len.ensures.len c.rewrite_turned-len.ensures.bytes in
    let inside = c.requires.inside in
    turned-fits (padding 8 len) len c.args.place at (length (drop end old)) (length c.rewrite_turned-len.new.buf.bytes) (length old)
    (turned-within len c.args.place (omega (arith, c.rewrite_turned-len.ensures.most)) c.requires.least c.requires.units) size (length-drop end old) (omega (arith, inside)) c.requires.most

pub pad_quote-requires-clause-told : goal.pad_quote-requires-clause-told
pad_quote-requires-clause-told c =
    turned-told c.rewrite_turned-len.result c.args.place
    (turned-within c.rewrite_turned-len.result c.args.place (omega (arith, c.rewrite_turned-len.ensures.most)) c.requires.least c.requires.units) c.requires.told

pub pad_quote-requires-clause-room : goal.pad_quote-requires-clause-room
pad_quote-requires-clause-room c =
    let old : List ℕ = c.args.buf.now.bytes in
    let within = turned-within c.rewrite_turned-len.result c.args.place (omega (arith, c.rewrite_turned-len.ensures.most)) c.requires.least c.requires.units in
    let moved = c.rewrite_turned-len.ensures.moved c.requires.inside in
    omega (arith, within, moved)

pub returns-clause-bytes : goal.returns-clause-bytes
returns-clause-bytes c =
    let old : List ℕ = c.args.buf.now.bytes in
    let at : ℕ = c.args.at in
    let end : ℕ = at + c.args.place in
    let w : Walked = walked c.args.walk in
    let made = λ (q : List ℕ). quote_turned c.args.new.src.0 c.args.new.dst.0 (quoted6_fields w q) in
    let same : made (part old at (end - at)) ≡ made (take c.args.place (drop at old)) = ap made (part-front old at c.args.place) in
    extended-is (take at old) (made (take c.args.place (drop at old))) (drop end old) c.rewrite_turned-len.new.buf.bytes c.pad_quote.new.buf.bytes at c.rewrite_turned-len.result 8
    (sym (length-take-le at old (omega (arith, c.requires.inside)))) (c.rewrite_turned-len.ensures.len ∙ ap length same)
    (c.rewrite_turned-len.ensures.bytes ∙ ap (λ l. take at old ++ l ++ drop end old) same) c.pad_quote.ensures.bytes

pub returns-clause-octet : goal.returns-clause-octet
returns-clause-octet c =
    let old : List ℕ = c.args.buf.now.bytes in
    let at : ℕ = c.args.at in
    let end : ℕ = at + c.args.place in
    let w : Walked = walked c.args.walk in
    let made = λ (q : List ℕ). quote_turned c.args.new.src.0 c.args.new.dst.0 (quoted6_fields w q) in
    let same : made (part old at (end - at)) ≡ made (take c.args.place (drop at old)) = ap made (part-front old at c.args.place) in
    c.pad_quote.ensures.octet
    ∙ ap (λ n. (n + padding 8 n) / 8) (c.rewrite_turned-len.ensures.len ∙ ap length same)
    ∙ ap (λ n. n / 8) (sym (padded-length 8 (made (take c.args.place (drop at old)))))
