use Rattle.std.proofs.Common.{◌≡◌, ℕ, ◌+◌, ◌-◌, ◌*◌, ◌/◌, ◌≤◌, List, ◌++◌, length, take, drop, Some, ◌∙◌, ap, sym, subst, arith, length-drop}
use Rattle.std.proofs.lemmas.List.{length-take-le}
use Rattle.siit_model.specs.Bytes.{part}
use Rattle.siit_quoted.specs.Bodies.{padding, room6}
use Rattle.siit_quoted.specs.Quoted.{HasQuote4, quoted4_fields}
use Rattle.siit_quoted.specs.Quotes.{quote_to_6}
use Rattle.siit_quoted.proofs.Quotes46.{accepted-quote}
use Rattle.siit_quoted.proofs.Extended.{extended-is, joined-inside, joined-length, less-by, padded-fits, padded-length, part-front, room-is, taken-most, told}
use Rattle.siit_quoted.proofs.to_ipv6.quote_extended.Goals as goal

pub rewrite46-len-requires-clause-quote : goal.rewrite46-len-requires-clause-quote
rewrite46-len-requires-clause-quote c =
    let old : List ℕ = c.args.buf.now.bytes in
    subst HasQuote4 (sym (part-front old c.args.at c.args.place)) (accepted-quote (take c.args.place (drop c.args.at old)) c.requires.accepted)

pub rewrite46-len-requires-clause-fits : goal.rewrite46-len-requires-clause-fits
rewrite46-len-requires-clause-fits c =
    let old : List ℕ = c.args.buf.now.bytes in let at : ℕ = c.args.at in let end : ℕ = at + c.args.place in
    let made = λ (q : List ℕ) (k : ℕ). take k (quote_to_6 c.args.new.src.0 c.args.new.dst.0 c.args.tos_zero (quoted4_fields q)) in
    let quote : List ℕ = made (take c.args.place (drop at old)) (room6 (Some (drop end old))) in
    let same : made (part old at (end - at)) ((1232 - (length c.bytes-whole.result.now - end)) / 8 * 8) ≡ quote =
    ap (λ q. made q ((1232 - (length c.bytes-whole.result.now - end)) / 8 * 8)) (part-front old at c.args.place) ∙ ap (made (take c.args.place (drop at old))) (room-is c.bytes-whole.result.now old end c.bytes-whole.ensures.value) in
    less-by at (length (made (part old at (end - at)) ((1232 - (length c.bytes-whole.result.now - end)) / 8 * 8))) (length quote) (padding 8 (length quote)) (length (drop end old)) (length old - end)
    (ap length same) (length-drop end old) (subst (λ n. at + n ≤ 65575) (joined-length 8 quote (drop end old)) c.requires.fits)

pub pad_quote-requires-clause-inside : goal.pad_quote-requires-clause-inside
pad_quote-requires-clause-inside c =
    let old : List ℕ = c.args.buf.now.bytes in let at : ℕ = c.args.at in let end : ℕ = at + c.args.place in
    let size = joined-inside (take at old) _ (drop end old) c.rewrite46-len.new.buf.bytes at c.rewrite46-len.result (sym (length-take-le at old (omega (arith, c.requires.inside)))) c.rewrite46-len.ensures.len c.rewrite46-len.ensures.bytes in
    omega (arith, size)

pub pad_quote-requires-clause-fits : goal.pad_quote-requires-clause-fits
pad_quote-requires-clause-fits c =
    let old : List ℕ = c.args.buf.now.bytes in let at : ℕ = c.args.at in let end : ℕ = at + c.args.place in
    let made = λ (q : List ℕ) (k : ℕ). take k (quote_to_6 c.args.new.src.0 c.args.new.dst.0 c.args.tos_zero (quoted4_fields q)) in
    let quote : List ℕ = made (take c.args.place (drop at old)) (room6 (Some (drop end old))) in
    let same : made (part old at (end - at)) ((1232 - (length c.bytes-whole.result.now - end)) / 8 * 8) ≡ quote =
    ap (λ q. made q ((1232 - (length c.bytes-whole.result.now - end)) / 8 * 8)) (part-front old at c.args.place) ∙ ap (made (take c.args.place (drop at old))) (room-is c.bytes-whole.result.now old end c.bytes-whole.ensures.value) in
    let size = joined-inside (take at old) _ (drop end old) c.rewrite46-len.new.buf.bytes at c.rewrite46-len.result (sym (length-take-le at old (omega (arith, c.requires.inside)))) c.rewrite46-len.ensures.len c.rewrite46-len.ensures.bytes in
    padded-fits at c.rewrite46-len.result (length quote) (length (drop end old)) (length c.rewrite46-len.new.buf.bytes) (c.rewrite46-len.ensures.len ∙ ap length same) size
    (subst (λ n. at + n ≤ 65575) (joined-length 8 quote (drop end old)) c.requires.fits)

pub pad_quote-requires-clause-told : goal.pad_quote-requires-clause-told
pad_quote-requires-clause-told c =
    let limit : ℕ = (1232 - (length c.bytes-whole.result.now - (c.args.at + c.args.place))) / 8 * 8 in
    let most : c.rewrite46-len.result ≤ limit = subst (λ n. n ≤ limit) (sym c.rewrite46-len.ensures.len) (taken-most limit _) in
    told c.rewrite46-len.result (omega arith)

pub returns-clause-bytes : goal.returns-clause-bytes
returns-clause-bytes c =
    let old : List ℕ = c.args.buf.now.bytes in let at : ℕ = c.args.at in let end : ℕ = at + c.args.place in
    let made = λ (q : List ℕ) (k : ℕ). take k (quote_to_6 c.args.new.src.0 c.args.new.dst.0 c.args.tos_zero (quoted4_fields q)) in
    let quote : List ℕ = made (take c.args.place (drop at old)) (room6 (Some (drop end old))) in
    let same : made (part old at (end - at)) ((1232 - (length c.bytes-whole.result.now - end)) / 8 * 8) ≡ quote =
    ap (λ q. made q ((1232 - (length c.bytes-whole.result.now - end)) / 8 * 8)) (part-front old at c.args.place) ∙ ap (made (take c.args.place (drop at old))) (room-is c.bytes-whole.result.now old end c.bytes-whole.ensures.value) in
    extended-is (take at old) quote (drop end old) c.rewrite46-len.new.buf.bytes c.pad_quote.new.buf.bytes at c.rewrite46-len.result 8
    (sym (length-take-le at old (omega (arith, c.requires.inside)))) (c.rewrite46-len.ensures.len ∙ ap length same)
    (c.rewrite46-len.ensures.bytes ∙ ap (λ l. take at old ++ l ++ drop end old) same) c.pad_quote.ensures.bytes

pub returns-clause-octet : goal.returns-clause-octet
returns-clause-octet c =
    let old : List ℕ = c.args.buf.now.bytes in let at : ℕ = c.args.at in let end : ℕ = at + c.args.place in
    let made = λ (q : List ℕ) (k : ℕ). take k (quote_to_6 c.args.new.src.0 c.args.new.dst.0 c.args.tos_zero (quoted4_fields q)) in
    let quote : List ℕ = made (take c.args.place (drop at old)) (room6 (Some (drop end old))) in
    let same : made (part old at (end - at)) ((1232 - (length c.bytes-whole.result.now - end)) / 8 * 8) ≡ quote =
    ap (λ q. made q ((1232 - (length c.bytes-whole.result.now - end)) / 8 * 8)) (part-front old at c.args.place) ∙ ap (made (take c.args.place (drop at old))) (room-is c.bytes-whole.result.now old end c.bytes-whole.ensures.value) in
    c.pad_quote.ensures.octet ∙ ap (λ n. (n + padding 8 n) / 8) (c.rewrite46-len.ensures.len ∙ ap length same) ∙ ap (λ n. n / 8) (sym (padded-length 8 quote))
