use Rattle.std.proofs.Common.{ℕ, List, length, take, drop, ap, sym, subst, arith}
use Rattle.siit_quoted.specs.Quoted.{HasQuote4, quoted4_fields}
use Rattle.siit_quoted.specs.Quotes.{quote_to_6}
use Rattle.siit_quoted.proofs.Quotes46.{accepted-quote}
use Rattle.siit_quoted.proofs.Extended.{fits-rest, part-rest, rest-gone}
use Rattle.siit_quoted.proofs.to_ipv6.quote_alone.Goals as goal

pub rewrite46-requires-clause-quote : goal.rewrite46-requires-clause-quote
rewrite46-requires-clause-quote c =
    let old : List ℕ = c.args.buf.now.bytes in
    subst HasQuote4 (sym (part-rest c.bytes-end.result.now old c.args.at c.bytes-end.ensures.value)) (accepted-quote (drop c.args.at old) c.requires.accepted)

pub rewrite46-requires-clause-fits : goal.rewrite46-requires-clause-fits
rewrite46-requires-clause-fits c =
    let old : List ℕ = c.args.buf.now.bytes in
    fits-rest (λ q. length (take 1232 (quote_to_6 c.args.new.src.0 c.args.new.dst.0 c.args.tos_zero (quoted4_fields q)))) _ (drop c.args.at old) old c.args.at (length c.bytes-end.result.now)
    (part-rest c.bytes-end.result.now old c.args.at c.bytes-end.ensures.value) (omega (arith, ap length c.bytes-end.ensures.value)) c.requires.fits

pub returns-clause-bytes : goal.returns-clause-bytes
returns-clause-bytes c =
    let old : List ℕ = c.args.buf.now.bytes in
    rest-gone (λ q. take 1232 (quote_to_6 c.args.new.src.0 c.args.new.dst.0 c.args.tos_zero (quoted4_fields q))) c.rewrite46.new.buf.bytes (take c.args.at old) _ (drop c.args.at old) old (length c.bytes-end.result.now)
    (part-rest c.bytes-end.result.now old c.args.at c.bytes-end.ensures.value) (omega (arith, ap length c.bytes-end.ensures.value)) c.rewrite46.ensures.bytes
