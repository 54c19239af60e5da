use Rattle.std.proofs.Common.{ℕ, List, ◌++◌, take, drop, ◌∙◌, ap}
use Rattle.siit_upper.specs.Walks.{walked}
use Rattle.siit_quoted.specs.Bodies.{NewBody}
use Rattle.siit_quoted.proofs.Bodies.{body-turned-walked, has-handed, refusal-handed, walk-handed}
use Rattle.siit_quoted.proofs.turned.quote_turn.Goals as goal

pub accepted_walk-walk-requires : goal.accepted_walk-walk-requires
accepted_walk-walk-requires c =
    refusal-handed c.args.ext c.args.at c.quote_in.result.now c.bytes.result.now c.args.buf.now.bytes c.quote_in.ensures c.bytes.ensures.value c.requires.accepted

pub quote_turn_by-requires-clause-quote : goal.quote_turn_by-requires-clause-quote
quote_turn_by-requires-clause-quote c =
    has-handed (walked c.accepted_walk-walk.result) c.args.ext c.args.at c.quote_in.result.now c.bytes.result.now c.args.buf.now.bytes c.quote_in.ensures c.bytes.ensures.value
    c.accepted_walk-walk.ensures.quote

pub returns-clause-bytes : goal.returns-clause-bytes
returns-clause-bytes c =
    let old : List ℕ = c.args.buf.now.bytes in
    c.quote_turn_by.ensures.bytes
    ∙ ap (λ (b : NewBody). take c.args.at old ++ b.bytes)
    (body-turned-walked c.args.new.src.0 c.args.new.dst.0 (walked c.accepted_walk-walk.result) c.args.ext (drop c.args.at old)
    (walk-handed (walked c.accepted_walk-walk.result) c.args.ext c.args.at c.quote_in.result.now c.bytes.result.now old c.quote_in.ensures c.bytes.ensures.value
    c.accepted_walk-walk.ensures.walk))

pub returns-clause-octet : goal.returns-clause-octet
returns-clause-octet c =
    let old : List ℕ = c.args.buf.now.bytes in
    c.quote_turn_by.ensures.octet
    ∙ ap (λ (b : NewBody). b.octet)
    (body-turned-walked c.args.new.src.0 c.args.new.dst.0 (walked c.accepted_walk-walk.result) c.args.ext (drop c.args.at old)
    (walk-handed (walked c.accepted_walk-walk.result) c.args.ext c.args.at c.quote_in.result.now c.bytes.result.now old c.quote_in.ensures c.bytes.ensures.value
    c.accepted_walk-walk.ensures.walk))
