use Rattle.std.proofs.Common.{◌≡◌, ℕ, ◌+◌, ◌-◌, List, take, drop, Option, ◌∙◌, ap, refl, arith}
use Rattle.std.proofs.lemmas.List.{take_rest}
use Rattle.siit_model.specs.Checksum.{residue}
use Rattle.siit_model.specs.Extensions.{Walked}
use Rattle.siit_upper.specs.Walks.{walked}
use Rattle.siit_quoted.specs.Bodies.{NewBody}
use Rattle.siit_quoted.specs.Rewriting.{walked_body_turned}
use Rattle.siit_quoted.proofs.Bodies.{body-turned-walked}
use Rattle.siit_turning.proofs.Bodies.{facts-for, kept-turned, quote-kept, sums-whole, walk-kept}
use Rattle.siit_turning.proofs.error.planned.Goals as goal

pub quote_sums_turned-body-requires-clause-extension : goal.quote_sums_turned-body-requires-clause-extension
quote_sums_turned-body-requires-clause-extension c =
    let n : ℕ = c.kept_len-end.result in
    let facts = facts-for c.args.message.now c.body_extension-ext.result n (8 + n - 8) c.requires.accepted.header c.are_bytes.ensures c.body_extension-ext.ensures c.kept_len-end.ensures.kept (omega arith) in
    facts.carried

pub quote_sums_turned-body-requires-clause-quote : goal.quote_sums_turned-body-requires-clause-quote
quote_sums_turned-body-requires-clause-quote c =
    let n : ℕ = c.kept_len-end.result in
    let facts = facts-for c.args.message.now c.body_extension-ext.result n (8 + n - 8) c.requires.accepted.header c.are_bytes.ensures c.body_extension-ext.ensures c.kept_len-end.ensures.kept (omega arith) in
    quote-kept (walked c.accepted_walk-walk.result) c.args.message.now c.quote_part-part.result.now c.body_extension-ext.result (8 + n - 8) facts c.quote_part-part.ensures c.accepted_walk-walk.ensures.quote

pub returns : goal.returns
returns c =
    let message : List ℕ = c.args.message.now in
    let ext : Option ℕ = c.body_extension-ext.result in
    let n : ℕ = c.kept_len-end.result in
    let m : ℕ = 8 + n - 8 in
    let w : Walked = walked c.accepted_walk-walk.result in
    let source : ℕ = c.args.quote.src.0 in
    let destination : ℕ = c.args.quote.dst.0 in
    let facts = facts-for message ext n m c.requires.accepted.header c.are_bytes.ensures c.body_extension-ext.ensures c.kept_len-end.ensures.kept (omega arith) in
    let body : walked_body_turned source destination w ext (take m (drop 8 message)) ≡ _ =
    body-turned-walked source destination w ext (take m (drop 8 message))
    (walk-kept w message c.quote_part-part.result.now ext m facts c.quote_part-part.ensures c.accepted_walk-walk.ensures.walk)
    ∙ kept-turned source destination message ext m facts in
    let end : 8 + n ≡ 8 + m = omega arith in
    record {
      inside = facts.inside;
      carried = facts.carried;
      quoted = quote-kept w message c.quote_part-part.result.now ext m facts c.quote_part-part.ensures c.accepted_walk-walk.ensures.quote;
      body = body;
      sums = sums-whole source destination message (take m (drop 8 message)) (drop (8 + n) message) (walked_body_turned source destination w ext (take m (drop 8 message))).bytes ext m
          c.quote_sums_turned-body.result.gone c.quote_sums_turned-body.result.come c.sum_of.result c.sum_both.result facts refl (ap (λ k. drop k message) end)
          (ap (λ (b : NewBody). b.bytes) body) c.quote_sums_turned-body.ensures (c.sum_of.ensures.value ∙ ap residue (take_rest message (8 + n))) c.sum_both.ensures.value;
    }
