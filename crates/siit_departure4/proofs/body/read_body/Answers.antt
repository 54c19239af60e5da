use Rattle.std.proofs.Common.{◌≡◌, ℕ, ◌-◌, ◌≤◌, List, IfSome, length, drop, take, ◌∙◌, ap, sym, subst}
use Rattle.std.proofs.lemmas.List.{take_rest}
use Rattle.siit_model.specs.Checksum.{residue}
use Rattle.siit_upper.specs.Walks.{walked}
use Rattle.siit_quoted.specs.Bodies.{NewBody}
use Rattle.siit_quoted.specs.Quoted.{HasQuote6}
use Rattle.siit_quoted.specs.Rewriting.{IsCarried, part_before, walked_body_to_4}
use Rattle.siit_quoted.specs.Sums.{IsDifference}
use Rattle.siit_v6to4.specs.To4.{walk_in}
use Rattle.siit_departure4.proofs.Bodies.{body-difference, body-is, body-shorter, even-units, kept-seen, quote-kept}
use Rattle.siit_departure4.proofs.body.read_body.Goals as goal

pub split_at-requires : goal.split_at-requires
split_at-requires c =
    let message : List ℕ = c.args.message.now in
    let is = kept-seen message (take (length message - 8) (drop 8 message)) c.quote_part-part.result.now c.extension_in_body-ext.result c.kept_len-len.result c.args.error.now.new
    c.requires.kind c.extension_in_body-ext.ensures (take_rest message 8) c.quote_part-part.ensures c.kept_len-len.ensures in
    subst (λ l. c.kept_len-len.result ≤ length l) (sym (take_rest message 8)) is.inside

pub quote_sums64-sums-requires-clause-extension : goal.quote_sums64-sums-requires-clause-extension
quote_sums64-sums-requires-clause-extension c =
    let message : List ℕ = c.args.message.now in
    let is = kept-seen message (take (length message - 8) (drop 8 message)) c.quote_part-part.result.now c.extension_in_body-ext.result c.kept_len-len.result c.args.error.now.new
    c.requires.kind c.extension_in_body-ext.ensures (take_rest message 8) c.quote_part-part.ensures c.kept_len-len.ensures in
    let front : c.split_at.result.0.now ≡ take c.kept_len-len.result (drop 8 message) = c.split_at.ensures.front ∙ ap (take c.kept_len-len.result) (take_rest message 8) in
    subst (λ l. IfSome c.extension_in_body-ext.result (λ place. IsCarried place l)) (sym front) is.carried

pub quote_sums64-sums-requires-clause-even : goal.quote_sums64-sums-requires-clause-even
quote_sums64-sums-requires-clause-even c =
    let message : List ℕ = c.args.message.now in
    let is = kept-seen message (take (length message - 8) (drop 8 message)) c.quote_part-part.result.now c.extension_in_body-ext.result c.kept_len-len.result c.args.error.now.new
    c.requires.kind c.extension_in_body-ext.ensures (take_rest message 8) c.quote_part-part.ensures c.kept_len-len.ensures in
    even-units c.extension_in_body-ext.result is.units

pub quote_sums64-sums-requires-clause-quote : goal.quote_sums64-sums-requires-clause-quote
quote_sums64-sums-requires-clause-quote c =
    let message : List ℕ = c.args.message.now in
    let is = kept-seen message (take (length message - 8) (drop 8 message)) c.quote_part-part.result.now c.extension_in_body-ext.result c.kept_len-len.result c.args.error.now.new
    c.requires.kind c.extension_in_body-ext.ensures (take_rest message 8) c.quote_part-part.ensures c.kept_len-len.ensures in
    let front : c.split_at.result.0.now ≡ take c.kept_len-len.result (drop 8 message) = c.split_at.ensures.front ∙ ap (take c.kept_len-len.result) (take_rest message 8) in
    let w = walked c.accepted_walk-walk.result in
    let part = c.quote_part-part.ensures in
    let walk = sym (ap walk_in part) ∙ c.accepted_walk-walk.ensures.walk in
    let has = subst (HasQuote6 w) part c.accepted_walk-walk.ensures.quote in
    subst (λ l. HasQuote6 w (part_before c.extension_in_body-ext.result l)) (sym front)
    (quote-kept message c.extension_in_body-ext.result c.kept_len-len.result c.args.error.now.new.kind w is has)

pub returns-clause-inside : goal.returns-clause-inside
returns-clause-inside c =
    let message : List ℕ = c.args.message.now in
    let is = kept-seen message (take (length message - 8) (drop 8 message)) c.quote_part-part.result.now c.extension_in_body-ext.result c.kept_len-len.result c.args.error.now.new
    c.requires.kind c.extension_in_body-ext.ensures (take_rest message 8) c.quote_part-part.ensures c.kept_len-len.ensures in
    is.inside

pub returns-clause-extension : goal.returns-clause-extension
returns-clause-extension c =
    let message : List ℕ = c.args.message.now in
    let is = kept-seen message (take (length message - 8) (drop 8 message)) c.quote_part-part.result.now c.extension_in_body-ext.result c.kept_len-len.result c.args.error.now.new
    c.requires.kind c.extension_in_body-ext.ensures (take_rest message 8) c.quote_part-part.ensures c.kept_len-len.ensures in
    is.carried

pub returns-clause-quote : goal.returns-clause-quote
returns-clause-quote c =
    let message : List ℕ = c.args.message.now in
    let is = kept-seen message (take (length message - 8) (drop 8 message)) c.quote_part-part.result.now c.extension_in_body-ext.result c.kept_len-len.result c.args.error.now.new
    c.requires.kind c.extension_in_body-ext.ensures (take_rest message 8) c.quote_part-part.ensures c.kept_len-len.ensures in
    let w = walked c.accepted_walk-walk.result in
    let part = c.quote_part-part.ensures in
    let walk = sym (ap walk_in part) ∙ c.accepted_walk-walk.ensures.walk in
    let has = subst (HasQuote6 w) part c.accepted_walk-walk.ensures.quote in
    quote-kept message c.extension_in_body-ext.result c.kept_len-len.result c.args.error.now.new.kind w is has

pub returns-clause-body : goal.returns-clause-body
returns-clause-body c =
    let message : List ℕ = c.args.message.now in
    let is = kept-seen message (take (length message - 8) (drop 8 message)) c.quote_part-part.result.now c.extension_in_body-ext.result c.kept_len-len.result c.args.error.now.new
    c.requires.kind c.extension_in_body-ext.ensures (take_rest message 8) c.quote_part-part.ensures c.kept_len-len.ensures in
    let w = walked c.accepted_walk-walk.result in
    let part = c.quote_part-part.ensures in
    let walk = sym (ap walk_in part) ∙ c.accepted_walk-walk.ensures.walk in
    let new = c.args.error.now.quote in
    body-is new.src.0 new.dst.0 c.args.tos_zero message c.extension_in_body-ext.result c.kept_len-len.result c.args.error.now.new.kind w is walk

pub returns-clause-shorter : goal.returns-clause-shorter
returns-clause-shorter c =
    let message : List ℕ = c.args.message.now in
    let is = kept-seen message (take (length message - 8) (drop 8 message)) c.quote_part-part.result.now c.extension_in_body-ext.result c.kept_len-len.result c.args.error.now.new
    c.requires.kind c.extension_in_body-ext.ensures (take_rest message 8) c.quote_part-part.ensures c.kept_len-len.ensures in
    let w = walked c.accepted_walk-walk.result in
    let part = c.quote_part-part.ensures in
    let walk = sym (ap walk_in part) ∙ c.accepted_walk-walk.ensures.walk in
    let has = subst (HasQuote6 w) part c.accepted_walk-walk.ensures.quote in
    let new = c.args.error.now.quote in
    body-shorter new.src.0 new.dst.0 c.args.tos_zero message c.extension_in_body-ext.result c.kept_len-len.result c.args.error.now.new.kind w is walk has

pub returns-clause-sums : goal.returns-clause-sums
returns-clause-sums c =
    let message : List ℕ = c.args.message.now in
    let is = kept-seen message (take (length message - 8) (drop 8 message)) c.quote_part-part.result.now c.extension_in_body-ext.result c.kept_len-len.result c.args.error.now.new
    c.requires.kind c.extension_in_body-ext.ensures (take_rest message 8) c.quote_part-part.ensures c.kept_len-len.ensures in
    let front : c.split_at.result.0.now ≡ take c.kept_len-len.result (drop 8 message) = c.split_at.ensures.front ∙ ap (take c.kept_len-len.result) (take_rest message 8) in
    let w = walked c.accepted_walk-walk.result in
    let part = c.quote_part-part.ensures in
    let walk = sym (ap walk_in part) ∙ c.accepted_walk-walk.ensures.walk in
    let new = c.args.error.now.quote in
    let ext = c.extension_in_body-ext.result in
    let sums = c.quote_sums64-sums.result in
    let same = ap (λ (b : NewBody). b.bytes) (body-is new.src.0 new.dst.0 c.args.tos_zero message ext c.kept_len-len.result c.args.error.now.new.kind w is walk) in
    let change = subst (λ l. IsDifference l (walked_body_to_4 new.src.0 new.dst.0 c.args.tos_zero w ext l).bytes sums.gone sums.come) front c.quote_sums64-sums.ensures in
    body-difference message _ ext c.kept_len-len.result c.args.error.now.new.kind sums.gone sums.come c.sum_of.result c.sum_both.result is
    (subst (λ l. IsDifference (take c.kept_len-len.result (drop 8 message)) l sums.gone sums.come) same change)
    (c.sum_of.ensures.value ∙ ap residue (c.split_at.ensures.back ∙ ap (drop c.kept_len-len.result) (take_rest message 8))) c.sum_both.ensures
