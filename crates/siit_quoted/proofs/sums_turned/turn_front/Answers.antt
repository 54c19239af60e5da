use Rattle.std.proofs.Common.{◌≡◌, ℕ, ◌-◌, List, true, ◌==◌, ◌∙◌, ap, sym}
use Rattle.std.proofs.lemmas.Bool.{not-false, not-true}
use Rattle.siit_model.specs.Fragments.{fields_in}
use Rattle.siit_model.specs.Ipv6.{ipv6_fields, payload_length_in}
use Rattle.siit_upper.specs.Walks.{fragment_in, walked}
use Rattle.siit_quoted.proofs.Quotes46.{not_first}
use Rattle.siit_quoted.proofs.QuoteSumsTurned.{front-first}
use Rattle.siit_quoted.proofs.sums_turned.turn_front.Goals as goal

pub returns-then-is_later : goal.returns-then-is_later
returns-then-is_later c =
    sym (not_first ((fields_in (fragment_in c.args.walk.frag)).offset == 0) _ c.args.front.now
    (not-true ((fields_in (fragment_in c.args.walk.frag)).offset == 0) (sym c.is_later.ensures ∙ c.if-is_later.true)))

pub returns : goal.returns
returns c =
    let quote : List ℕ = c.args.quote.now in
    let same : c.new-header.result ≡ quote = c.new-header.ensures in
    let first : (fields_in (fragment_in c.args.walk.frag)).offset == 0 ≡ true = not-false ((fields_in (fragment_in c.args.walk.frag)).offset == 0) (sym c.is_later.ensures ∙ c.if-is_later.false) in
    front-first c.args.new.src.0 c.args.new.dst.0 (walked c.args.walk) quote c.args.front.now c.turn_upper.new.part _ c.src.result.0 c.dst.result.0 first
    (ap (λ n. n - c.args.walk.at) (c.length.ensures ∙ ap payload_length_in same))
    (c.src.ensures ∙ ap (λ b. (ipv6_fields b).source) same) (c.dst.ensures ∙ ap (λ b. (ipv6_fields b).destination) same)
    c.turn_upper.ensures
