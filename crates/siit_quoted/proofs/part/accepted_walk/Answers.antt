use Rattle.std.proofs.Common.{◌≡◌, ℕ, ◌+◌, ◌-◌, ◌≤◌, List, length, min, take, drop, Ok, ◌∙◌, ap, sym, subst}
use Rattle.siit_model.specs.Extensions.{walk_of}
use Rattle.siit_model.specs.Ipv6.{ipv6_fields, payload_length_in}
use Rattle.siit_upper.specs.Walks.{walked}
use Rattle.siit_upper.specs.declared.walk.Walk.{Walk}
use Rattle.siit_v6to4.specs.To4.{walk_in}
use Rattle.siit_quoted.proofs.Accepted6.{Accepted6, accepted6, body-here, from-ok, has-quote, is-ok}
use Rattle.siit_quoted.proofs.part.accepted_walk.Goals as goal

pub unwrap-requires : goal.unwrap-requires
unwrap-requires c =
    let quote : List ℕ = c.args.quote.now in
    let same : c.new-header.result ≡ quote = c.new-header.ensures in
    let end : c.min-end.result ≡ min (length quote) (40 + payload_length_in quote) =
    c.min-end.ensures ∙ ap (λ n. min (length quote) (40 + n)) (c.from.ensures ∙ c.length.ensures ∙ ap payload_length_in same) in
    let acc : Accepted6 quote = accepted6 quote c.requires in
    let there : walk_of c.next.result (take (c.min-end.result - 40) (drop 40 quote)) ≡ Ok acc.walked =
    ap (λ n. walk_of n (take (c.min-end.result - 40) (drop 40 quote))) (c.next.ensures ∙ ap (λ b. (ipv6_fields b).next) same)
    ∙ ap (walk_of (ipv6_fields quote).next) (body-here quote c.min-end.result end) ∙ acc.walk in
    is-ok c.walk_ext.result _ acc.walked there c.walk_ext.ensures.refused

pub returns-clause-walk : goal.returns-clause-walk
returns-clause-walk c =
    let quote : List ℕ = c.args.quote.now in
    let same : c.new-header.result ≡ quote = c.new-header.ensures in
    let end : c.min-end.result ≡ min (length quote) (40 + payload_length_in quote) =
    c.min-end.ensures ∙ ap (λ n. min (length quote) (40 + n)) (c.from.ensures ∙ c.length.ensures ∙ ap payload_length_in same) in
    let there : walk_of c.next.result (take (c.min-end.result - 40) (drop 40 quote)) ≡ walk_in quote =
    ap (λ n. walk_of n (take (c.min-end.result - 40) (drop 40 quote))) (c.next.ensures ∙ ap (λ b. (ipv6_fields b).next) same)
    ∙ ap (walk_of (ipv6_fields quote).next) (body-here quote c.min-end.result end) in
    sym there ∙ from-ok (λ (x : Walk). walk_of c.next.result (take (c.min-end.result - 40) (drop 40 quote)) ≡ Ok (walked x)) c.walk_ext.result c.unwrap.result c.unwrap.ensures c.walk_ext.ensures.walk

pub returns-clause-quote : goal.returns-clause-quote
returns-clause-quote c =
    let quote : List ℕ = c.args.quote.now in
    let same : c.new-header.result ≡ quote = c.new-header.ensures in
    let end : c.min-end.result ≡ min (length quote) (40 + payload_length_in quote) =
    c.min-end.ensures ∙ ap (λ n. min (length quote) (40 + n)) (c.from.ensures ∙ c.length.ensures ∙ ap payload_length_in same) in
    let there : walk_of c.next.result (take (c.min-end.result - 40) (drop 40 quote)) ≡ walk_in quote =
    ap (λ n. walk_of n (take (c.min-end.result - 40) (drop 40 quote))) (c.next.ensures ∙ ap (λ b. (ipv6_fields b).next) same)
    ∙ ap (walk_of (ipv6_fields quote).next) (body-here quote c.min-end.result end) in
    let walk : walk_in quote ≡ Ok (walked c.unwrap.result) = sym there ∙ from-ok (λ (x : Walk). walk_of c.next.result (take (c.min-end.result - 40) (drop 40 quote)) ≡ Ok (walked x)) c.walk_ext.result c.unwrap.result c.unwrap.ensures c.walk_ext.ensures.walk in
    let within = from-ok (λ (x : Walk). x.at ≤ length (take (c.min-end.result - 40) (drop 40 quote))) c.walk_ext.result c.unwrap.result c.unwrap.ensures c.walk_ext.ensures.within in
    has-quote (walked c.unwrap.result) quote c.requires walk (subst (λ (l : List ℕ). c.unwrap.result.at ≤ length l) (body-here quote c.min-end.result end) within)
