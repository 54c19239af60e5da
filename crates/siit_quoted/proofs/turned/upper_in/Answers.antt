use Rattle.std.proofs.Common.{◌≡◌, ℕ, ◌+◌, ◌-◌, List, true, ◌==◌, min, length, ◌∙◌, ap, sym}
use Rattle.std.proofs.lemmas.Bool.{not-false, not-true}
use Rattle.siit_model.specs.Ipv6.{ipv6_fields, payload_length_in}
use Rattle.siit_upper.specs.Walks.{fragment_in, walked}
use Rattle.siit_model.specs.Fragments.{fields_in}
use Rattle.siit_quoted.proofs.TurnedQuotes.{upper-first, upper-later}
use Rattle.siit_quoted.proofs.turned.upper_in.Goals as goal

pub returns-then-is_later : goal.returns-then-is_later
returns-then-is_later c =
    upper-later c.args.new.src.0 c.args.new.dst.0 (walked c.args.walk) c.args.quote.now c.requires
    (not-true ((fields_in (fragment_in c.args.walk.frag)).offset == 0) (sym c.is_later.ensures ∙ c.if-is_later.true))

pub returns : goal.returns
returns c =
    let quote : List ℕ = c.args.quote.now in
    let same : c.new-header.result ≡ quote = c.new-header.ensures in
    let size : c.length-payload_len.result ≡ payload_length_in quote = c.length-payload_len.ensures ∙ ap payload_length_in same in
    let first : (fields_in (fragment_in c.args.walk.frag)).offset == 0 ≡ true = not-false ((fields_in (fragment_in c.args.walk.frag)).offset == 0) (sym c.is_later.ensures ∙ c.if-is_later.false) in
    upper-first c.args.new.src.0 c.args.new.dst.0 (walked c.args.walk) quote c.turn_upper.new.part _ (40 + c.from-header_len.result) c.min-len.result c.src.result.0 c.dst.result.0 c.requires first
    (ap (λ n. 40 + n) c.from-header_len.ensures) (c.min-len.ensures ∙ ap (λ n. min (length quote) (40 + n)) (c.from.ensures ∙ size))
    (ap (λ n. n - c.args.walk.at) size)
    (c.src.ensures ∙ ap (λ b. (ipv6_fields b).source) same) (c.dst.ensures ∙ ap (λ b. (ipv6_fields b).destination) same)
    c.turn_upper.ensures
