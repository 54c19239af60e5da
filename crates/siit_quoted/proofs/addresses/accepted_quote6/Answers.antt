use Rattle.std.proofs.Common.{◌≡◌, ◌≤◌, ℕ, List, length, None, ◌∙◌, ap, sym, arith}
use Rattle.siit_model.specs.Ipv6.{version6_in}
use Rattle.siit_upper.specs.Walks.{walked}
use Rattle.siit_quoted.specs.Refusals.{quote_refusal6, refusal_by_walk6}
use Rattle.siit_quoted.proofs.Accepted6.{by-its-walk, has-quote}
use Rattle.siit_quoted.proofs.addresses.accepted_quote6.Goals as goal

pub returns-in-None-clause-quote : goal.returns-in-None-clause-quote
returns-in-None-clause-quote c =
    let part : List ℕ = c.args.part.now in
    let long : 40 ≤ length part = omega (arith, c.if-part-lt40.false) in
    let version : version6_in part ≡ 6 = sym (c.version.ensures ∙ ap version6_in c.new-header.ensures) ∙ c.if-version-ne6.false in
    let accepted : quote_refusal6 part ≡ None =
    by-its-walk part long version ∙ ap (refusal_by_walk6 part) c.in-Ok.ensures.walk ∙ sym c.walked_refusal.ensures ∙ c.in-None.is in
    has-quote (walked c.in-Ok.walk) part accepted c.in-Ok.ensures.walk c.in-Ok.ensures.within
