use Rattle.std.proofs.Common.{◌≡◌, ◌≤◌, ℕ, List, length, Err, ◌∙◌, ap, sym, subst}
use Rattle.siit_model.specs.Ipv6.{ipv6_fields}
use Rattle.siit_upper.specs.Walks.{walk_by_rule}
use Rattle.siit_v6to4.specs.To4.{walk_in}
use Rattle.siit_quoted.proofs.Accepted6.{by-its-walk, refused-walk, walk-seen}
use Rattle.siit_quoted.proofs.addresses.walk_quote.Goals as goal

pub returns-in-Ok-clause-walk : goal.returns-in-Ok-clause-walk
returns-in-Ok-clause-walk c =
    sym (walk-seen c.args.part.now c.body6.result.now c.next.result (c.next.ensures ∙ ap (λ b. (ipv6_fields b).next) c.new-header.ensures) c.body6.ensures.value)
    ∙ c.in-Ok.ensures.walk

pub returns-in-Ok-clause-within : goal.returns-in-Ok-clause-within
returns-in-Ok-clause-within c = subst (λ (l : List ℕ). c.in-Ok.walk.at ≤ length l) c.body6.ensures.value c.in-Ok.ensures.within

pub returns-in-Err : goal.returns-in-Err
returns-in-Err c =
    let part : List ℕ = c.args.part.now in
    let seen = walk-seen part c.body6.result.now c.next.result (c.next.ensures ∙ ap (λ b. (ipv6_fields b).next) c.new-header.ensures) c.body6.ensures.value in
    let refused : walk_by_rule (walk_in part) ≡ Err c.in-Err.rule = sym (ap walk_by_rule seen) ∙ c.in-Err.ensures.refused in
    record {
      refused = by-its-walk part c.requires.header c.requires.version
          ∙ refused-walk part (walk_in part) c.in-Err.rule c.quote_rule.result refused c.quote_rule.ensures.short c.quote_rule.ensures.other;
      walk = tt;
      within = tt;
      offset = tt;
    }
