-- What an accepted IPv6 quote tells.
use Rattle.std.proofs.Common.{◌≡◌, ℕ, ◌+◌, ◌-◌, ◌≤◌, List, length, min, take, drop, Bool, true, false, not, nat_lt, ◌==◌, ◌||◌, if◌then◌else◌, Option, Some, None, is_some, Result, Ok, Err, IfErr, IfOk, IsOk, ◌∙◌, ap, sym, subst, refl, arith, eq-eqb, le-ltb, length-drop}
use Rattle.std.proofs.lemmas.Bool.{eqb-true, ltb-false, not-false}
use Rattle.std.proofs.lemmas.List.{length-take}
use Rattle.siit_model.specs.Bytes.{part}
use Rattle.siit_model.specs.Extensions.{Walked, Trouble, runs_short, out_of_order, behind_fragment, walk_of}
use Rattle.siit_model.specs.Ipv6.{ipv6_fields, payload_length_in, version6_in}
use Rattle.siit_rules.specs.declared.rule.Rule.{Rule}
use Rattle.siit_rules.specs.declared.rule.Rule.TheVariants.{ExtAfterFragment6, ExtOrder6, NestedTwice6, QuoteBad6, QuoteShort6, QuoteType6, ShortExt6}
use Rattle.siit_upper.specs.Walks.{walk_by_rule}
use Rattle.siit_upper.specs.declared.walk.Walk.{Walk}
use Rattle.siit_v6to4.specs.To4.{walk_in}
use Rattle.siit_quoted.specs.Quoted.{HasQuote6, quoted6_fields, quoted_fragment6}
use Rattle.siit_quoted.specs.Refusals.{is_nested6, is_untranslated6, quote_refusal6, refusal_by_walk6, walked_refusal6}
use Rattle.siit_quoted.proofs.Quotes46.{payload-here}
use Rattle.siit_quoted.proofs.Walks6.{walk-units}

pub record Accepted6 (quote : List ℕ) : Type 0 where
  pub walked : Walked
  pub walk : walk_in quote ≡ Ok walked
  pub version : version6_in quote ≡ 6
  pub long : 40 ≤ length quote
  pub fits : 20 + (payload_length_in quote - walked.at) ≤ 65535

two-tests : (short version : Bool) (rest : Option Rule) (a b : Rule) → (if short then Some a else if version then Some b else rest) ≡ None → (short ≡ false) × (version ≡ false) × (rest ≡ None)
two-tests true version rest a b is = absurd (cc)
two-tests false true rest a b is = absurd (cc)
two-tests false false rest a b is = (refl, refl, is)

six-is : (version : ℕ) → not (version == 6) ≡ false → version ≡ 6
six-is version is = eqb-true version 6 (not-false (version == 6) is)

first-test : (one two : Bool) (rest : Option Rule) (a : Rule) → (if one || two then Some a else rest) ≡ None → two ≡ false
first-test true two rest a is = absurd (cc)
first-test false true rest a is = absurd (cc)
first-test false false rest a is = refl

by-result : (quote : List ℕ) (r : Result Walked Trouble) → refusal_by_walk6 quote r ≡ None → (w : Walked) × ((r ≡ Ok w) × (walked_refusal6 (quoted6_fields w quote) ≡ None))
by-result quote (Ok w) is = (w, (refl, is))
by-result quote (Err runs_short) is = absurd (cc)
by-result quote (Err out_of_order) is = absurd (cc)
by-result quote (Err behind_fragment) is = absurd (cc)

pub accepted6 : (quote : List ℕ) → quote_refusal6 quote ≡ None → Accepted6 quote
accepted6 quote is =
    let tests = two-tests (nat_lt (length quote) 40) (not (version6_in quote == 6)) (refusal_by_walk6 quote (walk_in quote)) QuoteShort6 QuoteBad6 is in
    let there = by-result quote (walk_in quote) tests.2 in
    let small = first-test (is_some there.0.segments) (nat_lt 65535 (20 + (payload_length_in quote - there.0.at)))
    (if is_nested6 (quoted_fragment6 (quoted6_fields there.0 quote)) then Some NestedTwice6 else if is_untranslated6 (quoted_fragment6 (quoted6_fields there.0 quote)) then Some QuoteType6 else None) QuoteBad6 there.1.1 in
    record {
      walked = there.0;
      walk = there.1.0;
      version = six-is (version6_in quote) tests.1;
      long = ltb-false (length quote) 40 tests.0;
      fits = ltb-false 65535 (20 + (payload_length_in quote - there.0.at)) small;
    }

-- the body that is there
pub body-here : (quote : List ℕ) (end : ℕ) → end ≡ min (length quote) (40 + payload_length_in quote) → take (end - 40) (drop 40 quote) ≡ (ipv6_fields quote).body
body-here quote end is =
    let same : 40 + payload_length_in quote - 40 ≡ payload_length_in quote = omega arith in
    ap (λ n. take (n - 40) (drop 40 quote)) is ∙ payload-here quote 40 (40 + payload_length_in quote) ∙ ap (λ n. take n (drop 40 quote)) same

pub is-ok : (r : Result Walk Rule) (whole : Result Walked Trouble) (w : Walked) → whole ≡ Ok w → IfErr r (λ rule. walk_by_rule whole ≡ Err rule) → IsOk r
is-ok (Ok walk) whole w is refused = refl
is-ok (Err rule) whole w is refused =
    let there : walk_by_rule whole ≡ Ok w = ap walk_by_rule is in
    absurd (cc)

pub from-ok : (P : Walk → Type 0) (r : Result Walk Rule) (x : Walk) → r ≡ Ok x → IfOk r P → P x
from-ok P r x is holds = subst (λ (y : Result Walk Rule). IfOk y P) is holds

-- a quote whose walk is refused
pub refused-walk : (part : List ℕ) (r : Result Walked Trouble) (rule other : Rule) → walk_by_rule r ≡ Err rule
    → (rule ≡ ShortExt6 → other ≡ QuoteShort6) → ((rule ≡ ShortExt6 → ⊥) → other ≡ QuoteBad6) → refusal_by_walk6 part r ≡ Some other
refused-walk part (Ok w) rule other refused short bad = absurd (cc)
refused-walk part (Err runs_short) rule other refused short bad = let is : rule ≡ ShortExt6 = cc in ap (λ x. Some x) (sym (short is))
refused-walk part (Err out_of_order) rule other refused short bad =
    let is : rule ≡ ExtOrder6 = cc in ap (λ x. Some x) (sym (bad (λ (same : rule ≡ ShortExt6). absurd (cc))))
refused-walk part (Err behind_fragment) rule other refused short bad =
    let is : rule ≡ ExtAfterFragment6 = cc in ap (λ x. Some x) (sym (bad (λ (same : rule ≡ ShortExt6). absurd (cc))))

-- behind the tests of the header
tests-past : (short bad : Bool) (rest : Option Rule) (a b : Rule) → short ≡ false → bad ≡ false → (if short then Some a else if bad then Some b else rest) ≡ rest
tests-past short bad rest a b one two = rw (one, two) refl

pub by-its-walk : (part : List ℕ) → 40 ≤ length part → version6_in part ≡ 6 → quote_refusal6 part ≡ refusal_by_walk6 part (walk_in part)
by-its-walk part long version =
    tests-past (nat_lt (length part) 40) (not (version6_in part == 6)) (refusal_by_walk6 part (walk_in part)) QuoteShort6 QuoteBad6
    (le-ltb (length part) 40 long) (ap not (eq-eqb (version6_in part) 6 version))

pub walk-seen : (part body : List ℕ) (next : ℕ) → next ≡ (ipv6_fields part).next → body ≡ (ipv6_fields part).body → walk_of next body ≡ walk_in part
walk-seen part body next is_next is_body = ap (λ n. walk_of n body) is_next ∙ ap (walk_of (ipv6_fields part).next) is_body

pub same-walk : (v w : Walked) (r : Result Walked Trouble) → r ≡ Ok v → r ≡ Ok w → v ≡ w
same-walk v w r one two = cc

-- what an accepted quote tells, for its walk
pub has-quote : (w : Walked) (quote : List ℕ) → quote_refusal6 quote ≡ None → walk_in quote ≡ Ok w → w.at ≤ length (ipv6_fields quote).body → HasQuote6 w quote
has-quote w quote accepted walk within =
    let acc = accepted6 quote accepted in
    let is : w ≡ acc.walked = same-walk w acc.walked (walk_in quote) walk acc.walk in
    let size = length-take (payload_length_in quote) (drop 40 quote) ∙ ap (λ n. min (payload_length_in quote) n) (length-drop 40 quote) in
    record {
      version = acc.version;
      header = omega (arith, within, size, acc.long);
      units = walk-units (ipv6_fields quote).next (ipv6_fields quote).body w walk;
      ordered = omega (arith, within, size);
      fits = subst (λ (v : Walked). 20 + (payload_length_in quote - v.at) ≤ 65535) (sym is) acc.fits;
    }
