use Rattle.std.proofs.Common.{◌≡◌, ℕ, ◌+◌, ◌^◌, ◌<◌, ◌≤◌, List, length, get_or, map, sym, ap, ◌∙◌, subst, arith}
use Rattle.siit_eamt.specs.declared.interval.Interval.{Interval}
use Rattle.siit_eamt.specs.declared.starts.Block.{Block}
use Rattle.siit_eamt.specs.Cutting.{interval_from}
use Rattle.siit_eamt.specs.Intervals.{AnswerAs, HasBegun, place6}
use Rattle.siit_eamt.specs.Starts.{AreAscendingStarts, block6}
use Rattle.siit_eamt.proofs.Families.{answers6, begins6}
use Rattle.siit_eamt.proofs.Results.{if_ok-map}
use Rattle.siit_eamt.proofs.cutting.intervals6.Goals as goal

pub starts_of-requires : goal.starts_of-requires
starts_of-requires c = λ k d in_k. let below = c.in_ok-blocks.ensures.within k d (subst (λ (bs : List Block). k < length bs) c.deref.ensures.value in_k) in omega (arith, ap (λ (bs : List Block). (get_or bs k d).first) c.deref.ensures.value)

pub new-requires-clause-all : goal.new-requires-clause-all
new-requires-clause-all c =
    let nodes = c.args.trie6.now.nodes.items in
    let starts = c.in_ok-starts.starts.items in
    let are = subst (λ (bs : List Block). AreAscendingStarts bs 340282366920938463463374607431768211455 starts) (c.deref.ensures.value ∙ c.in_ok-blocks.ensures.blocks) c.in_ok-starts.ensures.starts in
    let made : c.in_ok-intervals.intervals.items ≡ map (interval_from nodes 128) starts = c.in_ok-intervals.ensures ∙ ap (map (interval_from nodes 128)) c.deref-2.ensures.value in
    subst (λ (xs : List Interval). (address : ℕ) → HasBegun xs 0 address) (sym made)
    (begins6 c.args.entries.now nodes 340282366920938463463374607431768211455 starts c.requires.faultless c.requires.trie (omega arith) are)

pub returns : goal.returns
returns c =
    let nodes = c.args.trie6.now.nodes.items in
    let starts = c.in_ok-starts.starts.items in
    let are = subst (λ (bs : List Block). AreAscendingStarts bs 340282366920938463463374607431768211455 starts) (c.deref.ensures.value ∙ c.in_ok-blocks.ensures.blocks) c.in_ok-starts.ensures.starts in
    let made : c.in_ok-intervals.intervals.items ≡ map (interval_from nodes 128) starts = c.in_ok-intervals.ensures ∙ ap (map (interval_from nodes 128)) c.deref-2.ensures.value in
    let answers = answers6 c.args.entries.now nodes 340282366920938463463374607431768211455 starts c.requires.faultless c.requires.trie (omega arith) are in
    if_ok-map (λ (kept : List Interval). kept ≡ c.in_ok-intervals.intervals.items) (λ kept. AnswerAs (place6 c.args.entries.now) (2 ^ 128) kept) c.new.result
    (λ kept same. subst (AnswerAs (place6 c.args.entries.now) (2 ^ 128)) (sym (same ∙ made)) answers) c.new.ensures
