use Rattle.std.proofs.Common.{◌∙◌, ◌+◌, ◌<◌, ℕ, List, Bool, ◌==◌, get_or, drop, map, fold, filter, filter_map, ap, sym, arith}
use Rattle.siit_discovery.specs.Discovery.{with_prefix, candidate_at, counts, lengths, prefix_of}
use Rattle.siit_discovery.specs.Seen.{address_seen, prefix_seen}
use Rattle.siit_discovery.proofs.Steps.{drop-at, length-more}
use Rattle.siit_discovery.proofs.counting.push_counting.Goals as goal

pub loop-len-preserved : goal.loop-len-preserved
loop-len-preserved c =
    let i : ℕ = c.loop-len.len-index in
    let len : ℕ = get_or lengths i 0 in
    let lt : i < 6 = omega arith in
    let addresses : List ℕ = map address_seen c.args.addresses.now in
    let alone : Bool = c.count_candidates-alone.result == 1 in
    let old : List (ℕ × ℕ) = map prefix_seen c.loop-len.found.items in
    ap (λ (found : List (ℕ × ℕ)). fold with_prefix found (map prefix_of (filter (counts alone addresses) (filter_map (candidate_at c.args.x.0) (drop (i + 1) lengths))))) c.in_ok-push_if_counting.ensures
    ∙ sym (length-more alone addresses (drop (i + 1) lengths) c.args.x.0 len old)
    ∙ ap (λ (ls : List ℕ). fold with_prefix old (map prefix_of (filter (counts alone addresses) (filter_map (candidate_at c.args.x.0) ls)))) (sym (drop-at i lengths lt))
    ∙ c.loop-len.invariant
