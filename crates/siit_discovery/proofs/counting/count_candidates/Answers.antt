use Rattle.std.proofs.Common.{◌≡◌, ◌+◌, ◌<◌, ℕ, List, ◌∷◌, length, get_or, drop, filter_map, ap, arith}
use Rattle.siit_discovery.specs.Discovery.{candidate_at, lengths}
use Rattle.siit_discovery.proofs.Steps.{drop-at, count-more}
use Rattle.siit_discovery.proofs.counting.count_candidates.Goals as goal

pub loop-len-preserved : goal.loop-len-preserved
loop-len-preserved c =
    let i : ℕ = c.loop-len.len-index in
    let len : ℕ = get_or lengths i 0 in
    let lt : i < 6 = omega arith in
    let step : length (filter_map (candidate_at c.args.x.0) (drop i lengths)) ≡ length (filter_map (candidate_at c.args.x.0) (len ∷ drop (i + 1) lengths)) =
    ap (λ (ls : List ℕ). length (filter_map (candidate_at c.args.x.0) ls)) (drop-at i lengths lt) in
    let more = count-more c.args.x.0 len (drop (i + 1) lengths) in
    (omega (arith, c.count_at-count.ensures.most), omega (arith, step, more, c.count_at-count.ensures.count, c.loop-len.invariant.1))
