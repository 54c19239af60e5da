use Rattle.std.proofs.Common.{◌≡◌, ℕ, ◌+◌, ◌-◌, List, ◌++◌, length, min, take, drop, ◌∙◌, ap, subst, arith, length-drop}
use Rattle.std.proofs.lemmas.List.{length-take, take_rest}
use Rattle.siit_upper.specs.Walks.{walked}
use Rattle.siit_quoted.specs.Sums.{IsPartDifference}
use Rattle.siit_quoted.proofs.QuoteSumsTurned.{part-sums}
use Rattle.siit_quoted.proofs.sums_turned.part_sums.Goals as goal

twenty : (n kept : ℕ) → n ≡ min kept 20 → min n 20 ≡ min kept 20
twenty n kept is = omega arith

pub upper_sums-upper-requires-clause-front : goal.upper_sums-upper-requires-clause-front
upper_sums-upper-requires-clause-front c =
    let there : List ℕ = drop (40 + c.from-header_len.result) c.args.quote.now in
    let copied : c.copy_front.new.front ≡ take (min c.min.result 20) there = simp length-take at c.copy_front.ensures in
    let size = ap length copied ∙ length-take (min c.min.result 20) there in
    omega (arith, c.turn_front.auto.front, size, length-drop (40 + c.from-header_len.result) c.args.quote.now, c.min.ensures, c.quote_len.ensures)

pub returns : goal.returns
returns c =
    let quote : List ℕ = c.args.quote.now in
    let header_len : ℕ = 40 + c.from-header_len.result in
    let kept : ℕ = c.quote_len.result - header_len in
    let there : List ℕ = drop header_len quote in
    let front : List ℕ = c.turn_front.new.front in
    let upper = c.upper_sums-upper.result in
    let copied : c.copy_front.new.front ≡ take (min kept 20) there =
    (simp length-take at c.copy_front.ensures) ∙ ap (λ n. take n there) (twenty c.min.result kept c.min.ensures) in
    part-sums c.args.new.src.0 c.args.new.dst.0 header_len kept (walked c.args.walk) quote c.copy_front.new.front front
    c.sum_both.result c.sum_both-2.result c.sum_of.result c.addresses_sum.result upper.gone upper.come
    c.are_bytes.ensures c.requires.quote (ap (λ n. 40 + n) c.from-header_len.ensures) (ap (λ n. n - header_len) c.quote_len.ensures) copied c.turn_front.ensures
    (subst (λ l. IsPartDifference l (front ++ take (kept - 20) (drop 20 l)) upper.gone upper.come) (take_rest quote header_len) c.upper_sums-upper.ensures)
    c.sum_of.ensures.value c.addresses_sum.ensures c.sum_both.ensures.value c.sum_both-2.ensures.value
