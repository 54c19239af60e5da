use Rattle.std.proofs.Common.{◌≡◌, ℕ, ◌+◌, ◌-◌, ◌%◌, List, ◌++◌, length, min, take, drop, ◌∙◌, ap, sym, subst, arith, length-drop}
use Rattle.std.proofs.lemmas.List.{length-take, length-take-le, take_rest}
use Rattle.siit_upper.specs.Walks.{walked}
use Rattle.siit_quoted.specs.Sums.{IsPartDifference}
use Rattle.siit_quoted.proofs.QuoteSums64.{part-sums}
use Rattle.siit_quoted.proofs.sums64.part_sums.Goals as goal

pub upper_sums-upper-requires-clause-front : goal.upper_sums-upper-requires-clause-front
upper_sums-upper-requires-clause-front c =
    let quote : List ℕ = c.args.quote.now in
    let p = c.planned-plan.result in
    let there : List ℕ = drop p.header_len quote in
    let copied : c.copy_front.new.front ≡ take (min c.min.result 20) there = simp length-take at c.copy_front.ensures in
    let size = ap length copied ∙ length-take (min c.min.result 20) there in
    omega (arith, c.translate_front.auto.front, size, length-drop p.header_len quote, c.min.ensures, c.planned-plan.ensures.kept, c.planned-plan.ensures.header_len)

pub slice_bounds-sum_of-end : goal.slice_bounds-sum_of-end
slice_bounds-sum_of-end c = sym (length-take-le c.planned-plan.result.header_len c.args.quote.now (omega (arith, c.planned-plan.ensures.header_len, c.requires.quote.header)))

twenty : (n kept : ℕ) → n ≡ min kept 20 → min n 20 ≡ min kept 20
twenty n kept is = omega arith

pub returns : goal.returns
returns c =
    let quote : List ℕ = c.args.quote.now in
    let p = c.planned-plan.result in let e = c.planned-plan.ensures in
    let there : List ℕ = drop p.header_len quote in
    let front : List ℕ = c.translate_front.new.front in
    let copied : c.copy_front.new.front ≡ take (min p.kept 20) there =
    (simp length-take at c.copy_front.ensures) ∙ ap (λ n. take n there) (twenty c.min.result p.kept c.min.ensures) in
    part-sums c.args.new.src.0 c.args.new.dst.0 c.args.limit p.header_len p.kept c.args.tos_zero (walked c.args.walk) quote c.copy_front.new.front front p.written
    c.sum_both.result c.sum_both-2.result c.upper_sums-upper.result.gone c.upper_sums-upper.result.come
    c.requires.quote (record { header_len = e.header_len; kept = e.kept }) c.requires.limit e.written copied c.translate_front.ensures
    (subst (λ l. IsPartDifference l (front ++ take (p.kept - 20) (drop 20 l)) c.upper_sums-upper.result.gone c.upper_sums-upper.result.come) (take_rest quote p.header_len) c.upper_sums-upper.ensures)
    (c.sum_both.ensures.value ∙ ap (λ n. (n + c.upper_sums-upper.result.gone) % 65535) c.sum_of.ensures.value)
    (c.sum_both-2.ensures.value ∙ ap (λ n. (n + c.upper_sums-upper.result.come) % 65535) c.sum_of-2.ensures.value)
