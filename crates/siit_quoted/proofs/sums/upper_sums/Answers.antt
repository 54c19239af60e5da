use Rattle.std.proofs.Common.{ℕ, ◌+◌, ◌-◌, ◌%◌, List, take, drop, ◌∙◌, ap, arith}
use Rattle.std.proofs.lemmas.List.{take_rest}
use Rattle.siit_model.specs.Checksum.{residue}
use Rattle.siit_quoted.proofs.Fronts.{long-sums, short-sums}
use Rattle.siit_quoted.proofs.sums.upper_sums.Goals as goal

pub returns-then-kept-lt-CHANGED : goal.returns-then-kept-lt-CHANGED
returns-then-kept-lt-CHANGED c =
    short-sums c.args.upper.now c.args.front.now c.args.kept c.sum_of.result c.sum_of-then-kept-lt-CHANGED.result (omega (arith, c.if-kept-lt-CHANGED.true))
    c.sum_of.ensures.value c.sum_of-then-kept-lt-CHANGED.ensures.value

pub returns : goal.returns
returns c =
    let upper : List ℕ = c.args.upper.now in
    let k : ℕ = c.args.kept - 20 in
    let tail = c.cut_sums-tail.result in
    long-sums upper c.args.front.now c.args.kept c.sum_both.result c.sum_both-2.result c.sum_of-2.result tail.gone tail.come
    (omega (arith, c.if-kept-lt-CHANGED.false)) c.requires.kept c.requires.front c.sum_of-2.ensures.value
    (c.cut_sums-tail.ensures.gone ∙ ap (λ l. residue (drop (k - k % 2) l)) (take_rest upper 20))
    (c.cut_sums-tail.ensures.come ∙ ap (λ l. residue (drop (k - k % 2) (take k l))) (take_rest upper 20))
    c.sum_both.ensures.value (c.sum_both-2.ensures.value ∙ ap (λ n. (n + tail.come) % 65535) c.sum_of-3.ensures.value)
