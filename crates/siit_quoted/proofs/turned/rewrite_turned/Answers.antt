use Rattle.std.proofs.Common.{◌≡◌, ℕ, ◌+◌, ◌-◌, ◌≤◌, List, length, min, drop, ◌∙◌, ap, sym, subst, arith, length-drop}
use Rattle.std.proofs.lemmas.List.{length-take-le}
use Rattle.siit_model.specs.Bytes.{part}
use Rattle.siit_model.specs.Ipv6.{payload_length_in}
use Rattle.siit_upper.specs.Walks.{walked}
use Rattle.siit_quoted.proofs.Quotes46.{rewritten-length}
use Rattle.siit_quoted.proofs.TurnedQuotes.{moved-turned, turned-length, turned-rewritten}
use Rattle.siit_quoted.proofs.turned.rewrite_turned.Goals as goal

pub quote_len-len-requires : goal.quote_len-len-requires
quote_len-len-requires c =
    let at : ℕ = c.args.at in let end : ℕ = c.args.end in
    let long : 40 ≤ length (part c.args.buf.now.bytes at (end - at)) = omega (arith, c.requires.quote.header) in
    subst (λ (b : List ℕ). 40 ≤ length (part b at (end - at))) (sym c.bytes.ensures.value) long

pub overflow_sub-end : goal.overflow_sub-end
overflow_sub-end c =
    let at : ℕ = c.args.at in let end : ℕ = c.args.end in let old : List ℕ = c.args.buf.now.bytes in let len : ℕ = c.quote_len-len.result in
    let is_len : len ≡ min (length (part old at (end - at))) (40 + payload_length_in (part old at (end - at))) =
    c.quote_len-len.ensures ∙ ap (λ (b : List ℕ). min (length (part b at (end - at))) (40 + payload_length_in (part b at (end - at)))) c.bytes.ensures.value in
    let size : length (part old at (end - at)) ≡ end - at = length-take-le (end - at) (drop at old) (omega (arith, c.requires.inside, length-drop at old)) in
    omega (arith, is_len, size, c.requires.ordered)

pub remove_within-requires : goal.remove_within-requires
remove_within-requires c =
    let at : ℕ = c.args.at in let end : ℕ = c.args.end in let old : List ℕ = c.args.buf.now.bytes in let len : ℕ = c.quote_len-len.result in
    let is_len : len ≡ min (length (part old at (end - at))) (40 + payload_length_in (part old at (end - at))) =
    c.quote_len-len.ensures ∙ ap (λ (b : List ℕ). min (length (part b at (end - at))) (40 + payload_length_in (part b at (end - at)))) c.bytes.ensures.value in
    let size : length (part old at (end - at)) ≡ end - at = length-take-le (end - at) (drop at old) (omega (arith, c.requires.inside, length-drop at old)) in
    omega (arith, is_len, size, c.requires.ordered, c.requires.inside, rewritten-length old c.turn_at.new.bytes)

pub returns-clause-bytes : goal.returns-clause-bytes
returns-clause-bytes c =
    let at : ℕ = c.args.at in let end : ℕ = c.args.end in let old : List ℕ = c.args.buf.now.bytes in let len : ℕ = c.quote_len-len.result in
    let is_len : len ≡ min (length (part old at (end - at))) (40 + payload_length_in (part old at (end - at))) =
    c.quote_len-len.ensures ∙ ap (λ (b : List ℕ). min (length (part b at (end - at))) (40 + payload_length_in (part b at (end - at)))) c.bytes.ensures.value in
    let size : length (part old at (end - at)) ≡ end - at = length-take-le (end - at) (drop at old) (omega (arith, c.requires.inside, length-drop at old)) in
    turned-rewritten c.args.new.src.0 c.args.new.dst.0 at end len (walked c.args.walk) old _ c.remove_within.new.buf.bytes c.requires.ordered c.requires.inside c.requires.quote is_len
    (moved-turned c.args.new.src.0 c.args.new.dst.0 at end (walked c.args.walk) old c.bytes_mut.result.now c.turn_at.new.bytes c.requires.ordered c.requires.inside c.bytes_mut.ensures.value c.requires.quote c.turn_at.ensures)
    c.remove_within.ensures.bytes

pub returns-clause-len : goal.returns-clause-len
returns-clause-len c =
    let at : ℕ = c.args.at in let end : ℕ = c.args.end in let old : List ℕ = c.args.buf.now.bytes in let len : ℕ = c.quote_len-len.result in
    let is_len : len ≡ min (length (part old at (end - at))) (40 + payload_length_in (part old at (end - at))) =
    c.quote_len-len.ensures ∙ ap (λ (b : List ℕ). min (length (part b at (end - at))) (40 + payload_length_in (part b at (end - at)))) c.bytes.ensures.value in
    let size : length (part old at (end - at)) ≡ end - at = length-take-le (end - at) (drop at old) (omega (arith, c.requires.inside, length-drop at old)) in
    is_len ∙ sym (turned-length c.args.new.src.0 c.args.new.dst.0 (walked c.args.walk) (part old at (end - at)) c.requires.quote)

pub returns-clause-most : goal.returns-clause-most
returns-clause-most c =
    let at : ℕ = c.args.at in let end : ℕ = c.args.end in let old : List ℕ = c.args.buf.now.bytes in let len : ℕ = c.quote_len-len.result in
    let is_len : len ≡ min (length (part old at (end - at))) (40 + payload_length_in (part old at (end - at))) =
    c.quote_len-len.ensures ∙ ap (λ (b : List ℕ). min (length (part b at (end - at))) (40 + payload_length_in (part b at (end - at)))) c.bytes.ensures.value in
    let size : length (part old at (end - at)) ≡ end - at = length-take-le (end - at) (drop at old) (omega (arith, c.requires.inside, length-drop at old)) in
    omega (arith, is_len, size)

pub returns-clause-moved : goal.returns-clause-moved
returns-clause-moved c =
    let at : ℕ = c.args.at in let end : ℕ = c.args.end in let old : List ℕ = c.args.buf.now.bytes in let len : ℕ = c.quote_len-len.result in
    let is_len : len ≡ min (length (part old at (end - at))) (40 + payload_length_in (part old at (end - at))) =
    c.quote_len-len.ensures ∙ ap (λ (b : List ℕ). min (length (part b at (end - at))) (40 + payload_length_in (part b at (end - at)))) c.bytes.ensures.value in
    let size : length (part old at (end - at)) ≡ end - at = length-take-le (end - at) (drop at old) (omega (arith, c.requires.inside, length-drop at old)) in
    λ more.
    let gap = c.remove_within.ensures.moved (omega (arith, is_len, size, more, c.requires.ordered, rewritten-length old c.turn_at.new.bytes)) in
    omega (arith, gap, is_len, size, c.requires.ordered)
