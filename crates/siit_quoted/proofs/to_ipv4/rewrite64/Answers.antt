use Rattle.std.proofs.Common.{◌≡◌, ℕ, ◌+◌, ◌-◌, ◌≤◌, List, length, drop, ◌∙◌, ap, arith, length-drop}
use Rattle.std.proofs.lemmas.List.{length-take-le}
use Rattle.siit_model.specs.Bytes.{part}
use Rattle.siit_model.specs.Extensions.{Walked}
use Rattle.siit_upper.specs.Walks.{walked}
use Rattle.siit_quoted.specs.Quoted.{quoted6_fields}
use Rattle.siit_quoted.specs.Rewriting.{quote_head_to_4}
use Rattle.siit_quoted.proofs.Quotes46.{cut-length, rewritten-length}
use Rattle.siit_quoted.proofs.Quotes64.{kept-inside, moved-upper, planned-seen, quote-cut-length, quote-rewritten}
use Rattle.siit_quoted.proofs.to_ipv4.rewrite64.Goals as goal

pub overflow_sub-end : goal.overflow_sub-end
overflow_sub-end c =
    let at : ℕ = c.args.at in let end : ℕ = c.args.end in let p = c.planned-plan.result in let e = c.planned-plan.ensures in let old : List ℕ = c.args.buf.now.bytes in let w : Walked = walked c.args.walk in
    let plan = planned-seen w c.bytes.result.now old at (end - at) c.args.limit p.header_len p.kept c.bytes.ensures.value (record { header_len = e.header_len; kept = e.kept }) in
    let size : length (part old at (end - at)) ≡ end - at = length-take-le (end - at) (drop at old) (omega (arith, c.requires.inside, length-drop at old)) in
    let within : at + p.header_len + p.kept ≤ end = kept-inside w (part old at (end - at)) c.args.limit p.header_len p.kept at end plan c.requires.quote c.requires.ordered size in
    within

pub remove_within-requires : goal.remove_within-requires
remove_within-requires c =
    let at : ℕ = c.args.at in let end : ℕ = c.args.end in let p = c.planned-plan.result in let e = c.planned-plan.ensures in let old : List ℕ = c.args.buf.now.bytes in let w : Walked = walked c.args.walk in
    let plan = planned-seen w c.bytes.result.now old at (end - at) c.args.limit p.header_len p.kept c.bytes.ensures.value (record { header_len = e.header_len; kept = e.kept }) in
    let size : length (part old at (end - at)) ≡ end - at = length-take-le (end - at) (drop at old) (omega (arith, c.requires.inside, length-drop at old)) in
    let within : at + p.header_len + p.kept ≤ end = kept-inside w (part old at (end - at)) c.args.limit p.header_len p.kept at end plan c.requires.quote c.requires.ordered size in
    omega (arith, within, rewritten-length old c.upper_at.new.bytes, c.requires.inside)

pub replace_within-requires-clause-inside : goal.replace_within-requires-clause-inside
replace_within-requires-clause-inside c =
    let at : ℕ = c.args.at in let end : ℕ = c.args.end in let p = c.planned-plan.result in let e = c.planned-plan.ensures in let old : List ℕ = c.args.buf.now.bytes in let w : Walked = walked c.args.walk in
    let plan = planned-seen w c.bytes.result.now old at (end - at) c.args.limit p.header_len p.kept c.bytes.ensures.value (record { header_len = e.header_len; kept = e.kept }) in
    let size : length (part old at (end - at)) ≡ end - at = length-take-le (end - at) (drop at old) (omega (arith, c.requires.inside, length-drop at old)) in
    let within : at + p.header_len + p.kept ≤ end = kept-inside w (part old at (end - at)) c.args.limit p.header_len p.kept at end plan c.requires.quote c.requires.ordered size in
    let cut = cut-length old c.upper_at.new.bytes c.remove_within.new.buf.bytes (at + p.header_len + p.kept) end within c.requires.inside c.remove_within.ensures.bytes in
    omega (arith, cut, within, c.requires.inside)

pub replace_within-requires-clause-room : goal.replace_within-requires-clause-room
replace_within-requires-clause-room c =
    let at : ℕ = c.args.at in let end : ℕ = c.args.end in let p = c.planned-plan.result in let e = c.planned-plan.ensures in let old : List ℕ = c.args.buf.now.bytes in let w : Walked = walked c.args.walk in
    let plan = planned-seen w c.bytes.result.now old at (end - at) c.args.limit p.header_len p.kept c.bytes.ensures.value (record { header_len = e.header_len; kept = e.kept }) in
    let written : length p.written ≡ 20 = ap length e.written in
    omega (arith, written, plan.header_len)

pub replace_within-requires-clause-fits : goal.replace_within-requires-clause-fits
replace_within-requires-clause-fits c =
    let at : ℕ = c.args.at in let end : ℕ = c.args.end in let p = c.planned-plan.result in let e = c.planned-plan.ensures in let old : List ℕ = c.args.buf.now.bytes in let w : Walked = walked c.args.walk in
    let plan = planned-seen w c.bytes.result.now old at (end - at) c.args.limit p.header_len p.kept c.bytes.ensures.value (record { header_len = e.header_len; kept = e.kept }) in
    let size : length (part old at (end - at)) ≡ end - at = length-take-le (end - at) (drop at old) (omega (arith, c.requires.inside, length-drop at old)) in
    let within : at + p.header_len + p.kept ≤ end = kept-inside w (part old at (end - at)) c.args.limit p.header_len p.kept at end plan c.requires.quote c.requires.ordered size in
    let cut = cut-length old c.upper_at.new.bytes c.remove_within.new.buf.bytes (at + p.header_len + p.kept) end within c.requires.inside c.remove_within.ensures.bytes in
    let written : length p.written ≡ 20 = ap length e.written in
    omega (arith, cut, within, written, plan.header_len, c.requires.inside, c.bytes.ensures.most, ap length c.bytes.ensures.value)

pub returns-clause-bytes : goal.returns-clause-bytes
returns-clause-bytes c =
    let at : ℕ = c.args.at in let end : ℕ = c.args.end in let p = c.planned-plan.result in let e = c.planned-plan.ensures in let old : List ℕ = c.args.buf.now.bytes in let w : Walked = walked c.args.walk in
    let plan = planned-seen w c.bytes.result.now old at (end - at) c.args.limit p.header_len p.kept c.bytes.ensures.value (record { header_len = e.header_len; kept = e.kept }) in
    let s : ℕ = c.args.new.src.0 in let d : ℕ = c.args.new.dst.0 in
    quote-rewritten s d at end c.args.limit p.header_len p.kept c.args.tos_zero w old _ c.remove_within.new.buf.bytes c.replace_within.new.buf.bytes p.written
    c.requires.ordered c.requires.inside c.requires.quote c.requires.limit plan
    (e.written ∙ ap (λ (b : List ℕ). quote_head_to_4 s d c.args.tos_zero (quoted6_fields w (part b at (end - at)))) c.bytes.ensures.value)
    (moved-upper s d at end w old c.bytes_mut.result.now c.upper_at.new.bytes c.requires.ordered c.requires.inside c.bytes_mut.ensures.value c.requires.quote c.upper_at.ensures)
    c.remove_within.ensures.bytes c.replace_within.ensures.bytes

pub returns-clause-len : goal.returns-clause-len
returns-clause-len c =
    let at : ℕ = c.args.at in let end : ℕ = c.args.end in let p = c.planned-plan.result in let e = c.planned-plan.ensures in let old : List ℕ = c.args.buf.now.bytes in let w : Walked = walked c.args.walk in
    let plan = planned-seen w c.bytes.result.now old at (end - at) c.args.limit p.header_len p.kept c.bytes.ensures.value (record { header_len = e.header_len; kept = e.kept }) in
    quote-cut-length c.args.new.src.0 c.args.new.dst.0 c.args.limit p.header_len p.kept c.args.tos_zero w (part old at (end - at)) c.requires.quote plan c.requires.limit

pub returns-clause-front : goal.returns-clause-front
returns-clause-front c =
    let at : ℕ = c.args.at in let end : ℕ = c.args.end in let p = c.planned-plan.result in let e = c.planned-plan.ensures in let old : List ℕ = c.args.buf.now.bytes in let w : Walked = walked c.args.walk in
    let plan = planned-seen w c.bytes.result.now old at (end - at) c.args.limit p.header_len p.kept c.bytes.ensures.value (record { header_len = e.header_len; kept = e.kept }) in
    let written : length p.written ≡ 20 = ap length e.written in
    omega (arith, written, plan.header_len, c.remove_within.ensures.front, c.replace_within.ensures.front)

pub returns-clause-most : goal.returns-clause-most
returns-clause-most c =
    let at : ℕ = c.args.at in let end : ℕ = c.args.end in let p = c.planned-plan.result in let e = c.planned-plan.ensures in let old : List ℕ = c.args.buf.now.bytes in let w : Walked = walked c.args.walk in
    let plan = planned-seen w c.bytes.result.now old at (end - at) c.args.limit p.header_len p.kept c.bytes.ensures.value (record { header_len = e.header_len; kept = e.kept }) in
    let size : length (part old at (end - at)) ≡ end - at = length-take-le (end - at) (drop at old) (omega (arith, c.requires.inside, length-drop at old)) in
    let within : at + p.header_len + p.kept ≤ end = kept-inside w (part old at (end - at)) c.args.limit p.header_len p.kept at end plan c.requires.quote c.requires.ordered size in
    omega (arith, within, plan.header_len)

pub returns-clause-moved : goal.returns-clause-moved
returns-clause-moved c =
    let at : ℕ = c.args.at in let end : ℕ = c.args.end in let p = c.planned-plan.result in let e = c.planned-plan.ensures in let old : List ℕ = c.args.buf.now.bytes in let w : Walked = walked c.args.walk in
    let plan = planned-seen w c.bytes.result.now old at (end - at) c.args.limit p.header_len p.kept c.bytes.ensures.value (record { header_len = e.header_len; kept = e.kept }) in
    let size : length (part old at (end - at)) ≡ end - at = length-take-le (end - at) (drop at old) (omega (arith, c.requires.inside, length-drop at old)) in
    let within : at + p.header_len + p.kept ≤ end = kept-inside w (part old at (end - at)) c.args.limit p.header_len p.kept at end plan c.requires.quote c.requires.ordered size in
    let written : length p.written ≡ 20 = ap length e.written in
    let total = rewritten-length old c.upper_at.new.bytes in
    λ more.
    let gap = c.remove_within.ensures.moved (omega (arith, within, total, more)) in
    omega (arith, gap, written, within, plan.header_len, c.replace_within.ensures.front)
