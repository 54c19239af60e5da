use Rattle.std.proofs.Common.{◌≡◌, ℕ, ◌+◌, ◌-◌, ◌≤◌, List, length, drop, ◌∙◌, ap, arith, length-drop}
use Rattle.std.proofs.lemmas.List.{length-take, length-take-le}
use Rattle.siit_model.specs.Bytes.{part}
use Rattle.siit_quoted.specs.Quoted.{quoted4_fields}
use Rattle.siit_quoted.specs.Rewriting.{quote_head_to_6}
use Rattle.siit_quoted.proofs.Quotes46.{cut-length, kept-inside, moved-upper, planned-seen, quote-cut-length, quote-cut-most, quote-rewritten, rewritten-length}
use Rattle.siit_quoted.proofs.to_ipv6.rewrite46.Goals as goal

pub overflow_sub-end : goal.overflow_sub-end
overflow_sub-end c =
    let at : ℕ = c.args.at in let end : ℕ = c.args.end in let p = c.planned-plan.result in let e = c.planned-plan.ensures in let old : List ℕ = c.args.buf.now.bytes in
    let plan = planned-seen c.bytes.result.now old at (end - at) c.args.limit p.header_len p.kept p.new_len c.bytes.ensures.value
    (record { header_len = e.header_len; new_len = e.new_len; most = e.most; kept = e.kept }) in
    let size : length (part old at (end - at)) ≡ end - at = length-take-le (end - at) (drop at old) (omega (arith, c.requires.inside, length-drop at old)) in
    let within : at + p.header_len + p.kept ≤ end = kept-inside (part old at (end - at)) c.args.limit p.header_len p.kept p.new_len at end plan c.requires.quote c.requires.ordered size in
    within

pub remove_within-requires : goal.remove_within-requires
remove_within-requires c =
    let at : ℕ = c.args.at in let end : ℕ = c.args.end in let p = c.planned-plan.result in let e = c.planned-plan.ensures in let old : List ℕ = c.args.buf.now.bytes in
    let plan = planned-seen c.bytes.result.now old at (end - at) c.args.limit p.header_len p.kept p.new_len c.bytes.ensures.value
    (record { header_len = e.header_len; new_len = e.new_len; most = e.most; kept = e.kept }) in
    let size : length (part old at (end - at)) ≡ end - at = length-take-le (end - at) (drop at old) (omega (arith, c.requires.inside, length-drop at old)) in
    let within : at + p.header_len + p.kept ≤ end = kept-inside (part old at (end - at)) c.args.limit p.header_len p.kept p.new_len at end plan c.requires.quote c.requires.ordered size in
    omega (arith, within, rewritten-length old c.upper_at.new.bytes, c.requires.inside)

pub replace_within-requires-clause-inside : goal.replace_within-requires-clause-inside
replace_within-requires-clause-inside c =
    let at : ℕ = c.args.at in let end : ℕ = c.args.end in let p = c.planned-plan.result in let e = c.planned-plan.ensures in let old : List ℕ = c.args.buf.now.bytes in
    let plan = planned-seen c.bytes.result.now old at (end - at) c.args.limit p.header_len p.kept p.new_len c.bytes.ensures.value
    (record { header_len = e.header_len; new_len = e.new_len; most = e.most; kept = e.kept }) in
    let size : length (part old at (end - at)) ≡ end - at = length-take-le (end - at) (drop at old) (omega (arith, c.requires.inside, length-drop at old)) in
    let within : at + p.header_len + p.kept ≤ end = kept-inside (part old at (end - at)) c.args.limit p.header_len p.kept p.new_len at end plan c.requires.quote c.requires.ordered size in
    let cut = cut-length old c.upper_at.new.bytes c.remove_within.new.buf.bytes (at + p.header_len + p.kept) end within c.requires.inside c.remove_within.ensures.bytes in
    omega (arith, cut, within, c.requires.inside)

pub replace_within-requires-clause-room : goal.replace_within-requires-clause-room
replace_within-requires-clause-room c =
    let at : ℕ = c.args.at in let end : ℕ = c.args.end in let p = c.planned-plan.result in let e = c.planned-plan.ensures in let old : List ℕ = c.args.buf.now.bytes in
    let plan = planned-seen c.bytes.result.now old at (end - at) c.args.limit p.header_len p.kept p.new_len c.bytes.ensures.value
    (record { header_len = e.header_len; new_len = e.new_len; most = e.most; kept = e.kept }) in
    let written = length-take p.new_len p.written in
    omega (arith, written, plan.header_len, plan.most, c.requires.quote.least, c.requires.room, c.remove_within.ensures.front)

pub replace_within-requires-clause-fits : goal.replace_within-requires-clause-fits
replace_within-requires-clause-fits c =
    let at : ℕ = c.args.at in let end : ℕ = c.args.end in let p = c.planned-plan.result in let e = c.planned-plan.ensures in let old : List ℕ = c.args.buf.now.bytes in
    let plan = planned-seen c.bytes.result.now old at (end - at) c.args.limit p.header_len p.kept p.new_len c.bytes.ensures.value
    (record { header_len = e.header_len; new_len = e.new_len; most = e.most; kept = e.kept }) in
    let size : length (part old at (end - at)) ≡ end - at = length-take-le (end - at) (drop at old) (omega (arith, c.requires.inside, length-drop at old)) in
    let within : at + p.header_len + p.kept ≤ end = kept-inside (part old at (end - at)) c.args.limit p.header_len p.kept p.new_len at end plan c.requires.quote c.requires.ordered size in
    let cut = cut-length old c.upper_at.new.bytes c.remove_within.new.buf.bytes (at + p.header_len + p.kept) end within c.requires.inside c.remove_within.ensures.bytes in
    let written = length-take p.new_len p.written in
    let new = quote-cut-length c.args.new.src.0 c.args.new.dst.0 c.args.limit p.header_len p.kept p.new_len c.args.tos_zero (part old at (end - at)) plan c.requires.limit in
    omega (arith, cut, within, written, new, c.requires.inside, c.requires.fits)

pub returns-clause-bytes : goal.returns-clause-bytes
returns-clause-bytes c =
    let at : ℕ = c.args.at in let end : ℕ = c.args.end in let p = c.planned-plan.result in let e = c.planned-plan.ensures in let old : List ℕ = c.args.buf.now.bytes in
    let plan = planned-seen c.bytes.result.now old at (end - at) c.args.limit p.header_len p.kept p.new_len c.bytes.ensures.value
    (record { header_len = e.header_len; new_len = e.new_len; most = e.most; kept = e.kept }) in
    let s : ℕ = c.args.new.src.0 in let d : ℕ = c.args.new.dst.0 in
    quote-rewritten s d at end c.args.limit p.header_len p.kept p.new_len c.args.tos_zero old _ c.remove_within.new.buf.bytes c.replace_within.new.buf.bytes p.written
    c.requires.ordered c.requires.inside c.requires.quote c.requires.limit plan
    (e.written ∙ ap (λ (b : List ℕ). quote_head_to_6 s d c.args.tos_zero (quoted4_fields (part b at (end - at)))) c.bytes.ensures.value)
    (moved-upper s d at end old c.bytes_mut.result.now c.upper_at.new.bytes c.requires.ordered c.requires.inside c.bytes_mut.ensures.value c.requires.quote c.upper_at.ensures)
    c.remove_within.ensures.bytes c.replace_within.ensures.bytes

pub returns-clause-len : goal.returns-clause-len
returns-clause-len c =
    let at : ℕ = c.args.at in let end : ℕ = c.args.end in let p = c.planned-plan.result in let e = c.planned-plan.ensures in let old : List ℕ = c.args.buf.now.bytes in
    let plan = planned-seen c.bytes.result.now old at (end - at) c.args.limit p.header_len p.kept p.new_len c.bytes.ensures.value
    (record { header_len = e.header_len; new_len = e.new_len; most = e.most; kept = e.kept }) in
    quote-cut-length c.args.new.src.0 c.args.new.dst.0 c.args.limit p.header_len p.kept p.new_len c.args.tos_zero (part old at (end - at)) plan c.requires.limit

pub returns-clause-front : goal.returns-clause-front
returns-clause-front c =
    let at : ℕ = c.args.at in let end : ℕ = c.args.end in let p = c.planned-plan.result in let e = c.planned-plan.ensures in let old : List ℕ = c.args.buf.now.bytes in
    let plan = planned-seen c.bytes.result.now old at (end - at) c.args.limit p.header_len p.kept p.new_len c.bytes.ensures.value
    (record { header_len = e.header_len; new_len = e.new_len; most = e.most; kept = e.kept }) in
    let written = length-take p.new_len p.written in
    omega (arith, written, plan.header_len, plan.most, c.requires.quote.least, c.remove_within.ensures.front, c.replace_within.ensures.front)

pub returns-clause-most : goal.returns-clause-most
returns-clause-most c =
    let at : ℕ = c.args.at in let end : ℕ = c.args.end in let p = c.planned-plan.result in let e = c.planned-plan.ensures in let old : List ℕ = c.args.buf.now.bytes in
    let plan = planned-seen c.bytes.result.now old at (end - at) c.args.limit p.header_len p.kept p.new_len c.bytes.ensures.value
    (record { header_len = e.header_len; new_len = e.new_len; most = e.most; kept = e.kept }) in
    let size : length (part old at (end - at)) ≡ end - at = length-take-le (end - at) (drop at old) (omega (arith, c.requires.inside, length-drop at old)) in
    quote-cut-most (part old at (end - at)) c.args.limit p.header_len p.kept p.new_len at end plan c.requires.quote size

pub returns-clause-moved : goal.returns-clause-moved
returns-clause-moved c =
    let at : ℕ = c.args.at in let end : ℕ = c.args.end in let p = c.planned-plan.result in let e = c.planned-plan.ensures in let old : List ℕ = c.args.buf.now.bytes in
    let plan = planned-seen c.bytes.result.now old at (end - at) c.args.limit p.header_len p.kept p.new_len c.bytes.ensures.value
    (record { header_len = e.header_len; new_len = e.new_len; most = e.most; kept = e.kept }) in
    let size : length (part old at (end - at)) ≡ end - at = length-take-le (end - at) (drop at old) (omega (arith, c.requires.inside, length-drop at old)) in
    let within : at + p.header_len + p.kept ≤ end = kept-inside (part old at (end - at)) c.args.limit p.header_len p.kept p.new_len at end plan c.requires.quote c.requires.ordered size in
    let written = length-take p.new_len p.written in
    let total = rewritten-length old c.upper_at.new.bytes in
    λ more.
    let gap = c.remove_within.ensures.moved (omega (arith, within, total, more)) in
    omega (arith, gap, written, within, plan.most, plan.header_len, c.replace_within.ensures.front)
