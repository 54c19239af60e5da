use Rattle.std.proofs.Common.{◌≡◌, ◌+◌, ◌-◌, ◌≤◌, ◌++◌, List, ℕ, length, drop, take, ap, sym, subst, ◌∙◌, arith, length-drop}
use Rattle.std.proofs.lemmas.List.{take_rest}
use Rattle.std.specs.Prelude.{IfSome}
use Rattle.siit_model.specs.Checksum.{pseudo6}
use Rattle.siit_model.specs.Bytes.{field16}
use Rattle.siit_quoted.specs.Bodies.{NewBody}
use Rattle.siit_quoted.specs.Errors.{body_to_6}
use Rattle.siit_quoted.specs.Refusals.{quote_refusal4}
use Rattle.siit_quoted.specs.Rewriting.{IsCarriedTo6, new_body_to_6, part_before}
use Rattle.siit_quoted.specs.Sums.{IsDifference}
use Rattle.siit_quoted.proofs.Extended.{body6-most}
use Rattle.siit_device.specs.Forward.{rest_to_6}
use Rattle.siit_departure6.specs.Kept.{blanked}
use Rattle.siit_departure6.proofs.Messages.{IsRewritten, cut-off, message-is, message-short, rest-length, rest-told, rewritten-is}
use Rattle.siit_departure6.proofs.message.translate_message.Goals as goal

pub quote46-octet-requires-clause-extension : goal.quote46-octet-requires-clause-extension
quote46-octet-requires-clause-extension c =
    let kept = c.draft_of-draft.result.kept in
    let off = cut-off c.args.error.now.new.kind c.args.at c.bytes.result.now c.args.buf.now.bytes c.cut_end.new.self.bytes kept c.bytes.ensures.value
    c.draft_of-draft.ensures.kept c.cut_end.ensures.bytes (omega (arith, c.requires.inside)) in
    subst (λ b. IfSome kept.ext (λ place. IsCarriedTo6 place b)) (sym off.here) off.has.carried

pub quote46-octet-requires-clause-accepted : goal.quote46-octet-requires-clause-accepted
quote46-octet-requires-clause-accepted c =
    let kept = c.draft_of-draft.result.kept in
    let off = cut-off c.args.error.now.new.kind c.args.at c.bytes.result.now c.args.buf.now.bytes c.cut_end.new.self.bytes kept c.bytes.ensures.value
    c.draft_of-draft.ensures.kept c.cut_end.ensures.bytes (omega (arith, c.requires.inside)) in
    ap (λ b. quote_refusal4 (part_before kept.ext b)) off.here ∙ ap quote_refusal4 off.has.quote ∙ c.requires.error.accepted

pub quote46-octet-requires-clause-fits : goal.quote46-octet-requires-clause-fits
quote46-octet-requires-clause-fits c =
    let kept = c.draft_of-draft.result.kept in
    let off = cut-off c.args.error.now.new.kind c.args.at c.bytes.result.now c.args.buf.now.bytes c.cut_end.new.self.bytes kept c.bytes.ensures.value
    c.draft_of-draft.ensures.kept c.cut_end.ensures.bytes (omega (arith, c.requires.inside)) in
    let most = body6-most c.args.error.now.quote.src.0 c.args.error.now.quote.dst.0 c.args.settings.now.tos_zero kept.ext (drop (c.args.at + 8) c.cut_end.new.self.bytes) off.carried in
    within c.args.at (length _) c.requires.header most
  where
    within : (at n : ℕ) → at ≤ 60 → n ≤ 1232 → at + 8 + n ≤ 65575
    within at n low most = omega arith

pub returns-clause-bytes : goal.returns-clause-bytes
returns-clause-bytes c =
    let settings = c.args.settings.now in
    let error = c.args.error.now in
    let new = c.args.new in
    let at = c.args.at in
    let old : List ℕ = c.args.buf.now.bytes in
    let message : List ℕ = drop at old in
    let cut : List ℕ = c.cut_end.new.self.bytes in
    let draft = c.draft_of-draft.result in
    let off = cut-off error.new.kind at c.bytes.result.now old cut draft.kept c.bytes.ensures.value c.draft_of-draft.ensures.kept c.cut_end.ensures.bytes (omega (arith, c.requires.inside)) in
    let same : take (length c.bytes.result.now - at) (drop at c.bytes.result.now) ≡ message = take_rest c.bytes.result.now at ∙ ap (drop at) c.bytes.ensures.value in
    let body : NewBody = body_to_6 error.quote.src.0 error.quote.dst.0 settings.tos_zero error.new.kind message in
    let made : new_body_to_6 error.quote.src.0 error.quote.dst.0 settings.tos_zero draft.kept.ext (drop (at + 8) cut) ≡ body =
    ap (new_body_to_6 error.quote.src.0 error.quote.dst.0 settings.tos_zero draft.kept.ext) off.here ∙ off.has.body error.quote.src.0 error.quote.dst.0 settings.tos_zero in
    let rewritten : IsRewritten at c.quote46-octet.new.buf.bytes body.bytes =
    rewritten-is at cut c.quote46-octet.new.buf.bytes body.bytes off.inside (c.quote46-octet.ensures.bytes ∙ ap (λ (b : NewBody). take (at + 8) cut ++ b.bytes) made) in
    let octet : c.quote46-octet.result ≡ body.octet = c.quote46-octet.ensures.octet ∙ ap (λ (b : NewBody). b.octet) made in
    let told : draft.rest ≡ rest_to_6 settings error.new.rest 0 message = subst (λ m. draft.rest ≡ rest_to_6 settings error.new.rest 0 m) same c.draft_of-draft.ensures.rest in
    let rest : c.with_octet-rest.result ≡ rest_to_6 settings error.new.rest body.octet message =
    rest-told settings error.new.rest c.quote46-octet.result message draft.rest c.with_octet-rest.result told c.with_octet-rest.ensures.told c.with_octet-rest.ensures.other
    ∙ ap (λ n. rest_to_6 settings error.new.rest n message) octet in
    let there : 8 ≤ length message = omega (arith, length-drop at old, c.requires.inside) in
    let pseudo : c.pseudo_sum6-pseudo.result ≡ pseudo6 new.src.0 new.dst.0 58 (8 + length body.bytes) =
    c.pseudo_sum6-pseudo.ensures.value ∙ ap (λ b. pseudo6 new.src.0 new.dst.0 58 (length b - at)) c.bytes-2.ensures.value ∙ ap (pseudo6 new.src.0 new.dst.0 58) rewritten.size in
    message-is settings new error message c.with_octet-rest.result c.new_head-head.result c.replace_front.new.buf.bytes draft.sum c.pseudo_sum6-pseudo.result draft.sums.gone draft.sums.come
    (subst (λ m. draft.sum ≡ field16 m 2) same c.draft_of-draft.ensures.sum)
    (subst (λ m. IsDifference (blanked m) (body_to_6 error.quote.src.0 error.quote.dst.0 settings.tos_zero error.new.kind m).bytes draft.sums.gone draft.sums.come) same c.draft_of-draft.ensures.sums)
    pseudo rest (ap length rest ∙ rest-length settings error.new.rest body.octet message there)
    c.new_head-head.ensures
    (c.replace_front.ensures.bytes ∙ ap (λ l. c.new_head-head.result ++ l) rewritten.behind)

pub returns-clause-short : goal.returns-clause-short
returns-clause-short c =
    let settings = c.args.settings.now in
    let error = c.args.error.now in
    let at = c.args.at in
    let old : List ℕ = c.args.buf.now.bytes in
    let message : List ℕ = drop at old in
    let cut : List ℕ = c.cut_end.new.self.bytes in
    let kept = c.draft_of-draft.result.kept in
    let off = cut-off error.new.kind at c.bytes.result.now old cut kept c.bytes.ensures.value c.draft_of-draft.ensures.kept c.cut_end.ensures.bytes (omega (arith, c.requires.inside)) in
    let made = ap (new_body_to_6 error.quote.src.0 error.quote.dst.0 settings.tos_zero kept.ext) off.here ∙ off.has.body error.quote.src.0 error.quote.dst.0 settings.tos_zero in
    let there : 8 ≤ length message = omega (arith, length-drop at old, c.requires.inside) in
    let most = body6-most error.quote.src.0 error.quote.dst.0 settings.tos_zero kept.ext (drop (at + 8) cut) off.carried in
    subst (λ n. n ≤ 1240) (sym (ap length (returns-clause-bytes c)))
    (message-short settings c.args.new error message there (subst (λ (b : NewBody). length b.bytes ≤ 1232) made most))
