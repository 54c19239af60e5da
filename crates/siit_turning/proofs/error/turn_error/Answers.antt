use Rattle.std.proofs.Common.{◌≡◌, ℕ, ◌+◌, ◌-◌, ◌≤◌, List, ◌++◌, length, take, drop, IfSome, ◌∙◌, ap, sym, subst, length-drop}
use Rattle.siit_model.specs.Checksum.{pseudo6}
use Rattle.siit_upper.specs.Walks.{walked}
use Rattle.siit_views.proofs.Places.{rewritten-same}
use Rattle.siit_quoted.specs.Bodies.{NewBody}
use Rattle.siit_quoted.specs.Quoted.{HasQuote6}
use Rattle.siit_quoted.specs.Rewriting.{IsCarriedTurned, part_before, walked_body_turned}
use Rattle.siit_quoted.specs.Errors.{body_turned}
use Rattle.siit_quoted.specs.Sums.{IsDifference}
use Rattle.siit_turning.specs.Back.{head_turned}
use Rattle.siit_turning.proofs.Heads.{error-is, head-joined, kept-inside, kept-there, message-length, message-seen}
use Rattle.siit_turning.proofs.error.turn_error.Goals as goal

pub quote_turn_by-octet-requires-clause-extension : goal.quote_turn_by-octet-requires-clause-extension
quote_turn_by-octet-requires-clause-extension c =
    subst (λ (l : List ℕ). IfSome c.planned-plan.result.ext (λ place. IsCarriedTurned place l))
    (sym (kept-there c.args.at c.planned-plan.result.kept c.args.buf.now.bytes _ c.cut_end.new.self.bytes (message-seen c.args.at c.args.buf.now.bytes c.bytes-2.result.now c.bytes-2.ensures.value) c.cut_end.ensures.bytes)) c.planned-plan.ensures.carried

pub quote_turn_by-octet-requires-clause-quote : goal.quote_turn_by-octet-requires-clause-quote
quote_turn_by-octet-requires-clause-quote c =
    subst (λ (l : List ℕ). HasQuote6 (walked c.planned-plan.result.walk) (part_before c.planned-plan.result.ext l))
    (sym (kept-there c.args.at c.planned-plan.result.kept c.args.buf.now.bytes _ c.cut_end.new.self.bytes (message-seen c.args.at c.args.buf.now.bytes c.bytes-2.result.now c.bytes-2.ensures.value) c.cut_end.ensures.bytes)) c.planned-plan.ensures.quoted

pub returns-clause-bytes : goal.returns-clause-bytes
returns-clause-bytes c =
    let at : ℕ = c.args.at in
    let old : List ℕ = c.args.buf.now.bytes in
    let cut : List ℕ = c.cut_end.new.self.bytes in
    let between : List ℕ = c.quote_turn_by-octet.new.buf.bytes in
    let kept : ℕ = c.planned-plan.result.kept in
    let source : ℕ = c.args.quote.src.0 in
    let destination : ℕ = c.args.quote.dst.0 in
    let message : List ℕ = take (length c.bytes-2.result.now - at) (drop at c.bytes-2.result.now) in
    let seen : message ≡ drop at old = message-seen at old c.bytes-2.result.now c.bytes-2.ensures.value in
    let body : NewBody = walked_body_turned source destination (walked c.planned-plan.result.walk) c.planned-plan.result.ext (drop (at + 8) cut) in
    let there : at + 8 + kept ≤ length old = kept-inside at kept old message seen c.planned-plan.ensures.inside in
    let is_body : body ≡ body_turned source destination (drop at old) =
    ap (λ (l : List ℕ). walked_body_turned source destination (walked c.planned-plan.result.walk) c.planned-plan.result.ext l) (kept-there at kept old message cut seen c.cut_end.ensures.bytes)
    ∙ c.planned-plan.ensures.body ∙ ap (body_turned source destination) seen in
    let change : IsDifference (drop 8 (drop at old)) (body_turned source destination (drop at old)).bytes c.planned-plan.result.sums.gone c.planned-plan.result.sums.come =
    subst (λ (l : List ℕ). IsDifference (drop 8 l) (body_turned source destination l).bytes c.planned-plan.result.sums.gone c.planned-plan.result.sums.come) seen c.planned-plan.ensures.sums in
    let len : ℕ = length c.bytes-3.result.now - at in
    let is_len : len ≡ 8 + length body.bytes =
    message-length at kept len old cut between body.bytes there c.cut_end.ensures.bytes c.quote_turn_by-octet.ensures.bytes (ap (λ (l : List ℕ). length l - at) c.bytes-3.ensures.value) in
    let is_old : c.pseudo-old_sum.result ≡ pseudo6 c.args.old.src.0 c.args.old.dst.0 58 (length (drop at old)) =
    c.pseudo-old_sum.ensures.value ∙ ap (λ (n : ℕ). pseudo6 c.args.old.src.0 c.args.old.dst.0 58 n) (sym (length-drop at c.bytes.result.now) ∙ ap (λ (l : List ℕ). length (drop at l)) c.bytes.ensures.value) in
    let written : c.write_head_at.new.bytes ≡ take at between ++ head_turned c.quote_turn_by-octet.result c.sum_both-gone.result c.sum_both-come.result (drop at between) ++ drop (at + 8) between =
    c.write_head_at.ensures
    ∙ ap (λ (l : List ℕ). take at l ++ head_turned c.quote_turn_by-octet.result c.sum_both-gone.result c.sum_both-come.result (drop at l) ++ drop (at + 8) l) c.bytes_mut.ensures.value in
    rewritten-same between c.write_head_at.new.bytes (c.write_head_at.auto.bytes ∙ ap length c.bytes_mut.ensures.value)
    ∙ head-joined at c.quote_turn_by-octet.result c.sum_both-gone.result c.sum_both-come.result kept old cut between c.write_head_at.new.bytes body.bytes there
    c.cut_end.ensures.bytes c.quote_turn_by-octet.ensures.bytes written
    ∙ ap (λ l. take at old ++ l)
    (error-is c.args.old c.args.new c.args.quote (drop at old) c.quote_turn_by-octet.result c.pseudo-old_sum.result c.pseudo-new_sum.result c.planned-plan.result.sums.gone c.planned-plan.result.sums.come
    c.sum_both-gone.result c.sum_both-come.result len body c.requires.accepted.header is_body c.quote_turn_by-octet.ensures.octet is_len change is_old c.pseudo-new_sum.ensures.value
    c.sum_both-gone.ensures.value c.sum_both-come.ensures.value)
