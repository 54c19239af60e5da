use Rattle.std.proofs.Common.{◌≡◌, ℕ, ◌+◌, ◌-◌, List, ◌++◌, take, drop, ◌∙◌, ap, sym, arith, append_assoc}
use Rattle.std.proofs.lemmas.List.{drop-drop}
use Rattle.siit_departure4.specs.Parts.{head_written}
use Rattle.siit_departure4.proofs.error.write_head_at.Goals as goal

pub returns : goal.returns
returns c =
    let at : ℕ = c.args.at in
    let bytes : List ℕ = c.args.bytes.now in
    let size : at + 8 - at ≡ 8 = omega arith in
    let rest : drop (at + 8 - at) (drop at bytes) ≡ drop (at + 8) bytes = drop-drop (at + 8 - at) at bytes ∙ ap (λ n. drop (at + n) bytes) size in
    ap (λ l. take at bytes ++ (c.write_head.new.head ++ l)) rest ∙ sym (append_assoc (take at bytes) c.write_head.new.head (drop (at + 8) bytes))
    ∙ ap (λ l. take at bytes ++ l ++ drop (at + 8) bytes)
    (c.write_head.ensures ∙ ap (λ n. head_written c.args.settings.now c.args.new c.args.octet c.args.sums (take n (drop at bytes))) size)
