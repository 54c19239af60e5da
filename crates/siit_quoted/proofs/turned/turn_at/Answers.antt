use Rattle.std.proofs.Common.{◌≡◌, ℕ, ◌+◌, ◌-◌, List, ◌++◌, take, drop, ◌∙◌, ap, sym, arith, append_assoc}
use Rattle.std.proofs.lemmas.List.{drop-drop}
use Rattle.siit_quoted.proofs.turned.turn_at.Goals as goal

pub returns : goal.returns
returns c =
    let at : ℕ = c.args.at in
    let end : ℕ = c.args.end in
    let bytes : List ℕ = c.args.bytes.now in
    let sum : at + (end - at) ≡ end = omega arith in
    let rest : drop (end - at) (drop at bytes) ≡ drop end bytes = drop-drop (end - at) at bytes ∙ ap (λ n. drop n bytes) sum in
    ap (λ l. take at bytes ++ (c.turn_in.new.quote ++ l)) rest ∙ sym (append_assoc (take at bytes) c.turn_in.new.quote (drop end bytes))
    ∙ ap (λ l. take at bytes ++ l ++ drop end bytes) c.turn_in.ensures
