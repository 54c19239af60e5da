-- A chain and a piece that a turn leaves as they are.
use Rattle.std.proofs.Common.{◌≡◌, ℕ, List, refl, ap, ◌∙◌, vec_len}
use Rattle.std.specs.Global.{Vec}
use Rattle.siit_rules.specs.declared.rule.Family.{Family}
use Rattle.siit_chain.specs.Carried.{chain_of}
use Rattle.siit_chain.specs.Outcome.{Outcome}
use Rattle.siit_chain.specs.declared.origin.End.{End}
use Rattle.siit_chain.specs.declared.origin.End.TheVariants.{Left, Right}
use Rattle.siit_carry.specs.declared.chain.Chain as chains
use Rattle.siit_running.specs.Ends.{carried_at}
use Rattle.siit_running.specs.declared.captures.Captures.{Captures}

pub same_chain : {D : Type 0} (outcome : D → End → List ℕ → ℕ → Outcome) (measure : List ℕ → ℕ) (a b : chains.Chain D) → a.devices ≡ b.devices → a.left ≡ b.left → a.right ≡ b.right → chain_of outcome measure a.devices.items a.left a.right ≡ chain_of outcome measure b.devices.items b.left b.right
same_chain {D} outcome measure a b devices left right =
    ap (λ (v : Vec D). chain_of outcome measure v.items a.left a.right) devices
    ∙ ap (λ (f : Family). chain_of outcome measure b.devices.items f a.right) left
    ∙ ap (λ (f : Family). chain_of outcome measure b.devices.items b.left f) right

pub same_piece : (end : End) (number : ℕ) (captures : Captures) → vec_len (carried_at end number captures).piece ≡ vec_len captures.piece
same_piece Left number captures = refl
same_piece Right number captures = refl
