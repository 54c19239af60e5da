-- A captured packet where it enters the chain.
use Rattle.std.proofs.Common.{◌≡◌, ℕ, List, [], ◌∷◌, length, take, min, Bool, true, false, Option, Some, None, Ok, Err, ap, sym, subst, arith, if◌then◌else◌}
use Rattle.std.proofs.lemmas.Grind.{common_steps}
use Rattle.siit_capture.specs.LinkPackets.{IpPacket, packet_as}
use Rattle.siit_rules.specs.declared.rule.Family.{Family}
use Rattle.siit_rules.specs.declared.rule.Rule.{Rule}
use Rattle.siit_rules.specs.declared.rule.Rule.TheVariants.{NotIp, OtherFamily}
use Rattle.siit_chain.specs.Carried.{Chain, Trace, carry, carry_captured, entering_at, family_at, fresh, is_family, most_bytes}
use Rattle.siit_chain.specs.Log.{drops}
use Rattle.siit_chain.specs.declared.origin.Origin.{Origin}
use Rattle.siit_carry.specs.Captured.{bytes_if, judged}

take_most : (bytes : List ℕ) (n most : ℕ) → n ≡ min (length bytes) most → take n bytes ≡ take most bytes
take_most bytes n most h = grind (arith, common_steps)

pub judged_some : (wanted family : Family) (bytes : List ℕ) (n : ℕ) → is_family family wanted ≡ true → n ≡ min (length bytes) 65575 → Ok (take n bytes) ≡ judged wanted (packet_as family bytes)
judged_some wanted family bytes n same h =
    let taken : bytes_if true bytes ≡ judged wanted (packet_as family bytes) = ap (λ (b : Bool). bytes_if b bytes) (sym same) in
    subst (λ (xs : List ℕ). Ok xs ≡ judged wanted (packet_as family bytes)) (sym (take_most bytes n 65575 h)) taken

module _ {D : Type 0} (chain : Chain D) (origin : Origin) (coming : ℕ → ℕ → ℕ) where
  carry_from : List ℕ → Trace
  carry_from bytes = carry chain origin (fresh coming) (entering_at (length chain.devices) origin.end bytes)

  drop_by : Rule → Trace
  drop_by rule = record { log = drops origin 0 rule false ∷ []; coming = coming }

  by_family : (b : Bool) (bytes seen : List ℕ) → Ok seen ≡ bytes_if b bytes → (if b then carry_from (take most_bytes bytes) else drop_by OtherFamily) ≡ carry_from seen
  by_family true bytes seen h = let e : seen ≡ take most_bytes bytes = cc in ap carry_from (sym e)
  by_family false bytes seen h = cc

  -- a packet that is carried
  pub captured_ok : (packet : Option IpPacket) (bytes : List ℕ) → Ok bytes ≡ judged (family_at origin.end chain.left chain.right) packet → carry_captured chain origin (fresh coming) packet ≡ carry chain origin (fresh coming) (entering_at (length chain.devices) origin.end bytes)
  unfolding carry_from drop_by
  captured_ok None bytes h = cc
  captured_ok (Some packet) bytes h = by_family (is_family packet.family (family_at origin.end chain.left chain.right)) packet.bytes bytes h

  by_other : (b : Bool) (bytes : List ℕ) (rule : Rule) → Err rule ≡ bytes_if b bytes → (if b then carry_from (take most_bytes bytes) else drop_by OtherFamily) ≡ drop_by rule
  by_other true bytes rule h = cc
  by_other false bytes rule h = let e : rule ≡ OtherFamily = cc in ap drop_by (sym e)

  -- a packet that a rule drops before any device
  pub captured_err : (packet : Option IpPacket) (rule : Rule) → Err rule ≡ judged (family_at origin.end chain.left chain.right) packet → carry_captured chain origin (fresh coming) packet ≡ record { log = drops origin 0 rule false ∷ []; coming = coming }
  unfolding carry_from drop_by
  captured_err None rule h = let e : rule ≡ NotIp = cc in ap drop_by (sym e)
  captured_err (Some packet) rule h = by_other (is_family packet.family (family_at origin.end chain.left chain.right)) packet.bytes rule h
