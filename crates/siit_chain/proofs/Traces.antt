-- What is carried, event by event.
use Rattle.std.proofs.Common.{◌≡◌, ℕ, zero, suc, ◌+◌, ◌<◌, List, [], ◌∷◌, length, Option, Some, None, refl, ap, sym, subst, ◌∙◌, arith, append_assoc}
use Rattle.std.specs.Prelude.{map, slice_get}
use Rattle.std.specs.List.{fold, AllByRecursion}
use Rattle.siit_chain.specs.Outcome.{Outcome, dropped, turned, through, pieces, Falls}
use Rattle.siit_chain.specs.Log.{Entry}
use Rattle.siit_chain.specs.Carried.{Chain, Packet, Trace, after_event, behind, carried, carry, event, event_at, event_met, event_of, place_met, onward, other_end, used_up}
use Rattle.siit_chain.specs.declared.origin.End.{End}
use Rattle.siit_chain.specs.declared.origin.End.TheVariants.{Left, Right}
use Rattle.siit_chain.specs.declared.origin.Origin.{Origin}

-- Folds by two functions that agree on the items are one.
pub fold_same : {T P : Type 0} (f g : T → P → T) (Q : P → Type 0) (ps : List P) (t : T) → AllByRecursion Q ps → ((t : T) (p : P) → Q p → f t p ≡ g t p) → fold f t ps ≡ fold g t ps
fold_same f g Q [] t all same = refl
fold_same f g Q (p ∷ ps) t all same = ap (λ x. fold f x ps) (same t p all.0) ∙ fold_same f g Q ps (g t p) all.1 same

-- a change of what was before that each step passes on
pub fold_moved : {T P : Type 0} (f : T → P → T) (m : T → T) (ps : List P) (t : T) → ((t : T) (p : P) → f (m t) p ≡ m (f t p)) → fold f (m t) ps ≡ m (fold f t ps)
fold_moved f m [] t same = refl
fold_moved f m (p ∷ ps) t same = ap (λ x. fold f x ps) (same t p) ∙ fold_moved f m ps (f t p) same

onward_bytes : (link : ℕ) (to : End) (bytes : List ℕ) → (onward link to bytes).bytes ≡ bytes
onward_bytes link Left bytes = refl
onward_bytes link Right bytes = refl

-- a packet may live less long than this
abbrev pub LivesLess : {D : Type 0} → Chain D → ℕ → Packet → Type 0
LivesLess chain bound q = chain.measure q.bytes < bound

module _ {D : Type 0} (chain : Chain D) (falls : (device : D) (side : End) (bytes : List ℕ) (ident : ℕ) → Falls chain.measure bytes (chain.outcome device side bytes ident)) (origin : Origin) where
  pieces_fall : (link bound : ℕ) (to : End) (packets : List (List ℕ)) → AllByRecursion (λ b. chain.measure b < bound) packets → AllByRecursion (LivesLess chain bound) (map (onward link to) packets)
  pieces_fall link bound to [] h = tt
  pieces_fall link bound to (b ∷ packets) h = (subst (λ x. chain.measure x < bound) (sym (onward_bytes link to b)) h.0, pieces_fall link bound to packets h.1)

  event_of_falls : (device : ℕ) (p : Packet) (o : Outcome) → Falls chain.measure p.bytes o → AllByRecursion (LivesLess chain (chain.measure p.bytes)) (event_of origin device p o).sent
  event_of_falls device p (dropped rule None) h = tt
  event_of_falls device p (dropped rule (Some answer)) h = (h, tt)
  event_of_falls device p (turned packet) h = (h, tt)
  event_of_falls device p (through used packet) h = (subst (λ x. chain.measure x < chain.measure p.bytes) (sym (onward_bytes p.link p.to packet)) h, tt)
  event_of_falls device p (pieces used packets) h = pieces_fall p.link (chain.measure p.bytes) p.to packets h

  event_at_falls : (coming : ℕ → ℕ → ℕ) (p : Packet) (place : ℕ) (o : Option D) → AllByRecursion (LivesLess chain (chain.measure p.bytes)) (event_at chain origin coming p place o).sent
  event_at_falls coming p place None = tt
  event_at_falls coming p place (Some device) = event_of_falls (place + 1) p (chain.outcome device (other_end p.to) p.bytes (coming (place + 1) 0)) (falls device (other_end p.to) p.bytes (coming (place + 1) 0))

  event_met_falls : (coming : ℕ → ℕ → ℕ) (p : Packet) (o : Option ℕ) → AllByRecursion (LivesLess chain (chain.measure p.bytes)) (event_met chain origin coming p o).sent
  event_met_falls coming p None = tt
  event_met_falls coming p (Some place) = event_at_falls coming p place (slice_get chain.devices place)

  -- what is sent may live less long
  pub event_falls : (coming : ℕ → ℕ → ℕ) (p : Packet) → AllByRecursion (LivesLess chain (chain.measure p.bytes)) (event chain origin coming p).sent
  unfolding event
  event_falls coming p = event_met_falls coming p (place_met (length chain.devices) p.link p.to)

  -- more turns than the measure change nothing
  same_turns : (n m : ℕ) (t : Trace) (p : Packet) → chain.measure p.bytes < n → chain.measure p.bytes < m → carried chain origin n t p ≡ carried chain origin m t p
  unfolding carried
  same_turns zero m t p h k = absurd (omega arith)
  same_turns (suc n) zero t p h k = absurd (omega arith)
  same_turns (suc n) (suc m) t p h k =
      fold_same (carried chain origin n) (carried chain origin m) (LivesLess chain (chain.measure p.bytes)) (event chain origin t.coming p).sent (after_event t (event chain origin t.coming p)) (event_falls t.coming p)
      (λ u q less. same_turns n m u q (omega arith) (omega arith))

  pub enough_turns_lem : (turns : ℕ) (t : Trace) (p : Packet) → chain.measure p.bytes < turns → carried chain origin turns t p ≡ carry chain origin t p
  unfolding carry
  enough_turns_lem turns t p h = same_turns turns (suc (chain.measure p.bytes)) t p h (omega arith)

  -- a packet is carried by one event, and then by carrying what it sent
  pub carry_step : (t : Trace) (p : Packet) → carry chain origin t p ≡ fold (carry chain origin) (after_event t (event chain origin t.coming p)) (event chain origin t.coming p).sent
  unfolding carried carry
  carry_step t p =
      fold_same (carried chain origin (chain.measure p.bytes)) (carry chain origin) (LivesLess chain (chain.measure p.bytes)) (event chain origin t.coming p).sent (after_event t (event chain origin t.coming p)) (event_falls t.coming p)
      (λ u q less. same_turns (chain.measure p.bytes) (suc (chain.measure q.bytes)) u q less (omega arith))

module _ {D : Type 0} (chain : Chain D) (origin : Origin) (log : List Entry) where
  carried_behind : (n : ℕ) (t : Trace) (p : Packet) → carried chain origin n (behind log t) p ≡ behind log (carried chain origin n t p)
  unfolding carried
  carried_behind zero t p = refl
  carried_behind (suc n) t p =
      ap (λ (w : List Entry). fold (carried chain origin n) (record { log = w; coming = used_up (event chain origin t.coming p).user t.coming }) (event chain origin t.coming p).sent) (append_assoc log t.log (event chain origin t.coming p).log)
      ∙ fold_moved (carried chain origin n) (behind log) (event chain origin t.coming p).sent (after_event t (event chain origin t.coming p)) (carried_behind n)

  -- What was written before stays in front, and changes nothing.
  pub carry_behind : (t : Trace) (p : Packet) → carry chain origin (behind log t) p ≡ behind log (carry chain origin t p)
  unfolding carry
  carry_behind t p = carried_behind (suc (chain.measure p.bytes)) t p

  pub carry_all_behind : (t : Trace) (ps : List Packet) → fold (carry chain origin) (behind log t) ps ≡ behind log (fold (carry chain origin) t ps)
  carry_all_behind t ps = fold_moved (carry chain origin) (behind log) ps t carry_behind
