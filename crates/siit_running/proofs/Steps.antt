-- One turn of a run, by the record that it carries.
use Rattle.std.proofs.Common.{◌≡◌, ℕ, suc, List, [], ◌∷◌, ◌++◌, length, take, Bool, true, false, Option, Some, None, refl, ap, ◌∙◌, append_assoc, if◌then◌else◌}
use Rattle.siit_capture.specs.Captures.{Records, ended, faulty, one_more}
use Rattle.siit_capture.specs.LinkPackets.{IpPacket}
use Rattle.siit_capture.specs.Records.{Record}
use Rattle.siit_capture.specs.declared.form.CaptureFault.{CaptureFault}
use Rattle.siit_chain.specs.Carried.{Chain, HasComing, Trace, behind, carry, carry_captured, entering_at, family_at, fresh, is_family, most_bytes}
use Rattle.siit_chain.specs.Log.{Entry}
use Rattle.siit_chain.specs.declared.origin.End.{End}
use Rattle.siit_chain.specs.declared.origin.End.TheVariants.{Left, Right}
use Rattle.siit_chain.specs.declared.origin.Origin.{Origin}
use Rattle.siit_chain.proofs.Traces.{carry_behind}
use Rattle.siit_carry.proofs.Ways.{as_behind}
use Rattle.siit_run.specs.Runs.{Course, Run, after, carry_left, carry_right, finish, going, is_earlier, stop, turn_at, turn_on}
use Rattle.siit_run.proofs.Turns.{after_suc}
use Rattle.siit_running.specs.Turns.{StopsAt, next_end}

module _ {D : Type 0} (chain : Chain D) where
  by_family : (b : Bool) (origin : Origin) (log : List Entry) (t u v : Trace) (bytes : List ℕ) → u ≡ behind log v → (if b then carry chain origin (behind log t) (entering_at (length chain.devices) origin.end (take most_bytes bytes)) else u) ≡ behind log (if b then carry chain origin t (entering_at (length chain.devices) origin.end (take most_bytes bytes)) else v)
  by_family true origin log t u v bytes h = carry_behind chain origin log t (entering_at (length chain.devices) origin.end (take most_bytes bytes))
  by_family false origin log t u v bytes h = h

  dropped_behind : (log : List Entry) (t : Trace) (entry : Entry) → record { log = (log ++ t.log) ++ entry ∷ []; coming = t.coming } ≡ behind log (record { log = t.log ++ entry ∷ []; coming = t.coming })
  dropped_behind log t entry = ap (λ (l : List Entry). record { log = l; coming = t.coming }) (append_assoc log t.log (entry ∷ []))

  -- What was written before stays in front, and changes nothing.
  captured_behind : (origin : Origin) (log : List Entry) (t : Trace) (packet : Option IpPacket) → carry_captured chain origin (behind log t) packet ≡ behind log (carry_captured chain origin t packet)
  captured_behind origin log t None = dropped_behind log t _
  captured_behind origin log t (Some packet) = by_family (is_family packet.family (family_at origin.end chain.left chain.right)) origin log t _ _ packet.bytes (dropped_behind log t _)

  -- all that comes of a record, behind what was written before
  pub captured_then : (origin : Origin) (t : Trace) (coming : ℕ → ℕ → ℕ) (packet : Option IpPacket) → HasComing coming t → carry_captured chain origin t packet ≡ behind t.log (carry_captured chain origin (fresh coming) packet)
  captured_then origin t coming packet h = ap (λ (x : Trace). carry_captured chain origin x packet) (as_behind t coming h) ∙ captured_behind origin t.log (fresh coming) packet

  pub turn_left : (l r : Records) (record_found : Record) (ends : ℕ) (later : Records) (run : Run) → l ≡ one_more record_found ends later → next_end l r ≡ Some Left → turn_at chain l r run ≡ carry_left chain record_found later run
  turn_left (faulty place fault) r record_found ends later run is next = cc
  turn_left ended r record_found ends later run is next = cc
  turn_left (one_more f e rest) (faulty place fault) record_found ends later run is next = cc
  turn_left (one_more f e rest) ended record_found ends later run is next =
      let same_record : f ≡ record_found = cc in
      let same_rest : rest ≡ later = cc in
      ap (λ x. carry_left chain x rest run) same_record ∙ ap (λ x. carry_left chain record_found x run) same_rest
  turn_left (one_more f e rest) (one_more g other_place other_rest) record_found ends later run is next =
      let same_record : f ≡ record_found = cc in
      let same_rest : rest ≡ later = cc in
      first (is_earlier g f) (carry_right chain g other_rest run) (carry_left chain f rest run) next
      ∙ ap (λ x. carry_left chain x rest run) same_record ∙ ap (λ x. carry_left chain record_found x run) same_rest
    where
      first : (b : Bool) (x y : Run) → Some (if b then Right else Left) ≡ Some Left → (if b then x else y) ≡ y
      first true x y h = cc
      first false x y h = refl

  pub turn_right : (l r : Records) (record_found : Record) (ends : ℕ) (later : Records) (run : Run) → r ≡ one_more record_found ends later → next_end l r ≡ Some Right → turn_at chain l r run ≡ carry_right chain record_found later run
  turn_right (faulty place fault) r record_found ends later run is next = cc
  turn_right ended (faulty place fault) record_found ends later run is next = cc
  turn_right (one_more f e rest) (faulty place fault) record_found ends later run is next = cc
  turn_right ended ended record_found ends later run is next = cc
  turn_right (one_more f e rest) ended record_found ends later run is next = cc
  turn_right ended (one_more g e rest) record_found ends later run is next =
      let same_record : g ≡ record_found = cc in
      let same_rest : rest ≡ later = cc in
      ap (λ x. carry_right chain x rest run) same_record ∙ ap (λ x. carry_right chain record_found x run) same_rest
  turn_right (one_more f e rest) (one_more g other_place other_rest) record_found ends later run is next =
      let same_record : g ≡ record_found = cc in
      let same_rest : other_rest ≡ later = cc in
      first (is_earlier g f) (carry_right chain g other_rest run) (carry_left chain f rest run) next
      ∙ ap (λ x. carry_right chain x other_rest run) same_record ∙ ap (λ x. carry_right chain record_found x run) same_rest
    where
      first : (b : Bool) (x y : Run) → Some (if b then Right else Left) ≡ Some Right → (if b then x else y) ≡ x
      first true x y h = refl
      first false x y h = cc

  pub turn_ends : (l r : Records) (run : Run) → l ≡ ended → r ≡ ended → turn_at chain l r run ≡ finish run
  turn_ends l r run le re = ap (λ x. turn_at chain x r run) le ∙ ap (λ x. turn_at chain ended x run) re

  pub turn_stops : (end : End) (place : ℕ) (fault : CaptureFault) (l r : Records) (run : Run) → StopsAt end place fault l r → turn_at chain l r run ≡ stop end place fault run
  turn_stops Left place fault l r run is = ap (λ x. turn_at chain x r run) is
  turn_stops Right place fault ended r run h = ap (λ x. turn_at chain ended x run) h.1
  turn_stops Right place fault (faulty p f) r run h = absurd h.0
  turn_stops Right place fault (one_more f e rest) r run h = ap (λ x. turn_at chain (one_more f e rest) x run) h.1

  -- the next turn of a run that goes on, by what is left of both captures
  pub next_turn : (n : ℕ) (start : Run) (l r : Records) → (after chain n start).course ≡ going → (after chain n start).left ≡ l → (after chain n start).right ≡ r → after chain (suc n) start ≡ turn_at chain l r (after chain n start)
  next_turn n start l r course left right =
      let run = after chain n start in
      after_suc chain n start
      ∙ ap (λ (c : Course). turn_on chain c run) course
      ∙ ap (λ x. turn_at chain x run.right run) left
      ∙ ap (λ x. turn_at chain l x run) right
