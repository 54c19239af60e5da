-- Packets that cross a chain of two devices without a drop, each device known by what it sends on.
use Rattle.std.proofs.Common.{◌≡◌, ◌⊎◌, inl, inr, ℕ, suc, ◌+◌, ◌≤◌, List, [], ◌∷◌, ◌++◌, length, map, All, flat_map, fold, zip, Bool, true, false, if◌then◌else◌, Option, Some, None, slice_get, refl, ap, sym, subst, ◌∙◌, arith, append_assoc}
use Rattle.std.proofs.lemmas.List.{append-nil, map-append}
use Rattle.std.proofs.lemmas.List.Elements.{All-nil, All-cons, All-head, All-tail}
use Rattle.std.proofs.lemmas.List.Sums.{sum_by-append}
use Rattle.siit_rules.specs.declared.rule.Rule.{Rule}
use Rattle.siit_chain.specs.Carried.{Chain, Event, Packet, Trace, after_event, back, behind, carry, entering_at, event, event_at, event_met, event_of, fresh, leaving, onward, other_end, place_met, used_up, user_if}
use Rattle.siit_chain.specs.Log.{Entry, drops, drops_in, is_drop, leaves}
use Rattle.siit_chain.specs.Outcome.{Falls, Outcome, dropped, turned, through, pieces}
use Rattle.siit_chain.specs.declared.origin.End.{End}
use Rattle.siit_chain.specs.declared.origin.End.TheVariants.{Left, Right}
use Rattle.siit_chain.specs.declared.origin.Origin.{Origin}
use Rattle.siit_chain.proofs.Traces.{carry_all_behind, carry_step}
use Rattle.siit_crossing.specs.Carrying.{IsComing, IsStillToCome}
use Rattle.siit_crossing.specs.Sent.{packets_sent}
use Rattle.siit_crossing.proofs.Own.{still-same, still-used}

-- A DEVICE ON THE WAY

abbrev pub IsDropped : Outcome → Type 0
IsDropped (dropped rule answer) = Unit {0}
IsDropped (turned packet) = ⊥
IsDropped (through used packet) = ⊥
IsDropped (pieces used packets) = ⊥

-- a packet that isn't dropped is sent on so, and is known to be so
pub record IsSentOn (outcome : Outcome) (packets : List (List ℕ)) (Clean : Type 0) : Type 0 where
  pub sent : packets_sent outcome ≡ Some packets
  pub clean : Clean

-- The device at a place drops what moves this way, or sends on what `out` gives; of packets that are good.
pub record Forwards {D : Type 0} (chain : Chain D) (place : ℕ) (to : End) (Good : List ℕ → Type 0) (Clean : List ℕ → ℕ → Type 0) (out : List ℕ → ℕ → List (List ℕ)) : Type 0 where
  pub device : D
  pub stands : slice_get chain.devices place ≡ Some device
  pub sends : (packet : List ℕ) (number : ℕ) → Good packet → IsDropped (chain.outcome device (other_end to) packet number)
      ⊎ IsSentOn (chain.outcome device (other_end to) packet number) (out packet number) (Clean packet number)

-- the places of the two devices, in the order in which a packet meets them
abbrev pub place_first : (to : End) → ℕ
place_first Right = 0
place_first Left = 1

abbrev pub place_second : (to : End) → ℕ
place_second Right = 1
place_second Left = 0

-- DROPS

pub drops_in-append : (first more : List Entry) → drops_in (first ++ more) ≡ drops_in first + drops_in more
drops_in-append first more = sum_by-append (λ e. if is_drop e then 1 else 0) first more

pub one_drop : (origin : Origin) (device : ℕ) (rule : Rule) (answered : Bool) → drops_in (drops origin device rule answered ∷ []) ≡ 1
one_drop origin device rule answered = refl

none_some : {A : Type 0} (x : A) → None ≡ Some x → ⊥
none_some x e = cc

-- LINKS

start_link : End → ℕ
start_link Right = 0
start_link Left = 2

end_link : End → ℕ
end_link Right = 2
end_link Left = 0

at_link : ℕ → End → List ℕ → Packet
at_link link to bytes = record { link = link; to = to; bytes = bytes }

from_start : (to : End) (bytes : List ℕ) → onward (start_link to) to bytes ≡ at_link 1 to bytes
unfolding start_link at_link
from_start Right bytes = refl
from_start Left bytes = refl

from_middle : (to : End) (bytes : List ℕ) → onward 1 to bytes ≡ at_link (end_link to) to bytes
unfolding end_link at_link
from_middle Right bytes = refl
from_middle Left bytes = refl

entering_is : (to : End) (bytes : List ℕ) → entering_at 2 (other_end to) bytes ≡ at_link (start_link to) to bytes
unfolding start_link at_link
entering_is Right bytes = refl
entering_is Left bytes = refl

leaves_there : (to : End) → place_met 2 (end_link to) to ≡ None
unfolding end_link
leaves_there Right = refl
leaves_there Left = refl

meets_first : (to : End) → place_met 2 (start_link to) to ≡ Some (place_first to)
unfolding start_link
meets_first Right = refl
meets_first Left = refl

meets_second : (to : End) → place_met 2 1 to ≡ Some (place_second to)
meets_second Right = refl
meets_second Left = refl

-- TRACES

-- a trace with more written
plus : Trace → List Entry → Trace
plus t log = record { log = t.log ++ log; coming = t.coming }

-- a log with more behind it
record Grows (old new : List Entry) : Type 0 where
  more : List Entry
  is : new ≡ old ++ more

grows_counts : (old new : List Entry) → Grows old new → drops_in old ≤ drops_in new
grows_counts old new h = omega (arith, ap drops_in h.is, drops_in-append old h.more)

maps_same : (f g : List ℕ → Packet) → ((b : List ℕ) → f b ≡ g b) → (packets : List (List ℕ)) → map f packets ≡ map g packets
maps_same f g same [] = refl
maps_same f g same (b ∷ packets) = λ i. same b i ∷ maps_same f g same packets i

-- what the packets of two devices are, one after the other, with a number for each packet between them
pub record Crosses (origin : Origin) (to : End) (coming : ℕ → ℕ → ℕ) (first second : List ℕ → ℕ → List (List ℕ)) (CleanFirst CleanSecond : List ℕ → ℕ → Type 0) (packet : List ℕ) (log : List Entry) : Type 0 where
  pub number : ℕ
  pub first_clean : CleanFirst packet number
  pub numbers : List ℕ
  pub as_many : length numbers ≡ length (first packet number)
  pub come : All (IsComing coming (place_second to + 1)) numbers
  pub second_clean : All (λ x. CleanSecond x.0 x.1) (zip (first packet number) numbers)
  pub written : log ≡ map (leaves origin to) (flat_map (λ x. second x.0 x.1) (zip (first packet number) numbers))

module _ {D : Type 0} (chain : Chain D) (falls : (device : D) (side : End) (bytes : List ℕ) (ident : ℕ) → Falls chain.measure bytes (chain.outcome device side bytes ident)) (origin : Origin) (to : End) (two : length chain.devices ≡ 2) where
  as_behind : (t : Trace) → t ≡ behind t.log (fresh t.coming)
  as_behind t = ap (λ (l : List Entry). record { log = l; coming = t.coming }) (sym (append-nil t.log))

  all_grows : (t : Trace) (ps : List Packet) → Grows t.log (fold (carry chain origin) t ps).log
  all_grows t ps = record {
    more = (fold (carry chain origin) (fresh t.coming) ps).log;
    is = ap (λ (x : Trace). (fold (carry chain origin) x ps).log) (as_behind t) ∙ ap (λ (x : Trace). x.log) (carry_all_behind chain origin t.log (fresh t.coming) ps);
  }

  -- the event of a packet that leaves, and of one that meets a device
  leaves_here : (coming : ℕ → ℕ → ℕ) (p : Packet) → place_met 2 p.link p.to ≡ None → event chain origin coming p ≡ leaving origin p
  unfolding event
  leaves_here coming p none = ap (event_met chain origin coming p) (ap (λ n. place_met n p.link p.to) two ∙ none)

  meets_here : (coming : ℕ → ℕ → ℕ) (p : Packet) (place : ℕ) (device : D) → place_met 2 p.link p.to ≡ Some place → slice_get chain.devices place ≡ Some device
      → event chain origin coming p ≡ event_of origin (place + 1) p (chain.outcome device (other_end p.to) p.bytes (coming (place + 1) 0))
  unfolding event
  meets_here coming p place device met stands = ap (event_met chain origin coming p) (ap (λ n. place_met n p.link p.to) two ∙ met) ∙ ap (event_at chain origin coming p place) stands

  far_step : (t : Trace) (bytes : List ℕ) → carry chain origin t (at_link (end_link to) to bytes) ≡ plus t (leaves origin to bytes ∷ [])
  unfolding at_link plus
  far_step t bytes =
      carry_step chain falls origin t (at_link (end_link to) to bytes)
      ∙ ap (λ (e : Event). fold (carry chain origin) (after_event t e) e.sent) (leaves_here t.coming (at_link (end_link to) to bytes) (leaves_there to))

  far_all : (t : Trace) (packets : List (List ℕ)) → fold (carry chain origin) t (map (at_link (end_link to) to) packets) ≡ plus t (map (leaves origin to) packets)
  unfolding plus
  far_all t [] = ap (λ (l : List Entry). record { log = l; coming = t.coming }) (sym (append-nil t.log))
  far_all t (packet ∷ packets) =
      ap (λ (x : Trace). fold (carry chain origin) x (map (at_link (end_link to) to) packets)) (far_step t packet)
      ∙ far_all (plus t (leaves origin to packet ∷ [])) packets
      ∙ ap (λ (l : List Entry). record { log = l; coming = t.coming }) (append_assoc t.log (leaves origin to packet ∷ []) (map (leaves origin to) packets))

  -- what a device that forwards makes of a packet without a drop
  record Passes (t : Trace) (sent : List Packet) (Clean : Type 0) (result : Trace) : Type 0 where
    user : Option ℕ
    is : result ≡ fold (carry chain origin) (record { log = t.log; coming = used_up user t.coming }) sent
    clean : Clean

  passes_by : (place link : ℕ) (bytes : List ℕ) (packets : List (List ℕ)) (Clean : Type 0) (t : Trace) (o : Outcome) (result : Trace) → IsDropped o ⊎ IsSentOn o packets Clean
      → result ≡ fold (carry chain origin) (after_event t (event_of origin (place + 1) (at_link link to bytes) o)) (event_of origin (place + 1) (at_link link to bytes) o).sent
      → drops_in result.log ≡ drops_in t.log → Passes t (map (onward link to) packets) Clean result
  unfolding at_link
  passes_by place link bytes packets Clean t (dropped rule None) result sends is clean =
      absurd (omega (arith, clean, ap (λ (x : Trace). drops_in x.log) is, drops_in-append t.log (drops origin (place + 1) rule false ∷ []), one_drop origin (place + 1) rule false))
  passes_by place link bytes packets Clean t (dropped rule (Some answer)) result sends is clean =
      let start : Trace = record { log = t.log ++ drops origin (place + 1) rule true ∷ []; coming = t.coming } in
      let more = grows_counts start.log result.log (subst (λ (x : Trace). Grows start.log x.log) (sym is) (all_grows start (back link to answer ∷ []))) in
      absurd (omega (arith, clean, more, drops_in-append t.log (drops origin (place + 1) rule true ∷ []), one_drop origin (place + 1) rule true))
  passes_by place link bytes packets Clean t (turned packet) result sends is clean = elim sends [ inl h ↦ absurd h | inr e ↦ absurd (none_some packets e.sent) ]
  passes_by place link bytes packets Clean t (through used packet) result sends is clean = elim sends [
    | inl h ↦ absurd h
    | inr e ↦
        let told : Some (packet ∷ []) ≡ Some packets = e.sent in
        let same : packet ∷ [] ≡ packets = cc in
        record {
          user = user_if used (place + 1);
          is = is ∙ ap (λ (l : List Entry). fold (carry chain origin) (record { log = l; coming = used_up (user_if used (place + 1)) t.coming }) (onward link to packet ∷ [])) (append-nil t.log)
              ∙ ap (λ (ps : List (List ℕ)). fold (carry chain origin) (record { log = t.log; coming = used_up (user_if used (place + 1)) t.coming }) (map (onward link to) ps)) same;
          clean = e.clean;
        }
  ]
  passes_by place link bytes packets Clean t (pieces used all) result sends is clean = elim sends [
    | inl h ↦ absurd h
    | inr e ↦
        let told : Some all ≡ Some packets = e.sent in
        let same : all ≡ packets = cc in
        record {
          user = user_if used (place + 1);
          is = is ∙ ap (λ (l : List Entry). fold (carry chain origin) (record { log = l; coming = used_up (user_if used (place + 1)) t.coming }) (map (onward link to) all)) (append-nil t.log)
              ∙ ap (λ (ps : List (List ℕ)). fold (carry chain origin) (record { log = t.log; coming = used_up (user_if used (place + 1)) t.coming }) (map (onward link to) ps)) same;
          clean = e.clean;
        }
  ]

  passes : (place link : ℕ) (Good : List ℕ → Type 0) (Clean : List ℕ → ℕ → Type 0) (out : List ℕ → ℕ → List (List ℕ)) → Forwards chain place to Good Clean out
      → place_met 2 link to ≡ Some place → (t : Trace) (bytes : List ℕ) → Good bytes → drops_in (carry chain origin t (at_link link to bytes)).log ≡ drops_in t.log
      → Passes t (map (onward link to) (out bytes (t.coming (place + 1) 0))) (Clean bytes (t.coming (place + 1) 0)) (carry chain origin t (at_link link to bytes))
  unfolding at_link
  passes place link Good Clean out forwards met t bytes good clean =
      let p = at_link link to bytes in
      let number = t.coming (place + 1) 0 in
      passes_by place link bytes (out bytes number) (Clean bytes number) t (chain.outcome forwards.device (other_end to) bytes number) (carry chain origin t p) (forwards.sends bytes number good)
      (carry_step chain falls origin t p ∙ ap (λ (e : Event). fold (carry chain origin) (after_event t e) e.sent) (meets_here t.coming p place forwards.device met forwards.stands))
      clean

  module _ (Good : List ℕ → Type 0) (Clean : List ℕ → ℕ → Type 0) (second : List ℕ → ℕ → List (List ℕ)) (forwards : Forwards chain (place_second to) to Good Clean second) (coming : ℕ → ℕ → ℕ) where
    -- one packet through the second device
    record Second (t : Trace) (bytes : List ℕ) (result : Trace) : Type 0 where
      log : result.log ≡ t.log ++ map (leaves origin to) (second bytes (t.coming (place_second to + 1) 0))
      still : IsStillToCome coming result.coming
      clean : Clean bytes (t.coming (place_second to + 1) 0)

    one_second : (t : Trace) (bytes : List ℕ) → Good bytes → IsStillToCome coming t.coming → drops_in (carry chain origin t (at_link 1 to bytes)).log ≡ drops_in t.log
        → Second t bytes (carry chain origin t (at_link 1 to bytes))
    unfolding plus
    one_second t bytes good still clean =
        let packets = second bytes (t.coming (place_second to + 1) 0) in
        let passed = passes (place_second to) 1 Good Clean second forwards (meets_second to) t bytes good clean in
        let start : Trace = record { log = t.log; coming = used_up passed.user t.coming } in
        let is : carry chain origin t (at_link 1 to bytes) ≡ plus start (map (leaves origin to) packets) =
        passed.is ∙ ap (fold (carry chain origin) start) (maps_same (onward 1 to) (at_link (end_link to) to) (from_middle to) packets) ∙ far_all start packets in
        record {
          log = ap (λ (x : Trace). x.log) is;
          still = subst (λ (x : Trace). IsStillToCome coming x.coming) (sym is) (still-used coming t.coming passed.user still);
          clean = passed.clean;
        }

    record Seconds (t : Trace) (packets : List (List ℕ)) (result : Trace) : Type 0 where
      numbers : List ℕ
      as_many : length numbers ≡ length packets
      come : All (IsComing coming (place_second to + 1)) numbers
      clean : All (λ x. Clean x.0 x.1) (zip packets numbers)
      log : result.log ≡ t.log ++ map (leaves origin to) (flat_map (λ x. second x.0 x.1) (zip packets numbers))

    all_second : (t : Trace) (packets : List (List ℕ)) → All Good packets → IsStillToCome coming t.coming
        → drops_in (fold (carry chain origin) t (map (at_link 1 to) packets)).log ≡ drops_in t.log → Seconds t packets (fold (carry chain origin) t (map (at_link 1 to) packets))
    all_second t [] good still clean = record {
      numbers = [];
      as_many = refl;
      come = All-nil (IsComing coming (place_second to + 1));
      clean = All-nil (λ (x : List ℕ × ℕ). Clean x.0 x.1);
      log = sym (append-nil t.log);
    }
    all_second t (packet ∷ packets) good still clean =
        let number = t.coming (place_second to + 1) 0 in
        let next = carry chain origin t (at_link 1 to packet) in
        let last = fold (carry chain origin) next (map (at_link 1 to) packets) in
        let here = grows_counts t.log next.log (all_grows t (at_link 1 to packet ∷ [])) in
        let there = grows_counts next.log last.log (all_grows next (map (at_link 1 to) packets)) in
        let step = one_second t packet (All-head Good packet packets good) still (omega (arith, clean, here, there)) in
        let rest = all_second next packets (All-tail Good packet packets good) step.still (omega (arith, clean, here, there)) in
        record {
          numbers = number ∷ rest.numbers;
          as_many = ap suc {x = length rest.numbers} rest.as_many;
          come = All-cons (IsComing coming (place_second to + 1)) number rest.numbers (still.gone (place_second to + 1) + 0, sym (still.is (place_second to + 1) 0)) rest.come;
          clean = All-cons (λ (x : List ℕ × ℕ). Clean x.0 x.1) (packet, number) (zip packets rest.numbers) step.clean rest.clean;
          log =
              rest.log ∙ ap (λ l. l ++ map (leaves origin to) (flat_map (λ x. second x.0 x.1) (zip packets rest.numbers))) {x = next.log} step.log
              ∙ append_assoc t.log (map (leaves origin to) (second packet number)) (map (leaves origin to) (flat_map (λ x. second x.0 x.1) (zip packets rest.numbers)))
              ∙ ap (λ l. t.log ++ l) (sym (map-append (leaves origin to) (second packet number) (flat_map (λ x. second x.0 x.1) (zip packets rest.numbers))));
        }

    pub crosses : (GoodFirst : List ℕ → Type 0) (CleanFirst : List ℕ → ℕ → Type 0) (first : List ℕ → ℕ → List (List ℕ)) (packet : List ℕ)
        → Forwards chain (place_first to) to GoodFirst CleanFirst first → GoodFirst packet → All Good (first packet (coming (place_first to + 1) 0))
        → drops_in (carry chain origin (fresh coming) (entering_at 2 (other_end to) packet)).log ≡ 0
        → Crosses origin to coming first second CleanFirst Clean packet (carry chain origin (fresh coming) (entering_at 2 (other_end to) packet)).log
    crosses GoodFirst CleanFirst first packet forwards_first good_first good silent =
        let start = at_link (start_link to) to packet in
        let number = coming (place_first to + 1) 0 in
        let between = first packet number in
        let enters : entering_at 2 (other_end to) packet ≡ start = entering_is to packet in
        let clean : drops_in (carry chain origin (fresh coming) start).log ≡ 0 = ap (λ (p : Packet). drops_in (carry chain origin (fresh coming) p).log) (sym enters) ∙ silent in
        let passed = passes (place_first to) (start_link to) GoodFirst CleanFirst first forwards_first (meets_first to) (fresh coming) packet good_first clean in
        let now : Trace = record { log = []; coming = used_up passed.user coming } in
        let is : carry chain origin (fresh coming) start ≡ fold (carry chain origin) now (map (at_link 1 to) between) =
        passed.is ∙ ap (fold (carry chain origin) now) (maps_same (onward (start_link to) to) (at_link 1 to) (from_start to) between) in
        let inner = all_second now between good (still-used coming coming passed.user (still-same coming)) (ap (λ (x : Trace). drops_in x.log) (sym is) ∙ clean) in
        record {
          number = number;
          first_clean = passed.clean;
          numbers = inner.numbers;
          as_many = inner.as_many;
          come = inner.come;
          second_clean = inner.clean;
          written = ap (λ (p : Packet). (carry chain origin (fresh coming) p).log) enters ∙ ap (λ (x : Trace). x.log) is ∙ inner.log;
        }
