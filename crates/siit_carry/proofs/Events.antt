-- One event, as the code meets it.
use Rattle.std.proofs.Common.{◌≡◌, ℕ, zero, suc, ◌+◌, ◌≤◌, ◌<◌, List, [], ◌∷◌, length, Bool, true, false, Option, Some, None, refl, ap, sym, subst, ◌∙◌, arith, if◌then◌else◌}
use Rattle.std.specs.Prelude.{map, nat_lt, slice_get}
use Rattle.std.proofs.lemmas.Bool.Decides.{nat_tests}
use Rattle.siit_rules.specs.declared.rule.Rule.{Rule}
use Rattle.siit_chain.specs.Carried.{Chain, Packet, back, event, event_at, event_met, event_of, leaving, onward, other_end, place_met, user_if}
use Rattle.siit_chain.specs.Counted.{added, raised_by}
use Rattle.siit_chain.specs.Log.{drops, text_of}
use Rattle.siit_chain.specs.Outcome.{Outcome, dropped, pieces, through, turned}
use Rattle.siit_chain.specs.Outputs.{GrewBy}
use Rattle.siit_chain.specs.Verdicts.{IsCutInto}
use Rattle.siit_chain.specs.declared.origin.Counts.{Counts}
use Rattle.siit_chain.specs.declared.origin.End.{End}
use Rattle.siit_chain.specs.declared.origin.End.TheVariants.{Left, Right}
use Rattle.siit_chain.specs.declared.origin.Origin.{Origin}
use Rattle.siit_chain.specs.declared.origin.Output.{Output}
use Rattle.siit_chain.proofs.Grown.{log_none}
use Rattle.siit_fragments.specs.declared.cut.CutPlan.{CutPlan}
use Rattle.siit_word.specs.Files.{FilesMeaning}
use Rattle.siit_carry.specs.Happenings.{Happens}
use Rattle.siit_carry.specs.Steps.{IsUsed, packet_at}
use Rattle.siit_carry.specs.declared.meet.Next.TheVariants.{Ended, Moves, Cut}
use Rattle.siit_carry.specs.declared.place.Place.{Place}

module _ {D : Type 0} (chain : Chain D) (origin : Origin) (coming : ℕ → ℕ → ℕ) (p : Packet) where
  -- the event at the device that the packet meets
  pub event_here : (place ident : ℕ) (side : End) (device : D) (bytes : List ℕ) (o : Outcome) → place_met (length chain.devices) p.link p.to ≡ Some place → slice_get chain.devices place ≡ Some device → side ≡ other_end p.to → bytes ≡ p.bytes → ident ≡ coming (place + 1) 0 → chain.outcome device side bytes ident ≡ o → event chain origin coming p ≡ event_of origin (place + 1) p o
  unfolding event
  event_here place ident side device bytes o m d s b i is =
      let same : o ≡ chain.outcome device (other_end p.to) p.bytes (coming (place + 1) 0) =
      sym is ∙ ap (λ x. chain.outcome device x bytes ident) s ∙ ap (λ x. chain.outcome device (other_end p.to) x ident) b ∙ ap (λ x. chain.outcome device (other_end p.to) p.bytes x) i in
      ap (event_met chain origin coming p) m ∙ ap (event_at chain origin coming p place) d ∙ ap (event_of origin (place + 1) p) (sym same)

  -- the event of a packet that leaves the chain
  pub event_leaves : place_met (length chain.devices) p.link p.to ≡ None → event chain origin coming p ≡ leaving origin p
  unfolding event
  event_leaves m = ap (event_met chain origin coming p) m

below : (link count : ℕ) → nat_lt link count ≡ true → link + 1 ≤ count
below link count h = grind (arith, nat_tests)

right_within : (b : Bool) (link count place : ℕ) → b ≡ nat_lt link count → (if b then Some link else None) ≡ Some place → link + 1 ≤ count
right_within true link count place is h = below link count (sym is)
right_within false link count place is h = cc

pub onward_within : (count link place : ℕ) (to : End) (bytes : List ℕ) → place_met count link to ≡ Some place → link ≤ count → (onward link to bytes).link ≤ count
onward_within count link place Right bytes m le = right_within (nat_lt link count) link count place refl m
onward_within count link place Left bytes m le = omega arith

pub place_within : (count link place : ℕ) (to : End) → place_met count link to ≡ Some place → link ≤ count → place < count
place_within count link place Right m le = right_place (nat_lt link count) link count place refl m
  where
    right_place : (b : Bool) (link count place : ℕ) → b ≡ nat_lt link count → (if b then Some link else None) ≡ Some place → place < count
    right_place true link count place is h = let e : link ≡ place = cc in omega (arith, below link count (sym is))
    right_place false link count place is h = cc
place_within count zero place Left m le = cc
place_within count (suc link) place Left m le = let e : link ≡ place = cc in omega arith

raised_none : (n : ℕ) → n ≡ raised_by n 0
raised_none n = omega arith

pub added_none : (counts : Counts) → counts ≡ added counts []
added_none counts = λ i. record { left = raised_none counts.left i; right = raised_none counts.right i; dropped = raised_none counts.dropped i }

module _ (names : Output → Option (List ℕ)) (before after : FilesMeaning) (coming_old coming_new : ℕ → ℕ → ℕ) (counts_old counts_new : Counts) (devices : ℕ) (origin : Origin) (device : ℕ) (at next : Place) (arrived held : List ℕ) where
  nobody : IsUsed None coming_old coming_old
  nobody = record { each = λ d k. refl }

  next_link : (q : Packet) → packet_at next held ≡ q → q.link ≤ devices → next.link ≤ devices
  next_link q is le = subst (λ (x : Packet). x.link ≤ devices) (sym is) le

  pub happens_through : (used : Bool) → ((b : List ℕ) → packet_at next b ≡ onward at.link at.to b) → (onward at.link at.to held).link ≤ devices → IsUsed (user_if used device) coming_old coming_new → Happens names before before coming_old coming_new counts_old counts_old devices (Moves next) held (event_of origin device (packet_at at arrived) (through used held))
  happens_through used is le u = record {
    sends = (next_link (onward at.link at.to held) (is held) le, ap (λ (q : Packet). q ∷ []) (sym (is held)));
    used = u;
    counts = added_none counts_old;
    grew = log_none;
  }

  pub happens_turned : ((b : List ℕ) → packet_at next b ≡ back at.link at.to b) → at.link ≤ devices → Happens names before before coming_old coming_old counts_old counts_old devices (Moves next) held (event_of origin device (packet_at at arrived) (turned held))
  happens_turned is le = record {
    sends = (next_link (back at.link at.to held) (is held) le, ap (λ (q : Packet). q ∷ []) (sym (is held)));
    used = nobody;
    counts = added_none counts_old;
    grew = log_none;
  }

  same_pieces : ((b : List ℕ) → packet_at next b ≡ onward at.link at.to b) → (packets : List (List ℕ)) → map (onward at.link at.to) packets ≡ map (packet_at next) packets
  same_pieces is [] = refl
  same_pieces is (b ∷ packets) = λ i. sym (is b) i ∷ same_pieces is packets i

  pub happens_pieces : (used : Bool) (plan : CutPlan) (packets : List (List ℕ)) → ((b : List ℕ) → packet_at next b ≡ onward at.link at.to b) → (onward at.link at.to held).link ≤ devices → IsUsed (user_if used device) coming_old coming_new → IsCutInto plan held packets → Happens names before before coming_old coming_new counts_old counts_old devices (Cut plan next) held (event_of origin device (packet_at at arrived) (pieces used packets))
  happens_pieces used plan packets is le u cut = record {
    sends = record { packets = packets; link = next_link (onward at.link at.to held) (is held) le; are = same_pieces is packets; cut = cut };
    used = u;
    counts = added_none counts_old;
    grew = log_none;
  }

  pub happens_answered : (rule : Rule) → ((b : List ℕ) → packet_at next b ≡ back at.link at.to b) → at.link ≤ devices → GrewBy names before after (text_of (drops origin device rule true ∷ [])) → counts_new ≡ added counts_old (drops origin device rule true ∷ []) → Happens names before after coming_old coming_old counts_old counts_new devices (Moves next) held (event_of origin device (packet_at at arrived) (dropped rule (Some held)))
  happens_answered rule is le grew counted = record {
    sends = (next_link (back at.link at.to held) (is held) le, ap (λ (q : Packet). q ∷ []) (sym (is held)));
    used = nobody;
    counts = counted;
    grew = grew;
  }

  pub happens_silent : (rule : Rule) → GrewBy names before after (text_of (drops origin device rule false ∷ [])) → counts_new ≡ added counts_old (drops origin device rule false ∷ []) → Happens names before after coming_old coming_old counts_old counts_new devices Ended held (event_of origin device (packet_at at arrived) (dropped rule None))
  happens_silent rule grew counted = record { sends = refl; used = nobody; counts = counted; grew = grew }

-- what a drop writes, answered or not
pub dropped_log : (origin : Origin) (device : ℕ) (rule : Rule) (p : Packet) (held : List ℕ) (answered : Bool) → (event_of origin device p (dropped rule (if answered then Some held else None))).log ≡ drops origin device rule answered ∷ []
dropped_log origin device rule p held true = refl
dropped_log origin device rule p held false = refl
