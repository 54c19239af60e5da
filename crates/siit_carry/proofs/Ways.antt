-- A packet's way, from what one event does and what is carried on after it.
use Rattle.std.proofs.Common.{◌≡◌, ℕ, zero, suc, ◌+◌, ◌<◌, List, [], ◌∷◌, ◌++◌, length, drop, Option, Some, refl, ap, sym, subst, ◌∙◌, arith, if◌then◌else◌}
use Rattle.std.proofs.lemmas.List.{append-nil}
use Rattle.std.specs.Prelude.{map, slice_get}
use Rattle.std.proofs.lemmas.List.Sums.{sum_by-append}
use Rattle.std.specs.List.{fold, AllByRecursion}
use Rattle.siit_chain.specs.Carried.{Chain, HasComing, Packet, Trace, after_event, behind, carry, event, fresh, used_up}
use Rattle.siit_chain.specs.Counted.{added, raised_by}
use Rattle.siit_chain.specs.Log.{Entry, drops_in, is_drop, is_packet_at, packets_at, text_of}
use Rattle.siit_chain.specs.Outcome.{Falls}
use Rattle.siit_chain.specs.Outputs.{GrewBy, GrewByPart}
use Rattle.siit_chain.specs.declared.origin.Counts.{Counts}
use Rattle.siit_chain.specs.declared.origin.End.{End}
use Rattle.siit_chain.specs.declared.origin.End.TheVariants.{Left, Right}
use Rattle.siit_chain.specs.declared.origin.Origin.{Origin}
use Rattle.siit_chain.specs.declared.origin.Output.{Output}
use Rattle.siit_chain.proofs.Grown.{log_none, log_part_of_more, log_then_part, log_twice}
use Rattle.siit_chain.proofs.Traces.{LivesLess, carry_all_behind, carry_behind, carry_step}
use Rattle.siit_word.specs.Files.{FilesMeaning, Touches}
use Rattle.siit_carry.specs.Happenings.{IsDone}
use Rattle.siit_carry.specs.Steps.{IsUsed, packet_at}
use Rattle.siit_carry.specs.declared.place.Place.{Place}
use Rattle.siit_carry.proofs.Events.{added_none}

raised_twice : (n a b : ℕ) → raised_by (raised_by n a) b ≡ raised_by n (a + b)
raised_twice n a b = omega arith

packets_at-append : (end : End) (first more : List Entry) → packets_at end (first ++ more) ≡ packets_at end first + packets_at end more
packets_at-append end first more = sum_by-append (λ e. if is_packet_at end e then 1 else 0) first more

drops_in-append : (first more : List Entry) → drops_in (first ++ more) ≡ drops_in first + drops_in more
drops_in-append first more = sum_by-append (λ e. if is_drop e then 1 else 0) first more

pub added_twice : (counts : Counts) (first more : List Entry) → added (added counts first) more ≡ added counts (first ++ more)
added_twice counts first more = λ i. record {
  left = (raised_twice counts.left (packets_at Left first) (packets_at Left more) ∙ ap (raised_by counts.left) (sym (packets_at-append Left first more))) i;
  right = (raised_twice counts.right (packets_at Right first) (packets_at Right more) ∙ ap (raised_by counts.right) (sym (packets_at-append Right first more))) i;
  dropped = (raised_twice counts.dropped (drops_in first) (drops_in more) ∙ ap (raised_by counts.dropped) (sym (drops_in-append first more))) i;
}

-- numbers that are told one by one are the same function
pub same_numbers : (f g : ℕ → ℕ → ℕ) → ((device k : ℕ) → f device k ≡ g device k) → f ≡ g
same_numbers f g h = λ i device k. h device k i

-- a trace is its log before one that has none
pub as_behind : (t : Trace) (coming : ℕ → ℕ → ℕ) → HasComing coming t → t ≡ behind t.log (fresh coming)
as_behind t coming h =
    ap (λ (w : List Entry). record { log = w; coming = t.coming }) (sym (append-nil t.log))
    ∙ ap (λ (f : ℕ → ℕ → ℕ). behind t.log (fresh f)) (sym (same_numbers coming t.coming h.each))

module _ {D : Type 0} (chain : Chain D) (falls : (device : D) (side : End) (bytes : List ℕ) (ident : ℕ) → Falls chain.measure bytes (chain.outcome device side bytes ident)) (origin : Origin) where
  -- All that comes of a packet is what its event wrote, and then all that comes of what it sent.
  pub carry_split : (old mid : ℕ → ℕ → ℕ) (p : Packet) → IsUsed (event chain origin old p).user old mid → carry chain origin (fresh old) p ≡ behind (event chain origin old p).log (fold (carry chain origin) (fresh mid) (event chain origin old p).sent)
  carry_split old mid p used =
      let e = event chain origin old p in
      let start : after_event (fresh old) e ≡ behind e.log (fresh mid) =
      ap (λ (f : ℕ → ℕ → ℕ). record { log = e.log; coming = f }) (sym (same_numbers mid (used_up e.user old) used.each))
      ∙ ap (λ (w : List Entry). record { log = w; coming = mid }) (sym (append-nil e.log)) in
      carry_step chain falls origin (fresh old) p
      ∙ ap (λ (t : Trace). fold (carry chain origin) t e.sent) start
      ∙ carry_all_behind chain origin e.log (fresh mid) e.sent

module _ (names : Output → Option (List ℕ)) (a b c : FilesMeaning) (writes : List (List ℕ)) (coming_new : ℕ → ℕ → ℕ) (counts0 counts1 counts2 : Counts) where
  -- what was written before, and then what comes
  pub done_after : (w : List Entry) (x : Trace) → Touches a b [] writes → GrewBy names a b (text_of w) → counts1 ≡ added counts0 w → IsDone names b c coming_new counts1 counts2 x → IsDone names a c coming_new counts0 counts2 (behind w x)
  done_after w x only grew counted d = record {
    comes = record { each = d.comes.each };
    counts = d.counts ∙ ap (λ (n : Counts). added n x.log) counted ∙ added_twice counts0 w x.log;
    grew = log_twice w x.log only grew d.grew;
  }

pub done_none : (names : Output → Option (List ℕ)) (a : FilesMeaning) (coming : ℕ → ℕ → ℕ) (counts : Counts) → IsDone names a a coming counts counts (fresh coming)
done_none names a coming counts = record { comes = record { each = λ d k. refl }; counts = added_none counts; grew = log_none }

-- some packets are carried, and some are left
pub record SoFar {D : Type 0} (chain : Chain D) (origin : Origin) (names : Output → Option (List ℕ)) (before now : FilesMeaning) (coming : ℕ → ℕ → ℕ) (counts_old counts_now : Counts) (todo : List Packet) (all : Trace) : Type 0 where
  pub t : Trace
  pub done : IsDone names before now coming counts_old counts_now t
  pub left : fold (carry chain origin) t todo ≡ all

module _ {D : Type 0} (chain : Chain D) (origin : Origin) (names : Output → Option (List ℕ)) where
  pub none_so_far : (a : FilesMeaning) (coming : ℕ → ℕ → ℕ) (counts : Counts) (todo : List Packet) → SoFar chain origin names a a coming counts counts todo (fold (carry chain origin) (fresh coming) todo)
  none_so_far a coming counts todo = record { t = fresh coming; done = done_none names a coming counts; left = refl }

  -- the next packet, from where the trace is
  carry_next : (t : Trace) (coming : ℕ → ℕ → ℕ) (q : Packet) → HasComing coming t → carry chain origin t q ≡ behind t.log (carry chain origin (fresh coming) q)
  carry_next t coming q h = ap (λ (x : Trace). carry chain origin x q) (as_behind t coming h) ∙ carry_behind chain origin t.log (fresh coming) q

  pub more_so_far : (a b c : FilesMeaning) (writes : List (List ℕ)) (coming_mid coming_new : ℕ → ℕ → ℕ) (counts0 counts1 counts2 : Counts) (q : Packet) (todo : List Packet) (all : Trace) → Touches a b [] writes → SoFar chain origin names a b coming_mid counts0 counts1 (q ∷ todo) all → IsDone names b c coming_new counts1 counts2 (carry chain origin (fresh coming_mid) q) → SoFar chain origin names a c coming_new counts0 counts2 todo all
  more_so_far a b c writes coming_mid coming_new counts0 counts1 counts2 q todo all only s d =
      let t = s.t in
      record {
        t = carry chain origin t q;
        done =
            subst (λ (x : Trace). IsDone names a c coming_new counts0 counts2 x) (sym (carry_next t coming_mid q s.done.comes))
            (done_after names a b c writes coming_new counts0 counts1 counts2 t.log (carry chain origin (fresh coming_mid) q) only s.done.grew s.done.counts d);
        left = s.left;
      }

  pub all_so_far : (a b : FilesMeaning) (coming : ℕ → ℕ → ℕ) (counts0 counts1 : Counts) (all : Trace) → SoFar chain origin names a b coming counts0 counts1 [] all → IsDone names a b coming counts0 counts1 all
  all_so_far a b coming counts0 counts1 all s = subst (λ (x : Trace). IsDone names a b coming counts0 counts1 x) s.left s.done

  -- what is carried later is written later
  fold_extends : (t : Trace) (ps : List Packet) → (fold (carry chain origin) t ps).log ≡ t.log ++ (fold (carry chain origin) (fresh t.coming) ps).log
  fold_extends t ps =
      ap (λ (x : Trace). (fold (carry chain origin) x ps).log) (as_behind t t.coming (record { each = λ d k. refl }))
      ∙ ap (λ (x : Trace). x.log) (carry_all_behind chain origin t.log (fresh t.coming) ps)

  pub part_so_far : (a b c : FilesMeaning) (writes : List (List ℕ)) (coming_mid : ℕ → ℕ → ℕ) (counts0 counts1 : Counts) (q : Packet) (todo : List Packet) (all : Trace) → Touches a b [] writes → SoFar chain origin names a b coming_mid counts0 counts1 (q ∷ todo) all → GrewByPart names b c (text_of (carry chain origin (fresh coming_mid) q).log) → GrewByPart names a c (text_of all.log)
  part_so_far a b c writes coming_mid counts0 counts1 q todo all only s part =
      let t = s.t in
      let here : (carry chain origin t q).log ≡ t.log ++ (carry chain origin (fresh coming_mid) q).log = ap (λ (x : Trace). x.log) (carry_next t coming_mid q s.done.comes) in
      let more = (fold (carry chain origin) (fresh (carry chain origin t q).coming) todo).log in
      let whole : (t.log ++ (carry chain origin (fresh coming_mid) q).log) ++ more ≡ all.log =
      ap (λ (w : List Entry). w ++ more) (sym here) ∙ sym (fold_extends (carry chain origin t q) todo) ∙ ap (λ (x : Trace). x.log) s.left in
      subst (λ (w : List Entry). GrewByPart names a c (text_of w)) whole
      (log_part_of_more (t.log ++ (carry chain origin (fresh coming_mid) q).log) more
      (log_then_part t.log (carry chain origin (fresh coming_mid) q).log only s.done.grew part))

module _ {D : Type 0} (chain : Chain D) (falls : (device : D) (side : End) (bytes : List ℕ) (ident : ℕ) → Falls chain.measure bytes (chain.outcome device side bytes ident)) (origin : Origin) (names : Output → Option (List ℕ)) (a b c : FilesMeaning) (writes : List (List ℕ)) (coming_old coming_mid : ℕ → ℕ → ℕ) (p : Packet) (used : IsUsed (event chain origin coming_old p).user coming_old coming_mid) where
  pub done_event : (coming_new : ℕ → ℕ → ℕ) (counts0 counts1 counts2 : Counts) → Touches a b [] writes → GrewBy names a b (text_of (event chain origin coming_old p).log) → counts1 ≡ added counts0 (event chain origin coming_old p).log → IsDone names b c coming_new counts1 counts2 (fold (carry chain origin) (fresh coming_mid) (event chain origin coming_old p).sent) → IsDone names a c coming_new counts0 counts2 (carry chain origin (fresh coming_old) p)
  done_event coming_new counts0 counts1 counts2 only grew counted d =
      let e = event chain origin coming_old p in
      subst (λ (x : Trace). IsDone names a c coming_new counts0 counts2 x) (sym (carry_split chain falls origin coming_old coming_mid p used))
      (done_after names a b c writes coming_new counts0 counts1 counts2 e.log (fold (carry chain origin) (fresh coming_mid) e.sent) only grew counted d)

  pub part_event : Touches a b [] writes → GrewBy names a b (text_of (event chain origin coming_old p).log) → GrewByPart names b c (text_of (fold (carry chain origin) (fresh coming_mid) (event chain origin coming_old p).sent).log) → GrewByPart names a c (text_of (carry chain origin (fresh coming_old) p).log)
  part_event only grew part =
      let e = event chain origin coming_old p in
      subst (λ (x : Trace). GrewByPart names a c (text_of x.log)) (sym (carry_split chain falls origin coming_old coming_mid p used))
      (log_then_part e.log (fold (carry chain origin) (fresh coming_mid) e.sent).log only grew part)

  -- a part of what the event itself writes
  pub part_first : GrewByPart names a c (text_of (event chain origin coming_old p).log) → GrewByPart names a c (text_of (carry chain origin (fresh coming_old) p).log)
  part_first part =
      let e = event chain origin coming_old p in
      subst (λ (x : Trace). GrewByPart names a c (text_of x.log)) (sym (carry_split chain falls origin coming_old coming_mid p used))
      (log_part_of_more e.log (fold (carry chain origin) (fresh coming_mid) e.sent).log part)

-- from one item of a list on
pub drop_step : {A : Type 0} (xs : List A) (k : ℕ) (x : A) → slice_get xs k ≡ Some x → drop k xs ≡ x ∷ drop (k + 1) xs
drop_step [] k x h = cc
drop_step (y ∷ ys) zero x h = let e : y ≡ x = cc in ap (λ z. z ∷ ys) e
drop_step (y ∷ ys) (suc k) x h =
    let next : suc (k + 1) ≡ suc k + 1 = omega arith in
    drop_step ys k x h ∙ ap (λ n. x ∷ drop n (y ∷ ys)) next

drop-nil : {A : Type 0} (k : ℕ) → drop {A = A} k [] ≡ []
drop-nil zero = refl
drop-nil (suc k) = refl

pub drop_end : {A : Type 0} (xs : List A) (k : ℕ) → k ≡ length xs → drop k xs ≡ []
drop_end [] k h = drop-nil k
drop_end (y ∷ ys) zero h = absurd (omega arith)
drop_end (y ∷ ys) (suc k) h = drop_end ys k (omega arith)

-- a bound on packets is a bound on their bytes
pub unmapped : {D : Type 0} (chain : Chain D) (bound : ℕ) (to : Place) (packets : List (List ℕ)) → AllByRecursion (LivesLess chain bound) (map (packet_at to) packets) → AllByRecursion (λ (b : List ℕ). chain.measure b < bound) packets
unmapped chain bound to [] h = tt
unmapped chain bound to (b ∷ packets) h = (h.0, unmapped chain bound to packets h.1)
