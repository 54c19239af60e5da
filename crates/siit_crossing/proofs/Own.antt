-- What carrying a packet writes comes of its record, and the numbers that it uses were to come.
use Rattle.std.proofs.Common.{◌≡◌, ℕ, zero, suc, ◌+◌, List, [], ◌∷◌, ◌++◌, length, take, Bool, true, false, ◌==◌, if◌then◌else◌, Option, Some, None, filter, fold, slice_get, refl, ap, sym, subst, ◌∙◌, arith}
use Rattle.std.specs.List.{AllByRecursion}
use Rattle.std.proofs.lemmas.Bool.{cond-true, cond-false}
use Rattle.std.proofs.lemmas.List.{append-nil}
use Rattle.siit_capture.specs.LinkPackets.{IpPacket, packet_of}
use Rattle.siit_capture.specs.Records.{Record}
use Rattle.siit_chain.specs.Carried.{Chain, Event, Packet, Trace, after_event, behind, carried, carry, carry_captured, entering_at, event, event_at, event_met, event_of, family_at, fresh, is_family, most_bytes, place_met, used_up}
use Rattle.siit_chain.specs.Log.{Entry, begins, drops, finishes, leaves}
use Rattle.siit_chain.specs.Outcome.{Outcome, dropped, turned, through, pieces}
use Rattle.siit_chain.specs.declared.origin.End.{End}
use Rattle.siit_chain.specs.declared.origin.Origin.{Origin}
use Rattle.siit_chain.proofs.Traces.{carry_behind}
use Rattle.siit_run.specs.Runs.{carry_record, origin_of}
use Rattle.siit_crossing.specs.Carrying.{IsStillToCome}
use Rattle.siit_crossing.specs.Entries.{comes_of}

-- THE RECORD OF AN ENTRY

abbrev pub IsOwn : Origin → Entry → Type 0
IsOwn origin (begins at) = ⊥
IsOwn origin (leaves own at packet) = own ≡ origin
IsOwn origin (drops own device rule answered) = own ≡ origin
IsOwn origin (finishes totals) = ⊥

abbrev pub AreOwn : Origin → List Entry → Type 0
AreOwn origin log = AllByRecursion (IsOwn origin) log

own-append : (origin : Origin) (xs ys : List Entry) → AreOwn origin xs → AreOwn origin ys → AreOwn origin (xs ++ ys)
own-append origin [] ys own others = others
own-append origin (x ∷ xs) ys own others = (own.0, own-append origin xs ys own.1 others)

own-test : (test : Origin → Bool) (origin : Origin) (answer : Bool) (entry : Entry) → IsOwn origin entry → test origin ≡ answer → comes_of test entry ≡ answer
own-test test origin answer (begins at) own is = absurd own
own-test test origin answer (leaves of at packet) own is = ap test own ∙ is
own-test test origin answer (drops of device rule answered) own is = ap test own ∙ is
own-test test origin answer (finishes totals) own is = absurd own

-- all of a log's entries, where its record passes the test, and none where it doesn't
pub filter-own : (test : Origin → Bool) (origin : Origin) (log : List Entry) → AreOwn origin log → test origin ≡ true → filter (comes_of test) log ≡ log
filter-own test origin [] own is = refl
filter-own test origin (x ∷ log) own is =
    cond-true (comes_of test x) (x ∷ filter (comes_of test) log) (filter (comes_of test) log) (own-test test origin true x own.0 is)
    ∙ ap (λ l. x ∷ l) (filter-own test origin log own.1 is)

pub filter-other : (test : Origin → Bool) (origin : Origin) (log : List Entry) → AreOwn origin log → test origin ≡ false → filter (comes_of test) log ≡ []
filter-other test origin [] own is = refl
filter-other test origin (x ∷ log) own is =
    cond-false (comes_of test x) (x ∷ filter (comes_of test) log) (filter (comes_of test) log) (own-test test origin false x own.0 is)
    ∙ filter-other test origin log own.1 is

-- THE NUMBERS TO COME

pub still-same : (coming : ℕ → ℕ → ℕ) → IsStillToCome coming coming
still-same coming = record { gone = λ device. 0; is = λ device k. ap (coming device) (omega arith) }

pub still-used : (coming now : ℕ → ℕ → ℕ) (user : Option ℕ) → IsStillToCome coming now → IsStillToCome coming (used_up user now)
still-used coming now None h = h
still-used coming now (Some user) h = record {
  gone = λ device. h.gone device + (if device == user then 1 else 0);
  is = λ device k. by_test device k (device == user);
}
  where
    by_test : (device k : ℕ) (b : Bool) → (if b then now device (k + 1) else now device k) ≡ coming device ((h.gone device + (if b then 1 else 0)) + k)
    by_test device k true = h.is device (k + 1) ∙ ap (coming device) (omega arith)
    by_test device k false = h.is device k ∙ ap (coming device) (omega arith)

-- A PACKET CARRIED

-- a trace whose entries come of this record, and whose numbers were to come
pub record IsOwnTrace (origin : Origin) (coming : ℕ → ℕ → ℕ) (t : Trace) : Type 0 where
  pub log : AreOwn origin t.log
  pub still : IsStillToCome coming t.coming

own-fold : (origin : Origin) (coming : ℕ → ℕ → ℕ) (f : Trace → Packet → Trace) → ((t : Trace) (p : Packet) → IsOwnTrace origin coming t → IsOwnTrace origin coming (f t p))
    → (ps : List Packet) (t : Trace) → IsOwnTrace origin coming t → IsOwnTrace origin coming (fold f t ps)
own-fold origin coming f step [] t own = own
own-fold origin coming f step (p ∷ ps) t own = own-fold origin coming f step ps (f t p) (step t p own)

module _ {D : Type 0} (chain : Chain D) (origin : Origin) where
  own-event_of : (device : ℕ) (p : Packet) (o : Outcome) → AreOwn origin (event_of origin device p o).log
  own-event_of device p (dropped rule None) = (refl, tt)
  own-event_of device p (dropped rule (Some answer)) = (refl, tt)
  own-event_of device p (turned packet) = tt
  own-event_of device p (through used packet) = tt
  own-event_of device p (pieces used packets) = tt

  own-event_at : (now : ℕ → ℕ → ℕ) (p : Packet) (place : ℕ) (device : Option D) → AreOwn origin (event_at chain origin now p place device).log
  own-event_at now p place None = (refl, tt)
  own-event_at now p place (Some device) = own-event_of (place + 1) p _

  own-event_met : (now : ℕ → ℕ → ℕ) (p : Packet) (place : Option ℕ) → AreOwn origin (event_met chain origin now p place).log
  own-event_met now p None = (refl, tt)
  own-event_met now p (Some place) = own-event_at now p place (slice_get chain.devices place)

  own-event : (now : ℕ → ℕ → ℕ) (p : Packet) → AreOwn origin (event chain origin now p).log
  unfolding event
  own-event now p = own-event_met now p (place_met (length chain.devices) p.link p.to)

  own-carried : (coming : ℕ → ℕ → ℕ) (turns : ℕ) (t : Trace) (p : Packet) → IsOwnTrace origin coming t → IsOwnTrace origin coming (carried chain origin turns t p)
  unfolding carried
  own-carried coming zero t p own = own
  own-carried coming (suc turns) t p own =
      let e : Event = event chain origin t.coming p in
      own-fold origin coming (carried chain origin turns) (own-carried coming turns) e.sent (after_event t e)
      (record { log = own-append origin t.log e.log own.log (own-event t.coming p); still = still-used coming t.coming e.user own.still })

  pub own-carry : (coming : ℕ → ℕ → ℕ) (t : Trace) (p : Packet) → IsOwnTrace origin coming t → IsOwnTrace origin coming (carry chain origin t p)
  unfolding carry
  own-carry coming t p own = own-carried coming (suc (chain.measure p.bytes)) t p own

  own-by_family : (coming : ℕ → ℕ → ℕ) (b : Bool) (t u : Trace) (bytes : List ℕ) → IsOwnTrace origin coming t → IsOwnTrace origin coming u
      → IsOwnTrace origin coming (if b then carry chain origin t (entering_at (length chain.devices) origin.end bytes) else u)
  own-by_family coming true t u bytes own other = own-carry coming t _ own
  own-by_family coming false t u bytes own other = other

  own-captured : (coming : ℕ → ℕ → ℕ) (t : Trace) (packet : Option IpPacket) → IsOwnTrace origin coming t → IsOwnTrace origin coming (carry_captured chain origin t packet)
  own-captured coming t None own = record { log = own-append origin t.log _ own.log (refl, tt); still = own.still }
  own-captured coming t (Some packet) own =
      own-by_family coming (is_family packet.family (family_at origin.end chain.left chain.right)) t _ (take most_bytes packet.bytes) own
      (record { log = own-append origin t.log _ own.log (refl, tt); still = own.still })

  -- What was written before stays in front.
  behind-by_family : (b : Bool) (t : Trace) (entry : Entry) (bytes : List ℕ)
      → (if b then carry chain origin t (entering_at (length chain.devices) origin.end bytes) else record { log = t.log ++ entry ∷ []; coming = t.coming })
      ≡ behind t.log (if b then carry chain origin (fresh t.coming) (entering_at (length chain.devices) origin.end bytes) else record { log = entry ∷ []; coming = t.coming })
  behind-by_family true t entry bytes =
      let start : t ≡ behind t.log (fresh t.coming) = ap (λ (l : List Entry). record { log = l; coming = t.coming }) (sym (append-nil t.log)) in
      ap (λ (x : Trace). carry chain origin x (entering_at (length chain.devices) origin.end bytes)) start
      ∙ carry_behind chain origin t.log (fresh t.coming) (entering_at (length chain.devices) origin.end bytes)
  behind-by_family false t entry bytes = refl

  pub captured-behind : (t : Trace) (packet : Option IpPacket) → carry_captured chain origin t packet ≡ behind t.log (carry_captured chain origin (fresh t.coming) packet)
  captured-behind t None = refl
  captured-behind t (Some packet) =
      behind-by_family (is_family packet.family (family_at origin.end chain.left chain.right)) t _ (take most_bytes packet.bytes)

-- A RECORD CARRIED

-- what carrying a record adds to a trace
pub record Adds (origin : Origin) (coming : ℕ → ℕ → ℕ) (t result : Trace) (more : List Entry) : Type 0 where
  pub own : AreOwn origin more
  pub log : result.log ≡ t.log ++ more
  pub still : IsStillToCome coming result.coming

pub record-adds : {D : Type 0} (chain : Chain D) (coming : ℕ → ℕ → ℕ) (end : End) (number : ℕ) (found : Record) (t : Trace) → IsStillToCome coming t.coming
    → Adds (origin_of end number found) coming t (carry_record chain end number found t) (carry_record chain end number found (fresh t.coming)).log
record-adds chain coming end number found t still =
    let origin : Origin = origin_of end number found in
    let packet : Option IpPacket = packet_of found.link found.bytes in
    let is = captured-behind chain origin t packet in
    let own = own-captured chain origin coming (fresh t.coming) packet (record { log = tt; still = still }) in
    record {
      own = own.log;
      log = ap (λ (x : Trace). x.log) is;
      still = subst (λ (x : Trace). IsStillToCome coming x.coming) (sym is) own.still;
    }
