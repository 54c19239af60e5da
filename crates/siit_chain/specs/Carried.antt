-- A packet carried through a chain of devices to every end that it comes to, depth first. Link 0 is the leftmost;
-- device k stands between link k - 1 and link k.
use Rattle.std.specs.Prelude.{◌≡◌, ℕ, zero, suc, ◌+◌, ◌-◌, List, [], ◌∷◌, ◌++◌, length, take, map, Bool, true, false, Option, Some, None, if◌then◌else◌, ◌==◌, nat_lt, slice_get, option_map}
use Rattle.std.specs.List.{fold}
use Rattle.std.specs.Borrow.{Bor}
use Rattle.siit_capture.specs.LinkPackets.{IpPacket}
use Rattle.siit_rules.specs.declared.rule.Family.{Family}
use Rattle.siit_rules.specs.declared.rule.Family.TheVariants.{Four, Six}
use Rattle.siit_rules.specs.declared.rule.Rule.TheVariants.{NotIp, OtherFamily}
use Rattle.siit_chain.specs.Log.{Entry, drops, leaves}
use Rattle.siit_chain.specs.Outcome.{Outcome, dropped, turned, through, pieces}
use Rattle.siit_chain.specs.declared.origin.End.{End}
use Rattle.siit_chain.specs.declared.origin.End.TheVariants.{Left, Right}
use Rattle.siit_chain.specs.declared.origin.Origin.{Origin}

-- A chain: what its devices make of a packet that arrives on a side, with an identification; how long a packet may
-- live; the devices from left to right; and the families of the first and the last link.
pub record Chain (D : Type 0) : Type 0 where
  pub outcome : D → End → List ℕ → ℕ → Outcome
  pub measure : List ℕ → ℕ
  pub devices : List D
  pub left : Family
  pub right : Family

abbrev pub chain_of : {D : Type 0} → (D → End → List ℕ → ℕ → Outcome) → (List ℕ → ℕ) → List D → (left right : Family) → Chain D
chain_of outcome measure devices left right = record {
  outcome = outcome;
  measure = measure;
  devices = devices;
  left = left;
  right = right;
}

-- a packet on a link, and the end that it moves to
pub record Packet : Type 0 where
  pub link : ℕ
  pub to : End
  pub bytes : List ℕ

abbrev pub other_end : End → End
other_end Left = Right
other_end Right = Left

-- on the next link, the same way
abbrev pub onward : (link : ℕ) → (to : End) → List ℕ → Packet
onward link Right bytes = record { link = link + 1; to = Right; bytes = bytes }
onward link Left bytes = record { link = link - 1; to = Left; bytes = bytes }

-- on the same link, the other way
abbrev pub back : (link : ℕ) → (to : End) → List ℕ → Packet
back link to bytes = record { link = link; to = other_end to; bytes = bytes }

-- the place in the list of the device that a packet meets, or none where it leaves the chain; device k has place k - 1
abbrev pub place_met : (count link : ℕ) → (to : End) → Option ℕ
place_met count link Right = if nat_lt link count then Some link else None
place_met count zero Left = None
place_met count (suc link) Left = Some link

-- What one packet makes happen where it is: what is written, which packets are carried on, in their order, and the
-- device that used its number.
pub record Event : Type 0 where
  pub log : List Entry
  pub sent : List Packet
  pub user : Option ℕ

abbrev pub user_if : (used : Bool) → (device : ℕ) → Option ℕ
user_if true device = Some device
user_if false device = None

abbrev pub leaving : Origin → Packet → Event
leaving origin p = record { log = leaves origin p.to p.bytes ∷ []; sent = []; user = None }

-- the event of an outcome at a device
abbrev pub event_of : Origin → (device : ℕ) → Packet → Outcome → Event
event_of origin device p (dropped rule None) = record { log = drops origin device rule false ∷ []; sent = []; user = None }
event_of origin device p (dropped rule (Some answer)) = record {
  log = drops origin device rule true ∷ [];
  sent = back p.link p.to answer ∷ [];
  user = None;
}
event_of origin device p (turned packet) = record { log = []; sent = back p.link p.to packet ∷ []; user = None }
event_of origin device p (through used packet) = record {
  log = [];
  sent = onward p.link p.to packet ∷ [];
  user = user_if used device;
}
event_of origin device p (pieces used packets) = record {
  log = [];
  sent = map (onward p.link p.to) packets;
  user = user_if used device;
}

-- the event at the device that there may be at a place
abbrev pub event_at : {D : Type 0} → Chain D → Origin → (coming : ℕ → ℕ → ℕ) → Packet → (place : ℕ) → Option D → Event
event_at chain origin coming p place None = leaving origin p
event_at chain origin coming p place (Some device) =
    event_of origin (place + 1) p (chain.outcome device (other_end p.to) p.bytes (coming (place + 1) 0))

abbrev pub event_met : {D : Type 0} → Chain D → Origin → (coming : ℕ → ℕ → ℕ) → Packet → Option ℕ → Event
event_met chain origin coming p None = leaving origin p
event_met chain origin coming p (Some place) = event_at chain origin coming p place (slice_get chain.devices place)

-- what happens next to a packet of a record, where these numbers are to come
unfoldable pub event : {D : Type 0} → Chain D → Origin → (coming : ℕ → ℕ → ℕ) → Packet → Event
event chain origin coming p = event_met chain origin coming p (place_met (length chain.devices) p.link p.to)

-- What has happened so far: what was written, and the numbers that are still to come, by device and by how many stand
-- before.
pub record Trace : Type 0 where
  pub log : List Entry
  pub coming : ℕ → ℕ → ℕ

-- the numbers to come once a device has used its next one
abbrev pub used_up : (user : Option ℕ) → (ℕ → ℕ → ℕ) → ℕ → ℕ → ℕ
used_up None coming = coming
used_up (Some user) coming = λ device k. if device == user then coming device (k + 1) else coming device k

abbrev pub after_event : Trace → Event → Trace
after_event t e = record { log = t.log ++ e.log; coming = used_up e.user t.coming }

-- A packet carried for so many turns: its event, and then each packet that comes of it, in order, each to its end
-- before the next.
unfoldable pub carried : {D : Type 0} → Chain D → Origin → (turns : ℕ) → Trace → Packet → Trace
carried chain origin zero t p = t
carried chain origin (suc turns) t p =
    let e = event chain origin t.coming p in
    fold (carried chain origin turns) (after_event t e) e.sent

-- the same with as many turns as are needed
unfoldable pub carry : {D : Type 0} → Chain D → Origin → Trace → Packet → Trace
carry chain origin t p = carried chain origin (suc (chain.measure p.bytes)) t p

-- Nothing has happened yet.
abbrev pub fresh : (ℕ → ℕ → ℕ) → Trace
fresh coming = record { log = []; coming = coming }

-- the same behind what was written before
abbrev pub behind : List Entry → Trace → Trace
behind log t = record { log = log ++ t.log; coming = t.coming }

-- the numbers of all devices as a trace has them
pub record HasComing (coming : ℕ → ℕ → ℕ) (t : Trace) : Type 0 where
  pub each : (device k : ℕ) → coming device k ≡ t.coming device k

-- the most bytes of a captured packet that are looked at
abbrev pub most_bytes : ℕ
most_bytes = 65575

-- a packet that enters a chain of so many devices at an end
abbrev pub entering_at : (count : ℕ) → End → List ℕ → Packet
entering_at count Left bytes = record { link = 0; to = Right; bytes = bytes }
entering_at count Right bytes = record { link = count; to = Left; bytes = bytes }

-- of the families of the first and the last link, that at an end
abbrev pub family_at : End → (left right : Family) → Family
family_at Left left right = left
family_at Right left right = right

abbrev pub is_family : Family → Family → Bool
is_family Four Four = true
is_family Six Six = true
is_family _ _ = false

-- a captured packet, as code hands it over
abbrev pub captured_packet : Option (Family × Bor (List ℕ)) → Option IpPacket
captured_packet packet = option_map (λ p. record { family = p.0; bytes = p.1.now }) packet

-- All that comes of a record's packet: a record without an IP packet, and one of another family than its link, are
-- drops of the capture, device 0.
abbrev pub carry_captured : {D : Type 0} → Chain D → Origin → Trace → Option IpPacket → Trace
carry_captured chain origin t None = record { log = t.log ++ drops origin 0 NotIp false ∷ []; coming = t.coming }
carry_captured chain origin t (Some captured) =
    if is_family captured.family (family_at origin.end chain.left chain.right)
    then carry chain origin t (entering_at (length chain.devices) origin.end (take most_bytes captured.bytes))
    else record { log = t.log ++ drops origin 0 OtherFamily false ∷ []; coming = t.coming }
