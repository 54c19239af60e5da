-- The code's places and steps, as the definitions have them.
use Rattle.std.specs.Prelude.{◌≡◌, ℕ, ◌≤◌, List, [], ◌∷◌, map, Option}
use Rattle.siit_chain.specs.Carried.{Chain, Packet, chain_of, used_up}
use Rattle.siit_chain.specs.Outcome.{Outcome}
use Rattle.siit_chain.specs.Verdicts.{IsCutInto}
use Rattle.siit_chain.specs.declared.origin.End.{End}
use Rattle.siit_fragments.specs.declared.cut.CutPlan.{CutPlan}
use Rattle.siit_carry.specs.declared.meet.Next.{Next}
use Rattle.siit_carry.specs.declared.meet.Next.TheVariants.{Ended, Moves, Cut}
use Rattle.siit_carry.specs.declared.place.Place.{Place}
use Rattle.siit_carry.specs.declared.place.Trip.{Trip}

-- the chain of a trip
abbrev pub chain_on : {D : Type 0} → (D → End → List ℕ → ℕ → Outcome) → (List ℕ → ℕ) → Trip D → Chain D
chain_on outcome measure trip = chain_of outcome measure trip.devices.now trip.left trip.right

abbrev pub packet_at : Place → List ℕ → Packet
packet_at place bytes = record { link = place.link; to = place.to; bytes = bytes }

-- Pieces are carried on from a place.
pub record CutsOn (devices : ℕ) (plan : CutPlan) (to : Place) (whole : List ℕ) (sent : List Packet) : Type 0 where
  pub packets : List (List ℕ)
  pub link : to.link ≤ devices
  pub are : sent ≡ map (packet_at to) packets
  pub cut : IsCutInto plan whole packets

-- What an event sends on in a chain of so many devices, by what follows it and what the buffer holds.
abbrev pub SendsOn : (devices : ℕ) → Next → (held : List ℕ) → (sent : List Packet) → Type 0
SendsOn devices Ended held sent = sent ≡ []
SendsOn devices (Moves to) held sent = (to.link ≤ devices) × (sent ≡ packet_at to held ∷ [])
SendsOn devices (Cut plan to) held sent = CutsOn devices plan to held sent

-- Nobody has used a number but the user.
pub record IsUsed (user : Option ℕ) (old new : ℕ → ℕ → ℕ) : Type 0 where
  pub each : (device k : ℕ) → new device k ≡ used_up user old device k
