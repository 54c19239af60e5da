-- Laws of what is carried through a chain of any devices.
use Rattle.std.specs.Prelude.{◌≡◌, ℕ, ◌<◌, List}
use Rattle.std.specs.List.{fold}
use Rattle.siit_rules.specs.declared.rule.Family.{Family}
use Rattle.siit_chain.specs.Carried.{Chain, Packet, Trace, after_event, behind, carried, carry, chain_of, event}
use Rattle.siit_chain.specs.Log.{Entry}
use Rattle.siit_chain.specs.Outcome.{Outcome}
use Rattle.siit_chain.specs.declared.origin.End.{End}
use Rattle.siit_chain.specs.declared.origin.Origin.{Origin}

-- a law of every chain of devices of one kind
abbrev pub OnChains : {D : Type 0} → (D → End → List ℕ → ℕ → Outcome) → (List ℕ → ℕ) → (Chain D → Type 0) → Type 0
OnChains {D} outcome measure P = (devices : List D) (left right : Family) → P (chain_of outcome measure devices left right)

-- More turns than a packet may live change nothing.
abbrev pub EnoughTurns : {D : Type 0} → Chain D → Type 0
EnoughTurns chain = (origin : Origin) (turns : ℕ) (t : Trace) (p : Packet) → chain.measure p.bytes < turns
    → carried chain origin turns t p ≡ carry chain origin t p

-- A packet is carried by its event, and then by carrying what comes of it, in order.
abbrev pub OneStep : {D : Type 0} → Chain D → Type 0
OneStep chain = (origin : Origin) (t : Trace) (p : Packet) →
    let e = event chain origin t.coming p in
    carry chain origin t p ≡ fold (carry chain origin) (after_event t e) e.sent

-- What was written before stays in front, and changes nothing of what comes.
abbrev pub WrittenStaysInFront : {D : Type 0} → Chain D → Type 0
WrittenStaysInFront chain = (origin : Origin) (log : List Entry) (t : Trace) (p : Packet)
    → carry chain origin (behind log t) p ≡ behind log (carry chain origin t p)
