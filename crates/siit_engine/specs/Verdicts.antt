-- Verdicts on packets that go on, and on packets of which nothing comes.
use Rattle.std.specs.Prelude.{◌≡◌, Bool, false, Option, Some, None}
use Rattle.siit_fragments.specs.declared.cut.CutPlan.{CutPlan}
use Rattle.siit_chain.specs.declared.device.Verdict.{Verdict}
use Rattle.siit_chain.specs.declared.device.Verdict.TheVariants.{Through, Turned, Pieces, Dropped}

-- a packet that is dropped without an answer
abbrev pub IsSilent : Verdict → Type 0
IsSilent (Dropped rule answered) = answered ≡ false
IsSilent (Through used) = ⊥
IsSilent Turned = ⊥
IsSilent (Pieces plan used) = ⊥

-- a packet that goes on, whole or in pieces
abbrev pub verdict_of : Option CutPlan → (used : Bool) → Verdict
verdict_of None used = Through used
verdict_of (Some plan) used = Pieces plan used
