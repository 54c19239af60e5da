-- What a device's code answers, as the outcome that it means.
use Rattle.std.specs.Prelude.{◌≡◌, ℕ, ◌+◌, ◌-◌, ◌*◌, ◌<◌, ◌≤◌, List, length, Bool, Some, None, if◌then◌else◌, slice_get}
use Rattle.siit_fragments.specs.Plans.{IsPiece, IsPlanFor, offset_in}
use Rattle.siit_fragments.specs.declared.cut.CutPlan.{CutPlan}
use Rattle.siit_chain.specs.Outcome.{Outcome, dropped, turned, through, pieces}
use Rattle.siit_chain.specs.declared.device.Verdict.{Verdict}
use Rattle.siit_chain.specs.declared.device.Verdict.TheVariants.{Through, Turned, Pieces, Dropped}

-- A packet that can be cut by a plan, and the pieces that it is cut into.
pub record IsCutInto (plan : CutPlan) (whole : List ℕ) (packets : List (List ℕ)) : Type 0 where
  pub planned : IsPlanFor (length whole) plan
  pub total : plan.header ≡ 20 → length whole ≤ 65535
  pub fits : 8 * offset_in plan.header whole + (length whole - plan.header) ≤ 65535
  pub as_many : length packets ≡ plan.count
  pub each : (k : ℕ) (piece : List ℕ) → k < plan.count → IsPiece plan whole k piece → slice_get packets k ≡ Some piece

pub record MeansPieces (plan : CutPlan) (used : Bool) (whole : List ℕ) (outcome : Outcome) : Type 0 where
  pub packets : List (List ℕ)
  pub is : outcome ≡ pieces used packets
  pub cut : IsCutInto plan whole packets

-- A verdict, with what the packet buffer holds then, means an outcome.
abbrev pub Means : Verdict → (held : List ℕ) → Outcome → Type 0
Means (Through used) held outcome = outcome ≡ through used held
Means Turned held outcome = outcome ≡ turned held
Means (Pieces plan used) held outcome = MeansPieces plan used held outcome
Means (Dropped rule answered) held outcome = outcome ≡ dropped rule (if answered then Some held else None)
