-- What is in the buffer once an IPv6 packet was translated: the one packet that is sent, or the one that is cut by the
-- plan.
use Rattle.std.specs.Prelude.{◌≡◌, ℕ, List, map, true, false, Option, Some, None}
use Rattle.siit_model.specs.Ipv4.{ipv4_bytes}
use Rattle.siit_fragments.specs.declared.cut.CutPlan.{CutPlan}
use Rattle.siit_roles.specs.declared.settings.Settings.{Settings}
use Rattle.siit_chain.specs.Verdicts.{IsCutInto}
use Rattle.siit_device.specs.Arrival6.{Arrived}
use Rattle.siit_device.specs.Backward.{is_sent_cut4, pieces4, whole4}
use Rattle.siit_arrival6.specs.Arrived.{arrival_of}
use Rattle.siit_arrival6.specs.declared.arrived.Arrived6.{Arrived6}

pub record IsSentWhole4 (settings : Settings) (arrival : Arrived) (number : ℕ) (new : List ℕ) : Type 0 where
  pub whole : is_sent_cut4 settings arrival ≡ false
  pub packet : new ≡ ipv4_bytes (whole4 settings arrival number)

pub record IsSentCut4 (settings : Settings) (arrival : Arrived) (number : ℕ) (plan : CutPlan) (new : List ℕ) : Type 0 where
  pub is_cut : is_sent_cut4 settings arrival ≡ true
  pub packets : IsCutInto plan new (map ipv4_bytes (pieces4 settings arrival number))

abbrev pub IsSent4 : Settings → (old : List ℕ) → Arrived6 → (number : ℕ) → Option CutPlan → (new : List ℕ) → Type 0
IsSent4 settings old arrived number None new = IsSentWhole4 settings (arrival_of old arrived) number new
IsSent4 settings old arrived number (Some plan) new = IsSentCut4 settings (arrival_of old arrived) number plan new
