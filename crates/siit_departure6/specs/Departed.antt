-- What is in the buffer once an IPv4 packet was translated: the one packet that is sent, or the one that is cut by the
-- plan into those that are sent.
use Rattle.std.specs.Prelude.{◌≡◌, ℕ, List, map, true, false, Option, Some, None}
use Rattle.siit_model.specs.Ipv4.{ipv4_fields}
use Rattle.siit_model.specs.Ipv6.{ipv6_bytes}
use Rattle.siit_fragments.specs.declared.cut.CutPlan.{CutPlan}
use Rattle.siit_roles.specs.declared.settings.Settings.{Settings}
use Rattle.siit_chain.specs.Verdicts.{IsCutInto}
use Rattle.siit_device.specs.Forward.{is_cut6, pieces6, whole6}

abbrev pub IsSent6 : Settings → (old : List ℕ) → Option CutPlan → (new : List ℕ) → Type 0
IsSent6 settings old None new =
    (is_cut6 settings (ipv4_fields old) ≡ false) × (new ≡ ipv6_bytes (whole6 settings (ipv4_fields old)))
IsSent6 settings old (Some plan) new =
    (is_cut6 settings (ipv4_fields old) ≡ true)
    × IsCutInto plan new (map ipv6_bytes (pieces6 settings (ipv4_fields old)))
