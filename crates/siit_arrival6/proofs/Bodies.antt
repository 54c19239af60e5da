-- How long the body of a packet is, and the rule on its size.
use Rattle.std.proofs.Common.{◌≡◌, ℕ, ◌+◌, List, length, drop, Bool, false, not, ◌&&◌, nat_lt, if◌then◌else◌, Some, None, refl, sym, ap, ◌∙◌, arith, length-drop}
use Rattle.std.proofs.lemmas.List.{length-take-le}
use Rattle.siit_model.specs.Ipv6.{ipv6_fields, payload_length_in}
use Rattle.siit_views.specs.Headers.{HasLength6}
use Rattle.siit_rules.specs.declared.rule.Rule.TheVariants.{TooBig6}
use Rattle.siit_roles.specs.declared.settings.Settings.{Settings}
use Rattle.siit_device.specs.Arrival6.{Arrived, is_pair, turn_for}
use Rattle.siit_device.specs.Backward.{sent4}
use Rattle.siit_device.specs.Rows.{first_of}
use Rattle.siit_device.specs.Rules6.{size_rows6}

pub body_length6 : (bytes : List ℕ) → HasLength6 bytes → length (ipv6_fields bytes).body ≡ payload_length_in bytes
body_length6 bytes has = length-take-le (payload_length_in bytes) (drop 40 bytes) (omega (arith, length-drop 40 bytes, has.fits))

pub body_is6 : (bytes body : List ℕ) → HasLength6 bytes → body ≡ (ipv6_fields bytes).body → length body ≡ payload_length_in bytes
body_is6 bytes body has is = ap length is ∙ body_length6 bytes has

size_by : (turned large long b : Bool) → turned ≡ false → b ≡ (large && long)
    → (if not turned && large && long then Some TooBig6 else None) ≡ (if b then Some TooBig6 else None)
size_by turned large long b e is = rw (e, is) refl

pub size_found : (settings : Settings) (arrived : Arrived) (payload form : ℕ) (b : Bool) → is_pair (turn_for settings arrived) ≡ false
    → length arrived.packet.body ≡ payload → form ≡ 20 + length (sent4 settings arrived 0).bytes
    → b ≡ (nat_lt 1280 (40 + payload) && nat_lt settings.mtu4 form)
    → first_of (size_rows6 settings) arrived ≡ (if b then Some TooBig6 else None)
unfolding size_rows6
size_found settings arrived payload form b not_turned is_payload is_form is =
    size_by (is_pair (turn_for settings arrived)) (nat_lt 1280 (40 + length arrived.packet.body))
    (nat_lt settings.mtu4 (20 + length (sent4 settings arrived 0).bytes)) b not_turned
    (is ∙ ap (λ n. nat_lt 1280 (40 + n) && nat_lt settings.mtu4 form) (sym is_payload)
    ∙ ap (λ m. nat_lt 1280 (40 + length arrived.packet.body) && nat_lt settings.mtu4 m) is_form)
