-- A device in its place in a chain, what comes of a packet there, and how long a packet may live.
use Rattle.std.specs.Prelude.{◌≡◌, ℕ, List, length, Bool, ◌&&◌, nat_le, nat_lt, if◌then◌else◌, Option, None}
use Rattle.std.specs.List.{list_all}
use Rattle.siit_model.specs.Bytes.{AreBytes}
use Rattle.siit_rules.specs.declared.rule.Family.{Family}
use Rattle.siit_rules.specs.declared.rule.Family.TheVariants.{Four, Six}
use Rattle.siit_rules.specs.declared.rule.Rule.TheVariants.{NotIp}
use Rattle.siit_roles.specs.Limits.{IsWithinLimits}
use Rattle.siit_roles.specs.declared.settings.Settings.{Settings}
use Rattle.siit_chain.specs.Outcome.{Outcome, dropped}
use Rattle.siit_chain.specs.declared.origin.End.{End}
use Rattle.siit_chain.specs.declared.origin.End.TheVariants.{Left, Right}
use Rattle.siit_device.specs.Laws.{measure}
use Rattle.siit_device.specs.Outcome.{outcome_of}

-- its settings, and the family of the link at its left; that at its right is the other one
pub record Placed : Type 0 where
  pub settings : Settings
  pub left : Family

abbrev pub other_family : Family → Family
other_family Four = Six
other_family Six = Four

-- the family of the link on a side
abbrev pub family_on : Placed → End → Family
family_on device Left = device.left
family_on device Right = other_family device.left

-- what every device and every packet is, as tests: the limits of a configuration, and numbers below 256
abbrev pub is_within_limits : Settings → Bool
is_within_limits settings =
    nat_le 68 settings.mtu4
    && (nat_le 1280 settings.mtu6
    && (nat_le 1280 settings.lowest
    && (nat_le settings.lowest settings.mtu6 && (nat_le 1 (length settings.pool4) && nat_le (length settings.pool4) 256))))

abbrev pub are_bytes : List ℕ → Bool
are_bytes bytes = list_all (λ byte. nat_lt byte 256) bytes

-- What a device makes of a packet that arrives on a side. Of what no device or packet is, nothing comes.
unfoldable pub outcome_at : Placed → End → List ℕ → (number : ℕ) → Outcome
outcome_at device side bytes number =
    if is_within_limits device.settings && are_bytes bytes
    then outcome_of device.settings (family_on device side) bytes number
    else dropped NotIp None

-- how long a packet may live: no fewer devices than can meet what comes of it, one after another
unfoldable pub life_of : List ℕ → ℕ
life_of bytes = measure bytes

-- What comes of a packet at a device is what one device makes of it.
abbrev pub DevicesAct : Type 0
DevicesAct = (device : Placed) (side : End) (bytes : List ℕ) (number : ℕ) → IsWithinLimits device.settings → AreBytes bytes
    → outcome_at device side bytes number ≡ outcome_of device.settings (family_on device side) bytes number
