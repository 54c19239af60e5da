-- What a device sends back about a packet that it drops.
use Rattle.std.specs.Prelude.{ℕ, ◌+◌, ◌-◌, List, max, Option, unwrap_or}
use Rattle.siit_model.specs.Ipv4.{Ipv4Packet, ipv4_fields}
use Rattle.siit_rules.specs.declared.rule.Rule.{Rule}
use Rattle.siit_rules.specs.declared.rule.Rule.TheVariants.{TooBig4, TooBig6, SegmentsLeft6}
use Rattle.siit_roles.specs.declared.settings.Settings.{Settings}
use Rattle.siit_errors.specs.Errors.{error_for4, error_for6}
use Rattle.siit_device.specs.Arrival4.{growth4}

-- bytes 4 to 7 of the answer, as a number: the MTU that would have done
abbrev pub told_to_4 : Settings → Rule → Ipv4Packet → ℕ
told_to_4 settings TooBig4 packet = settings.mtu6 - growth4 packet
told_to_4 settings _ packet = 0

-- the MTU, or the place of Segments Left
abbrev pub told_to_6 : Settings → Rule → Option ℕ → ℕ
told_to_6 settings TooBig6 segments = max 1280 (settings.mtu4 + 20)
told_to_6 settings SegmentsLeft6 segments = unwrap_or segments 0
told_to_6 settings _ segments = 0

-- the answer to a packet from the IPv4 side, or none
abbrev pub sent_back4 : Settings → Rule → List ℕ → Option (List ℕ)
sent_back4 settings rule bytes = error_for4 rule settings.address4.0 (told_to_4 settings rule (ipv4_fields bytes)) bytes

-- the answer to a packet from the IPv6 side, whose walk may have found a route with a segment left
abbrev pub sent_back6 : Settings → Rule → (segments : Option ℕ) → List ℕ → Option (List ℕ)
sent_back6 settings rule segments bytes = error_for6 rule settings.address6.0 (told_to_6 settings rule segments) bytes
