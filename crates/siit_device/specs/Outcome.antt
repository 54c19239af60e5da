-- What comes of one packet at one device.
use Rattle.std.specs.Prelude.{ℕ, List, [], map, false, if◌then◌else◌, Option, Some, None, Result, Ok, Err}
use Rattle.siit_model.specs.Extensions.{Walked, Trouble, walk_of}
use Rattle.siit_model.specs.Ipv4.{ipv4_fields, ipv4_bytes}
use Rattle.siit_model.specs.Ipv6.{Ipv6Packet, ipv6_fields, ipv6_bytes}
use Rattle.siit_rules.specs.declared.rule.Family.{Family}
use Rattle.siit_rules.specs.declared.rule.Family.TheVariants.{Four, Six}
use Rattle.siit_rules.specs.declared.rule.Rule.{Rule}
use Rattle.siit_hairpin.specs.declared.hairpin.TurnAnswer.{TurnAnswer}
use Rattle.siit_hairpin.specs.declared.hairpin.TurnAnswer.TheVariants.{Pair}
use Rattle.siit_roles.specs.declared.settings.Settings.{Settings}
use Rattle.siit_chain.specs.Outcome.{Outcome, dropped, turned, through, pieces}
use Rattle.siit_device.specs.Answers.{sent_back4, sent_back6}
use Rattle.siit_device.specs.Arrival6.{Arrived, turn_for}
use Rattle.siit_device.specs.Backward.{is_number_used, is_sent_cut4, pieces4, whole4}
use Rattle.siit_device.specs.Forward.{is_cut6, pieces6, whole6}
use Rattle.siit_device.specs.Rules4.{first_rule4}
use Rattle.siit_device.specs.Rules6.{first_rule6}
use Rattle.siit_device.specs.Turned.{packet_turned}

abbrev pub outcome_by4 : Settings → List ℕ → Option Rule → Outcome
outcome_by4 settings bytes (Some rule) = dropped rule (sent_back4 settings rule bytes)
outcome_by4 settings bytes None =
    let packet = ipv4_fields bytes in
    if is_cut6 settings packet then pieces false (map ipv6_bytes (pieces6 settings packet))
    else through false (ipv6_bytes (whole6 settings packet))

-- a packet from the IPv4 side
unfoldable pub outcome4 : Settings → List ℕ → Outcome
outcome4 settings bytes = outcome_by4 settings bytes (first_rule4 settings bytes)

-- sent on to the IPv4 side
abbrev pub outcome_on4 : Settings → Arrived → (number : ℕ) → Outcome
outcome_on4 settings arrived number =
    let used = is_number_used arrived.walked.fragment in
    if is_sent_cut4 settings arrived then pieces used (map ipv4_bytes (pieces4 settings arrived number))
    else through used (ipv4_bytes (whole4 settings arrived number))

abbrev pub outcome_by_turn : Settings → Arrived → (number : ℕ) → TurnAnswer → Outcome
outcome_by_turn settings arrived number (Pair new) = turned (ipv6_bytes (packet_turned settings new arrived))
outcome_by_turn settings arrived number _ = outcome_on4 settings arrived number

-- the place of the first Segments Left that isn't 0, where the walk is accepted
abbrev pub segments_in : Result Walked Trouble → Option ℕ
segments_in (Ok walked) = walked.segments
segments_in (Err trouble) = None

abbrev pub outcome_by_walk : Settings → Ipv6Packet → (number : ℕ) → Result Walked Trouble → Outcome
outcome_by_walk settings packet number (Ok walked) =
    let arrived : Arrived = record { packet = packet; walked = walked } in
    outcome_by_turn settings arrived number (turn_for settings arrived)
outcome_by_walk settings packet number (Err trouble) = pieces false []

abbrev pub outcome_by6 : Settings → List ℕ → (number : ℕ) → Option Rule → Outcome
outcome_by6 settings bytes number (Some rule) =
    dropped rule (sent_back6 settings rule (segments_in (walk_of (ipv6_fields bytes).next (ipv6_fields bytes).body)) bytes)
outcome_by6 settings bytes number None =
    outcome_by_walk settings (ipv6_fields bytes) number (walk_of (ipv6_fields bytes).next (ipv6_fields bytes).body)

-- a packet from the IPv6 side, with the number that is its identification where it has no Fragment header
unfoldable pub outcome6 : Settings → List ℕ → (number : ℕ) → Outcome
outcome6 settings bytes number = outcome_by6 settings bytes number (first_rule6 settings bytes)

abbrev pub outcome_of : Settings → Family → List ℕ → (number : ℕ) → Outcome
outcome_of settings Four bytes number = outcome4 settings bytes
outcome_of settings Six bytes number = outcome6 settings bytes number
