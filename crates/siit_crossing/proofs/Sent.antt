-- What a device sends on, and what it sends back.
use Rattle.std.proofs.Common.{◌≡◌, ℕ, List, [], ◌∷◌, map, Bool, true, false, if◌then◌else◌, Option, Some, None, Result, Ok, Err, refl, ap, ◌∙◌}
use Rattle.siit_model.specs.Extensions.{Trouble, Walked}
use Rattle.siit_model.specs.Ipv4.{Ipv4Packet, ipv4_bytes, ipv4_fields}
use Rattle.siit_model.specs.Ipv6.{Ipv6Packet, ipv6_bytes, ipv6_fields}
use Rattle.siit_rules.specs.declared.rule.Rule.{Rule}
use Rattle.siit_hairpin.specs.declared.hairpin.TurnAnswer.{TurnAnswer}
use Rattle.siit_hairpin.specs.declared.hairpin.TurnAnswer.TheVariants.{Not, Pair, Refused}
use Rattle.siit_roles.specs.declared.settings.Settings.{Settings}
use Rattle.siit_v6to4.specs.To4.{walk_in}
use Rattle.siit_chain.specs.Outcome.{turned, through, pieces}
use Rattle.siit_device.specs.Arrival6.{Arrived, is_pair, turn_for}
use Rattle.siit_device.specs.Backward.{is_number_used, is_sent_cut4, packets_to_4, pieces4, whole4}
use Rattle.siit_device.specs.Forward.{is_cut6, pieces6, whole6}
use Rattle.siit_device.specs.Outcome.{outcome4, outcome6, outcome_by4, outcome_by6, outcome_by_turn, outcome_by_walk, outcome_on4}
use Rattle.siit_device.specs.Rules4.{first_rule4}
use Rattle.siit_device.specs.Rules6.{first_rule6}
use Rattle.siit_crossing.specs.Sent.{DevicesSendTo4, DevicesSendTo6, HasPair, PairsAloneTurn, arrived_in, packets_sent}

-- TO IPV6

sent-whole6 : (cut : Bool) (parts : List Ipv6Packet) (whole : Ipv6Packet)
    → packets_sent (if cut then pieces false (map ipv6_bytes parts) else through false (ipv6_bytes whole)) ≡ Some (map ipv6_bytes (if cut then parts else whole ∷ []))
sent-whole6 true parts whole = refl
sent-whole6 false parts whole = refl

pub devices_send_to_6 : DevicesSendTo6
unfolding outcome4
devices_send_to_6 settings bytes number none =
    ap (λ rule. packets_sent (outcome_by4 settings bytes rule)) none
    ∙ sent-whole6 (is_cut6 settings (ipv4_fields bytes)) (pieces6 settings (ipv4_fields bytes)) (whole6 settings (ipv4_fields bytes))

-- TO IPV4

sent-whole4 : (cut used : Bool) (parts : List Ipv4Packet) (whole : Ipv4Packet)
    → packets_sent (if cut then pieces used (map ipv4_bytes parts) else through used (ipv4_bytes whole)) ≡ Some (map ipv4_bytes (if cut then parts else whole ∷ []))
sent-whole4 true used parts whole = refl
sent-whole4 false used parts whole = refl

sent-on4 : (settings : Settings) (arrived : Arrived) (number : ℕ) → packets_sent (outcome_on4 settings arrived number) ≡ Some (map ipv4_bytes (packets_to_4 settings arrived number))
sent-on4 settings arrived number =
    sent-whole4 (is_sent_cut4 settings arrived) (is_number_used arrived.walked.fragment) (pieces4 settings arrived number) (whole4 settings arrived number)

sent-by_turn : (settings : Settings) (arrived : Arrived) (number : ℕ) (answer : TurnAnswer) → is_pair answer ≡ false
    → packets_sent (outcome_by_turn settings arrived number answer) ≡ Some (map ipv4_bytes (packets_to_4 settings arrived number))
sent-by_turn settings arrived number (Pair new) no_pair = absurd cc
sent-by_turn settings arrived number Not no_pair = sent-on4 settings arrived number
sent-by_turn settings arrived number Refused no_pair = sent-on4 settings arrived number

pub devices_send_to_4 : DevicesSendTo4
unfolding outcome6
devices_send_to_4 settings bytes number walked none walk no_pair =
    ap (λ rule. packets_sent (outcome_by6 settings bytes number rule)) none
    ∙ ap (λ result. packets_sent (outcome_by_walk settings (ipv6_fields bytes) number result)) walk
    ∙ sent-by_turn settings (arrived_in bytes walked) number (turn_for settings (arrived_in bytes walked)) no_pair

-- BACK

not-back : (cut used : Bool) (parts : List (List ℕ)) (whole packet : List ℕ) → (if cut then pieces used parts else through used whole) ≡ turned packet → ⊥
not-back true used parts whole packet is = cc
not-back false used parts whole packet is = cc

not-back4 : (settings : Settings) (bytes packet : List ℕ) (rule : Option Rule) → outcome_by4 settings bytes rule ≡ turned packet → ⊥
not-back4 settings bytes packet (Some rule) is = cc
not-back4 settings bytes packet None is = not-back (is_cut6 settings (ipv4_fields bytes)) false _ _ packet is

back-by_turn : (settings : Settings) (arrived : Arrived) (number : ℕ) (packet : List ℕ) (answer : TurnAnswer) → outcome_by_turn settings arrived number answer ≡ turned packet
    → is_pair answer ≡ true
back-by_turn settings arrived number packet (Pair new) is = refl
back-by_turn settings arrived number packet Not is = absurd (not-back (is_sent_cut4 settings arrived) (is_number_used arrived.walked.fragment) _ _ packet is)
back-by_turn settings arrived number packet Refused is = absurd (not-back (is_sent_cut4 settings arrived) (is_number_used arrived.walked.fragment) _ _ packet is)

back-by_walk : (settings : Settings) (bytes : List ℕ) (number : ℕ) (packet : List ℕ) (result : Result Walked Trouble) → walk_in bytes ≡ result
    → outcome_by_walk settings (ipv6_fields bytes) number result ≡ turned packet → HasPair settings bytes
back-by_walk settings bytes number packet (Err trouble) walk is = absurd cc
back-by_walk settings bytes number packet (Ok walked) walk is = record {
  walked = walked;
  walk = walk;
  pair = back-by_turn settings (arrived_in bytes walked) number packet (turn_for settings (arrived_in bytes walked)) is;
}

back-by6 : (settings : Settings) (bytes : List ℕ) (number : ℕ) (packet : List ℕ) (rule : Option Rule) → outcome_by6 settings bytes number rule ≡ turned packet → HasPair settings bytes
back-by6 settings bytes number packet (Some rule) is = absurd cc
back-by6 settings bytes number packet None is = back-by_walk settings bytes number packet (walk_in bytes) refl is

pub pairs_alone_turn : PairsAloneTurn
unfolding outcome4 outcome6
pairs_alone_turn = record {
  four = λ settings bytes packet number is. not-back4 settings bytes packet (first_rule4 settings bytes) is;
  six = λ settings bytes packet number is. back-by6 settings bytes number packet (first_rule6 settings bytes) is;
}
