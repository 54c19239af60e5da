-- What departures promise is what comes of the packet.
use Rattle.std.proofs.Common.{◌≡◌, ℕ, List, map, Bool, true, false, not, ◌==◌, if◌then◌else◌, Option, Some, None, Ok, ◌∙◌, ap, sym, subst, refl}
use Rattle.std.proofs.lemmas.Bool.{cond-true, cond-false, eqb-true, not-false}
use Rattle.siit_addr.specs.declared.addr.Addr4.{Addr4}
use Rattle.siit_addr.specs.declared.addr.Addresses6.{Addresses6}
use Rattle.siit_fragments.specs.declared.cut.CutPlan.{CutPlan}
use Rattle.siit_hairpin.specs.declared.hairpin.TurnAnswer.{TurnAnswer}
use Rattle.siit_hairpin.specs.declared.hairpin.TurnAnswer.TheVariants.{Not, Pair, Refused}
use Rattle.siit_model.specs.Ipv4.{Ipv4Packet, ipv4_bytes, ipv4_fields}
use Rattle.siit_model.specs.Extensions.{walk_of}
use Rattle.siit_model.specs.Ipv6.{Ipv6Packet, ipv6_bytes, ipv6_fields, is_bad_header6, is_short6, version6_in}
use Rattle.siit_rules.specs.declared.rule.Rule.{Rule}
use Rattle.siit_rules.specs.declared.rule.Rule.TheVariants.{BadHeader6, Short6}
use Rattle.siit_roles.specs.declared.settings.Settings.{Settings}
use Rattle.siit_chain.specs.Outcome.{Outcome, turned, through, pieces}
use Rattle.siit_chain.specs.Verdicts.{Means, MeansPieces}
use Rattle.siit_chain.specs.declared.device.Verdict.TheVariants.{Turned}
use Rattle.siit_device.specs.Arrival6.{Arrived, is_pair, turn_for}
use Rattle.siit_device.specs.Backward.{is_number_used, is_sent_cut4, pieces4, whole4}
use Rattle.siit_device.specs.Forward.{is_cut6, pieces6, whole6}
use Rattle.siit_device.specs.Outcome.{outcome4, outcome6, outcome_by4, outcome_by6, outcome_by_turn, outcome_by_walk, outcome_on4}
use Rattle.siit_device.specs.Rules4.{first_rule4}
use Rattle.siit_device.specs.Rows.{or_rule}
use Rattle.siit_device.specs.Rules6.{bytes_rows6, first_rule6, packet_rule6}
use Rattle.siit_device.specs.Turned.{packet_turned}
use Rattle.siit_arrival6.specs.Arrived.{GoesBack, GoesOn, HasArrived6, HasWay6, arrival_of}
use Rattle.siit_arrival6.specs.declared.arrived.Arrived6.{Arrived6}
use Rattle.siit_arrival6.specs.declared.arrived.Error6.{Error6}
use Rattle.siit_arrival6.specs.declared.arrived.Way6.TheVariants.{On, Back}
use Rattle.siit_departure4.specs.Departed.{IsSent4}
use Rattle.siit_departure6.specs.Departed.{IsSent6}
use Rattle.siit_engine.specs.Verdicts.{IsSilent, verdict_of}

-- FROM IPV4

pub sent_to_6 : (settings : Settings) (old new : List ℕ) (plan : Option CutPlan) → first_rule4 settings old ≡ None → IsSent6 settings old plan new
    → Means (verdict_of plan false) new (outcome4 settings old)
unfolding outcome4
sent_to_6 settings old new None none sent =
    ap (λ rule. outcome_by4 settings old rule) none
    ∙ cond-false (is_cut6 settings (ipv4_fields old)) (pieces false (map ipv6_bytes (pieces6 settings (ipv4_fields old)))) (through false (ipv6_bytes (whole6 settings (ipv4_fields old)))) sent.0
    ∙ ap (λ bytes. through false bytes) (sym sent.1)
sent_to_6 settings old new (Some plan) none sent = record {
  packets = map ipv6_bytes (pieces6 settings (ipv4_fields old));
  is = ap (λ rule. outcome_by4 settings old rule) none
      ∙ cond-true (is_cut6 settings (ipv4_fields old)) (pieces false (map ipv6_bytes (pieces6 settings (ipv4_fields old)))) (through false (ipv6_bytes (whole6 settings (ipv4_fields old)))) sent.0;
  cut = sent.1;
}

-- FROM IPV6

arrived-outcome : (settings : Settings) (old : List ℕ) (number : ℕ) (arrived : Arrived6) → first_rule6 settings old ≡ None → HasArrived6 settings old arrived
    → outcome6 settings old number ≡ outcome_by_turn settings (arrival_of old arrived) number (turn_for settings (arrival_of old arrived))
unfolding outcome6
arrived-outcome settings old number arrived none has =
    ap (λ rule. outcome_by6 settings old number rule) none
    ∙ ap (λ walk. outcome_by_walk settings (ipv6_fields old) number walk) has.walk

not-turned : (settings : Settings) (arrival : Arrived) (number : ℕ) (turn : TurnAnswer) → is_pair turn ≡ false
    → outcome_by_turn settings arrival number turn ≡ outcome_on4 settings arrival number
not-turned settings arrival number Not is = refl
not-turned settings arrival number (Pair new) is = absurd cc
not-turned settings arrival number Refused is = refl

sent-on : (settings : Settings) (old new : List ℕ) (number : ℕ) (arrived : Arrived6) (plan : Option CutPlan) → IsSent4 settings old arrived number plan new
    → Means (verdict_of plan (is_number_used (arrival_of old arrived).walked.fragment)) new (outcome_on4 settings (arrival_of old arrived) number)
sent-on settings old new number arrived None sent =
    let arrival : Arrived = arrival_of old arrived in
    let used : Bool = is_number_used arrival.walked.fragment in
    cond-false (is_sent_cut4 settings arrival) (pieces used (map ipv4_bytes (pieces4 settings arrival number))) (through used (ipv4_bytes (whole4 settings arrival number))) sent.whole
    ∙ ap (λ bytes. through used bytes) (sym sent.packet)
sent-on settings old new number arrived (Some plan) sent =
    let arrival : Arrived = arrival_of old arrived in
    let used : Bool = is_number_used arrival.walked.fragment in
    record {
      packets = map ipv4_bytes (pieces4 settings arrival number);
      is = cond-true (is_sent_cut4 settings arrival) (pieces used (map ipv4_bytes (pieces4 settings arrival number))) (through used (ipv4_bytes (whole4 settings arrival number))) sent.is_cut;
      cut = sent.packets;
    }

module _ (settings : Settings) (old new : List ℕ) (number : ℕ) (arrived : Arrived6) (none : first_rule6 settings old ≡ None) (has : HasArrived6 settings old arrived) where
  pub sent_to_4 : (src : Option Addr4) (dst : Addr4) (error : Option Error6) (plan : Option CutPlan) (used : Bool) → arrived.way ≡ On src dst error
      → IsSent4 settings old arrived number plan new → used ≡ is_number_used (arrival_of old arrived).walked.fragment
      → Means (verdict_of plan used) new (outcome6 settings old number)
  sent_to_4 src dst error plan used way sent is_used =
      let on : GoesOn settings old arrived src dst error = subst (λ w. HasWay6 settings old arrived w) way has.way in
      let outcome : outcome6 settings old number ≡ outcome_on4 settings (arrival_of old arrived) number =
      arrived-outcome settings old number arrived none has
      ∙ not-turned settings (arrival_of old arrived) number (turn_for settings (arrival_of old arrived)) on.not_turned in
      subst (λ o. Means (verdict_of plan used) new o) (sym outcome)
      (subst (λ u. Means (verdict_of plan u) new (outcome_on4 settings (arrival_of old arrived) number)) (sym is_used) (sent-on settings old new number arrived plan sent))

  pub sent_back : (to : Addresses6) (quote : Option Addresses6) → arrived.way ≡ Back to quote
      → new ≡ ipv6_bytes (packet_turned settings to (arrival_of old arrived)) → Means Turned new (outcome6 settings old number)
  sent_back to quote way is =
      let back : GoesBack settings old arrived to quote = subst (λ w. HasWay6 settings old arrived w) way has.way in
      arrived-outcome settings old number arrived none has
      ∙ ap (λ turn. outcome_by_turn settings (arrival_of old arrived) number turn) back.pair
      ∙ ap (λ bytes. turned bytes) (sym is)

-- a packet that goes on is not dropped
pub not-silent : (plan : Option CutPlan) (used : Bool) → IsSilent (verdict_of plan used) → ⊥
not-silent None used silent = silent
not-silent (Some plan) used silent = silent

-- a packet that no rule drops is of version 6
no-bad_header : (short bad : Bool) (later : Option Rule) → or_rule (if short then Some Short6 else if bad then Some BadHeader6 else None) later ≡ None → bad ≡ false
no-bad_header true bad later none = absurd cc
no-bad_header false true later none = absurd cc
no-bad_header false false later none = refl

pub version-is : (settings : Settings) (bytes : List ℕ) → first_rule6 settings bytes ≡ None → version6_in bytes ≡ 6
unfolding first_rule6 bytes_rows6
version-is settings bytes none =
    eqb-true (version6_in bytes) 6
    (not-false (version6_in bytes == 6) (no-bad_header (is_short6 bytes) (is_bad_header6 bytes) (packet_rule6 settings (ipv6_fields bytes)) none))
