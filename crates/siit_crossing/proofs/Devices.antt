-- What a device in its place makes of a packet that it doesn't drop.
use Rattle.std.proofs.Common.{◌≡◌, ◌⊎◌, inl, inr, ⊎_elim, ℕ, List, [], ◌∷◌, length, map, Bool, true, false, ◌&&◌, nat_le, nat_lt, if◌then◌else◌, Option, Some, None, refl, ap, sym, subst, ◌∙◌, arith, leb-true, ltb-true}
use Rattle.std.proofs.lemmas.Bool.{and_parts}
use Rattle.siit_checksum.proofs.Fields.{bytes-cons}
use Rattle.siit_model.specs.Bytes.{AreBytes}
use Rattle.siit_model.specs.Ipv4.{ipv4_bytes, ipv4_fields}
use Rattle.siit_model.specs.Ipv6.{ipv6_bytes, ipv6_fields}
use Rattle.siit_rules.specs.declared.rule.Family.TheVariants.{Four, Six}
use Rattle.siit_rules.specs.declared.rule.Rule.{Rule}
use Rattle.siit_rules.specs.declared.rule.Rule.TheVariants.{NotIp}
use Rattle.siit_roles.specs.Limits.{IsWithinLimits}
use Rattle.siit_roles.specs.declared.settings.Settings.{Settings}
use Rattle.siit_chain.specs.Outcome.{Outcome, dropped}
use Rattle.siit_chain.specs.declared.origin.End.{End}
use Rattle.siit_device.specs.Answers.{sent_back4}
use Rattle.siit_device.specs.Forward.{packets_to_6}
use Rattle.siit_device.specs.Outcome.{outcome4, outcome6, outcome_by4, outcome_by6, outcome_of}
use Rattle.siit_device.specs.Rules4.{first_rule4}
use Rattle.siit_device.specs.Rules6.{first_rule6}
use Rattle.siit_arrival4.specs.Unruled.{RulesLeave4}
use Rattle.siit_arrival6.specs.Unruled.{IsLeft6, RulesLeave6}
use Rattle.siit_cutting.specs.Laws.{given_by, given_to_4}
use Rattle.siit_engine.specs.Placed.{Placed, are_bytes, family_on, is_within_limits, outcome_at}
use Rattle.siit_crossing.specs.Across.{GoesTo4, GoesTo6, IsNotTurned}
use Rattle.siit_crossing.specs.Sent.{packets_sent}
use Rattle.siit_crossing.proofs.Crossed.{IsDropped, IsSentOn}
use Rattle.siit_crossing.proofs.Sent.{devices_send_to_4, devices_send_to_6}

-- THE TESTS OF EVERY DEVICE AND PACKET

passed-bytes : (bytes : List ℕ) → are_bytes bytes ≡ true → AreBytes bytes
passed-bytes [] is = λ (place : ℕ). omega arith
passed-bytes (x ∷ xs) is =
    let both = and_parts (nat_lt x 256) (are_bytes xs) is in
    bytes-cons x xs (ltb-true x 256 both.0) (passed-bytes xs both.1)

passed-limits : (settings : Settings) → is_within_limits settings ≡ true → IsWithinLimits settings
passed-limits settings is =
    let one = and_parts (nat_le 68 settings.mtu4) _ is in
    let two = and_parts (nat_le 1280 settings.mtu6) _ one.1 in
    let three = and_parts (nat_le 1280 settings.lowest) _ two.1 in
    let four = and_parts (nat_le settings.lowest settings.mtu6) _ three.1 in
    let five = and_parts (nat_le 1 (length settings.pool4)) _ four.1 in
    record {
      mtu4 = leb-true 68 settings.mtu4 one.0;
      mtu6 = leb-true 1280 settings.mtu6 two.0;
      lowest = leb-true 1280 settings.lowest three.0;
      order = leb-true settings.lowest settings.mtu6 four.0;
      some_address = leb-true 1 (length settings.pool4) five.0;
      few_addresses = leb-true (length settings.pool4) 256 five.1;
    }

-- what comes of a packet is what one device makes of it
record Acts (settings : Settings) (bytes : List ℕ) (outcome made : Outcome) : Type 0 where
  limits : IsWithinLimits settings
  small : AreBytes bytes
  is : outcome ≡ made

acts-where : (settings : Settings) (bytes : List ℕ) (made : Outcome) (within small : Bool) → is_within_limits settings ≡ within → are_bytes bytes ≡ small
    → IsDropped (if within && small then made else dropped NotIp None) ⊎ Acts settings bytes (if within && small then made else dropped NotIp None) made
acts-where settings bytes made false small is_within is_small = inl tt
acts-where settings bytes made true false is_within is_small = inl tt
acts-where settings bytes made true true is_within is_small = inr (record { limits = passed-limits settings is_within; small = passed-bytes bytes is_small; is = refl })

acts : (device : Placed) (side : End) (bytes : List ℕ) (number : ℕ) → IsDropped (outcome_at device side bytes number)
    ⊎ Acts device.settings bytes (outcome_at device side bytes number) (outcome_of device.settings (family_on device side) bytes number)
unfolding outcome_at
acts device side bytes number =
    acts-where device.settings bytes (outcome_of device.settings (family_on device side) bytes number) (is_within_limits device.settings) (are_bytes bytes) refl refl

-- TO IPV6

abbrev pub bytes_to_6 : Settings → List ℕ → (number : ℕ) → List (List ℕ)
bytes_to_6 settings bytes number = map ipv6_bytes (packets_to_6 settings (ipv4_fields bytes))

ruled4 : (settings : Settings) (bytes : List ℕ) (number : ℕ) (rule : Rule) → first_rule4 settings bytes ≡ Some rule → outcome_of settings Four bytes number ≡ dropped rule (sent_back4 settings rule bytes)
unfolding outcome4
ruled4 settings bytes number rule is = ap (λ r. outcome_by4 settings bytes r) is

by-rule4 : RulesLeave4 → (settings : Settings) (bytes : List ℕ) (number : ℕ) (outcome : Outcome) (rule : Option Rule) → first_rule4 settings bytes ≡ rule
    → Acts settings bytes outcome (outcome_of settings Four bytes number) → IsDropped outcome ⊎ IsSentOn outcome (bytes_to_6 settings bytes number) (GoesTo6 settings bytes)
by-rule4 leave settings bytes number outcome (Some rule) is act = inl (subst IsDropped (sym (act.is ∙ ruled4 settings bytes number rule is)) tt)
by-rule4 leave settings bytes number outcome None is act = inr (record {
  sent = ap packets_sent act.is ∙ devices_send_to_6 settings bytes number is;
  clean = record { limits = act.limits; small = act.small; no_rule = is; left = leave settings bytes act.small is };
})

pub sends-to_6 : RulesLeave4 → (device : Placed) (side : End) → family_on device side ≡ Four → (bytes : List ℕ) (number : ℕ)
    → IsDropped (outcome_at device side bytes number) ⊎ IsSentOn (outcome_at device side bytes number) (bytes_to_6 device.settings bytes number) (GoesTo6 device.settings bytes)
sends-to_6 leave device side four bytes number =
    ⊎_elim (λ out. inl out)
    (λ act. by-rule4 leave device.settings bytes number (outcome_at device side bytes number) (first_rule4 device.settings bytes) refl
    (record { limits = act.limits; small = act.small; is = act.is ∙ ap (λ family. outcome_of device.settings family bytes number) four }))
    (acts device side bytes number)

-- TO IPV4

abbrev pub bytes_to_4 : Settings → List ℕ → (number : ℕ) → List (List ℕ)
bytes_to_4 settings bytes number = map ipv4_bytes (given_to_4 settings (ipv6_fields bytes, number))

ruled6 : (settings : Settings) (bytes : List ℕ) (number : ℕ) (rule : Rule) → first_rule6 settings bytes ≡ Some rule → IsDropped (outcome_of settings Six bytes number)
unfolding outcome6
ruled6 settings bytes number rule is = subst IsDropped (sym (ap (λ r. outcome_by6 settings bytes number r) is)) tt

by-rule6 : RulesLeave6 → (settings : Settings) (bytes : List ℕ) (number : ℕ) (outcome : Outcome) (rule : Option Rule) → first_rule6 settings bytes ≡ rule → IsNotTurned settings (ipv6_fields bytes)
    → Acts settings bytes outcome (outcome_of settings Six bytes number) → IsDropped outcome ⊎ IsSentOn outcome (bytes_to_4 settings bytes number) (GoesTo4 settings bytes)
by-rule6 leave settings bytes number outcome (Some rule) is stays act = inl (subst IsDropped (sym act.is) (ruled6 settings bytes number rule is))
by-rule6 leave settings bytes number outcome None is stays act =
    let left : IsLeft6 settings bytes = leave settings bytes act.small is in
    let no_pair = stays left.walked left.walk in
    inr (record {
      sent =
          ap packets_sent act.is ∙ devices_send_to_4 settings bytes number left.walked is left.walk no_pair
          ∙ ap (λ result. Some (map ipv4_bytes (given_by settings (ipv6_fields bytes) number result))) (sym left.walk);
      clean = record { limits = act.limits; small = act.small; no_rule = is; left = left; no_pair = no_pair };
    })

pub sends-to_4 : RulesLeave6 → (device : Placed) (side : End) → family_on device side ≡ Six → (bytes : List ℕ) (number : ℕ) → IsNotTurned device.settings (ipv6_fields bytes)
    → IsDropped (outcome_at device side bytes number) ⊎ IsSentOn (outcome_at device side bytes number) (bytes_to_4 device.settings bytes number) (GoesTo4 device.settings bytes)
sends-to_4 leave device side six bytes number stays =
    ⊎_elim (λ out. inl out)
    (λ act. by-rule6 leave device.settings bytes number (outcome_at device side bytes number) (first_rule6 device.settings bytes) refl stays
    (record { limits = act.limits; small = act.small; is = act.is ∙ ap (λ family. outcome_of device.settings family bytes number) six }))
    (acts device side bytes number)
