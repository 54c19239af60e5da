-- What comes of a packet at a device in a chain.
use Rattle.std.proofs.Common.{◌≡◌, ℕ, zero, suc, ◌<◌, ◌≤◌, List, [], ◌∷◌, length, Bool, true, false, ◌&&◌, nat_le, nat_lt, if◌then◌else◌, None, ◌∙◌, ap, sym, subst, refl, arith}
use Rattle.std.proofs.lemmas.Bool.{and_from, and_parts, cond-true, le-leb, leb-true, lt-ltb, ltb-true}
use Rattle.siit_checksum.proofs.Fields.{bytes-cons}
use Rattle.siit_model.specs.Bytes.{AreBytes}
use Rattle.siit_rules.specs.declared.rule.Family.{Family}
use Rattle.siit_rules.specs.declared.rule.Rule.TheVariants.{NotIp}
use Rattle.siit_roles.specs.Limits.{IsWithinLimits}
use Rattle.siit_roles.specs.declared.settings.Settings.{Settings}
use Rattle.siit_chain.specs.Outcome.{Falls, Outcome, dropped}
use Rattle.siit_chain.specs.declared.origin.End.{End}
use Rattle.siit_device.specs.Laws.{WhatComesLivesLess, measure}
use Rattle.siit_device.specs.Outcome.{outcome_of}
use Rattle.siit_engine.specs.Placed.{DevicesAct, Placed, are_bytes, family_on, is_within_limits, life_of, outcome_at}

-- THE TESTS

bytes-pass : (bytes : List ℕ) → AreBytes bytes → are_bytes bytes ≡ true
bytes-pass [] small = refl
bytes-pass (x ∷ xs) small = and_from (nat_lt x 256) (are_bytes xs) (lt-ltb x 256 (small 0)) (bytes-pass xs (λ place. small (suc place)))

passed-bytes : (bytes : List ℕ) → are_bytes bytes ≡ true → AreBytes bytes
passed-bytes [] is = λ (place : ℕ). omega arith
passed-bytes (x ∷ xs) is =
    let both = and_parts (nat_lt x 256) (are_bytes xs) is in
    bytes-cons x xs (ltb-true x 256 both.0) (passed-bytes xs both.1)

limits-pass : (settings : Settings) → IsWithinLimits settings → is_within_limits settings ≡ true
limits-pass settings limits =
    and_from (nat_le 68 settings.mtu4) _ (le-leb 68 settings.mtu4 limits.mtu4)
    (and_from (nat_le 1280 settings.mtu6) _ (le-leb 1280 settings.mtu6 limits.mtu6)
    (and_from (nat_le 1280 settings.lowest) _ (le-leb 1280 settings.lowest limits.lowest)
    (and_from (nat_le settings.lowest settings.mtu6) _ (le-leb settings.lowest settings.mtu6 limits.order)
    (and_from (nat_le 1 (length settings.pool4)) _ (le-leb 1 (length settings.pool4) limits.some_address)
    (le-leb (length settings.pool4) 256 limits.few_addresses)))))

passed-limits : (settings : Settings) → is_within_limits settings ≡ true → IsWithinLimits settings
passed-limits settings is =
    let one = and_parts (nat_le 68 settings.mtu4) _ is in
    let two = and_parts (nat_le 1280 settings.mtu6) _ one.1 in
    let three = and_parts (nat_le 1280 settings.lowest) _ two.1 in
    let four = and_parts (nat_le settings.lowest settings.mtu6) _ three.1 in
    let five = and_parts (nat_le 1 (length settings.pool4)) _ four.1 in
    record {
      mtu4 = leb-true 68 settings.mtu4 one.0;
      mtu6 = leb-true 1280 settings.mtu6 two.0;
      lowest = leb-true 1280 settings.lowest three.0;
      order = leb-true settings.lowest settings.mtu6 four.0;
      some_address = leb-true 1 (length settings.pool4) five.0;
      few_addresses = leb-true (length settings.pool4) 256 five.1;
    }

-- WHAT COMES OF A PACKET

pub devices_act : DevicesAct
unfolding outcome_at
devices_act device side bytes number limits small =
    cond-true (is_within_limits device.settings && are_bytes bytes) (outcome_of device.settings (family_on device side) bytes number) (dropped NotIp None)
    (and_from (is_within_limits device.settings) (are_bytes bytes) (limits-pass device.settings limits) (bytes-pass bytes small))

falls-where : (law : WhatComesLivesLess) (settings : Settings) (side : Family) (packet : List ℕ) (number : ℕ) (limits small : Bool)
    → is_within_limits settings ≡ limits → are_bytes packet ≡ small
    → Falls measure packet (if limits && small then outcome_of settings side packet number else dropped NotIp None)
falls-where law settings side packet number false small is_limits is_small = tt
falls-where law settings side packet number true false is_limits is_small = tt
falls-where law settings side packet number true true is_limits is_small =
    law settings side packet number (passed-limits settings is_limits) (passed-bytes packet is_small)

-- whatever comes of a packet may live less long
pub falls-by : (law : WhatComesLivesLess) (device : Placed) (side : End) (packet : List ℕ) (number : ℕ) → Falls life_of packet (outcome_at device side packet number)
unfolding outcome_at life_of
falls-by law device side packet number =
    falls-where law device.settings (family_on device side) packet number (is_within_limits device.settings) (are_bytes packet) refl refl
