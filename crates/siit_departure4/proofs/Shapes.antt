-- A packet that no rule drops is a fragment of a right shape.
use Rattle.std.proofs.Common.{◌≡◌, List, ℕ, Bool, true, false, if◌then◌else◌, Option, Some, None, Ok, ◌∙◌, ap, sym, refl}
use Rattle.siit_model.specs.Ipv6.{ipv6_fields}
use Rattle.siit_rules.specs.declared.rule.Rule.{Rule}
use Rattle.siit_rules.specs.declared.rule.Rule.TheVariants.{FragmentShape6}
use Rattle.siit_roles.specs.declared.settings.Settings.{Settings}
use Rattle.siit_v6to4.specs.To4.{walk_in}
use Rattle.siit_device.specs.Arrival6.{Arrived, is_misshapen6}
use Rattle.siit_device.specs.Rows.{first_of, or_rule}
use Rattle.siit_device.specs.Rules6.{arrived_rule6, bytes_rows6, first_rule6, header_rows6, packet_rule6, walk_rows6, walked_rule6}

neither : (a b : Option Rule) → or_rule a b ≡ None → (a ≡ None) × (b ≡ None)
neither None b e = (refl, e)
neither (Some rule) b e = (cc, cc)

not-this : (test : Bool) (rule : Rule) (later : Option Rule) → (if test then Some rule else later) ≡ None → test ≡ false
not-this true rule later e = cc
not-this false rule later e = refl

pub shape : (settings : Settings) (bytes : List ℕ) (arrival : Arrived) → arrival.packet ≡ ipv6_fields bytes → first_rule6 settings bytes ≡ None
    → walk_in bytes ≡ Ok arrival.walked → is_misshapen6 arrival ≡ false
unfolding first_rule6 arrived_rule6 walk_rows6
shape settings bytes arrival is_packet none walk =
    let packet = ipv6_fields bytes in
    let behind = neither (first_of bytes_rows6 bytes) (packet_rule6 settings packet) none in
    let walked = neither (first_of header_rows6 packet) (walked_rule6 settings packet (walk_in bytes)) behind.1 in
    let here : arrived_rule6 settings (record { packet = packet; walked = arrival.walked }) ≡ None = sym (ap (walked_rule6 settings packet) walk) ∙ walked.1 in
    let same : arrived_rule6 settings arrival ≡ None = ap (λ p. let a : Arrived = record { packet = p; walked = arrival.walked } in arrived_rule6 settings a) is_packet ∙ here in
    let rows = neither (first_of walk_rows6 arrival) _ same in
    not-this (is_misshapen6 arrival) FragmentShape6 _ rows.0
