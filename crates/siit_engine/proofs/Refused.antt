-- What comes of a packet that a rule drops.
use Rattle.std.proofs.Common.{◌≡◌, ℕ, ◌≤◌, List, length, Some, ap, arith}
use Rattle.siit_model.specs.Bytes.{part}
use Rattle.siit_model.specs.Ipv6.{payload_length_in}
use Rattle.siit_rules.specs.declared.rule.Rule.{Rule}
use Rattle.siit_upper.specs.declared.walk.Walk.{Walk}
use Rattle.siit_fragments.proofs.Parts.{length-part}
use Rattle.siit_roles.specs.declared.settings.Settings.{Settings}
use Rattle.siit_chain.specs.Outcome.{dropped}
use Rattle.siit_v6to4.specs.To4.{walk_in}
use Rattle.siit_device.specs.Answers.{sent_back4, sent_back6}
use Rattle.siit_device.specs.Outcome.{outcome4, outcome6, outcome_by4, outcome_by6, segments_in}
use Rattle.siit_device.specs.Rules4.{first_rule4}
use Rattle.siit_device.specs.Rules6.{first_rule6}
use Rattle.siit_arrival6.specs.Arrived.{HasWalk}

-- the rule that holds first decides
pub refused4 : (settings : Settings) (old : List ℕ) (rule : Rule) → first_rule4 settings old ≡ Some rule
    → outcome4 settings old ≡ dropped rule (sent_back4 settings rule old)
unfolding outcome4
refused4 settings old rule is = ap (λ first. outcome_by4 settings old first) is

pub refused6 : (settings : Settings) (old : List ℕ) (number : ℕ) (rule : Rule) → first_rule6 settings old ≡ Some rule
    → outcome6 settings old number ≡ dropped rule (sent_back6 settings rule (segments_in (walk_in old)) old)
unfolding outcome6
refused6 settings old number rule is = ap (λ first. outcome_by6 settings old number first) is

-- a walk ends within the packet
pub ends-within : (bytes : List ℕ) (walk : Walk) → HasWalk bytes walk → walk.at ≤ length (part bytes 40 (payload_length_in bytes))
ends-within bytes walk has =
    let size = length-part bytes 40 (payload_length_in bytes) in
    omega (arith, size, has.within, has.lengths.fits)
