-- The rules before the end of the walk are silent: none of them is answered.
use Rattle.std.proofs.Common.{◌≡◌, ℕ, List, Bool, true, false, if◌then◌else◌, Some, None, Result, Ok, Err, refl, ap, ◌∙◌}
use Rattle.siit_model.specs.Extensions.{Walked, Trouble, runs_short, out_of_order, behind_fragment}
use Rattle.siit_model.specs.Ipv6.{Ipv6Packet, is_short6, is_bad_header6}
use Rattle.siit_views.specs.Headers.{refusal6}
use Rattle.siit_rules.specs.declared.rule.Rule.{Rule}
use Rattle.siit_rules.specs.declared.rule.Rule.TheVariants.{Short6, BadHeader6, BadSource6, BadDestination6, ShortExt6, ExtOrder6, ExtAfterFragment6}
use Rattle.siit_upper.specs.Walks.{walk_by_rule}
use Rattle.siit_device.specs.Arrival6.{is_bad_source6, is_bad_destination6}
use Rattle.siit_device.specs.Rows.{first_of}
use Rattle.siit_device.specs.Rules6.{header_rows6}
use Rattle.siit_device.specs.Answered.{is_answered}

refusal_by : (a b : Bool) (rule : Rule) → (if a then Some Short6 else if b then Some BadHeader6 else None) ≡ Some rule → is_answered rule ≡ false
refusal_by true b rule e = let is : rule ≡ Short6 = cc in rw is refl
refusal_by false true rule e = let is : rule ≡ BadHeader6 = cc in rw is refl
refusal_by false false rule e = cc

header_by : (a b : Bool) (rule : Rule) → (if a then Some BadSource6 else if b then Some BadDestination6 else None) ≡ Some rule → is_answered rule ≡ false
header_by true b rule e = let is : rule ≡ BadSource6 = cc in rw is refl
header_by false true rule e = let is : rule ≡ BadDestination6 = cc in rw is refl
header_by false false rule e = cc

walk_by : (walk : Result Walked Trouble) (rule : Rule) → walk_by_rule walk ≡ Err rule → is_answered rule ≡ false
walk_by (Err runs_short) rule e = let is : rule ≡ ShortExt6 = cc in rw is refl
walk_by (Err out_of_order) rule e = let is : rule ≡ ExtOrder6 = cc in rw is refl
walk_by (Err behind_fragment) rule e = let is : rule ≡ ExtAfterFragment6 = cc in rw is refl
walk_by (Ok found) rule e = cc

silent : {P : Type 0} (found rule : Rule) → found ≡ rule → is_answered rule ≡ false → is_answered found ≡ true → P
silent found rule is e f = let no : is_answered found ≡ false = ap is_answered is ∙ e in absurd (cc)

pub refusal_silent : {P : Type 0} (bytes : List ℕ) (found rule : Rule) → found ≡ rule → refusal6 bytes ≡ Some rule → is_answered found ≡ true → P
refusal_silent bytes found rule is e = silent found rule is (refusal_by (is_short6 bytes) (is_bad_header6 bytes) rule e)

pub header_silent : {P : Type 0} (packet : Ipv6Packet) (found rule : Rule) → found ≡ rule → first_of header_rows6 packet ≡ Some rule → is_answered found ≡ true → P
unfolding header_rows6
header_silent packet found rule is e = silent found rule is (header_by (is_bad_source6 packet) (is_bad_destination6 packet) rule e)

pub walk_silent : {P : Type 0} (walk : Result Walked Trouble) (found rule : Rule) → found ≡ rule → walk_by_rule walk ≡ Err rule → is_answered found ≡ true → P
walk_silent walk found rule is e = silent found rule is (walk_by walk rule e)
