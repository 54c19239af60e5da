-- The turn back to the IPv6 side.
use Rattle.std.proofs.Common.{◌≡◌, ℕ, List, Bool, true, false, not, ◌&&◌, ◌||◌, if◌then◌else◌, is_err, Option, Some, None, Result, Ok, Err, IsOk, IsErr, refl, sym, ap, ◌∙◌}
use Rattle.siit_model.specs.Ipv6.{ipv6_fields}
use Rattle.siit_addr.specs.declared.addr.Addresses6.{Addresses6}
use Rattle.siit_map.specs.Mapping.{ipv4_for}
use Rattle.siit_map.specs.declared.mapping.Means.{Means}
use Rattle.siit_rules.specs.declared.rule.Rule.{Rule}
use Rattle.siit_rules.specs.declared.rule.Rule.TheVariants.{QuoteShort6, QuoteBad6, NestedTwice6, QuoteType6, QuoteAddress6}
use Rattle.siit_quoted.specs.Refusals.{quote_refusal6}
use Rattle.siit_hairpin.specs.declared.hairpin.TurnAnswer.{TurnAnswer}
use Rattle.siit_hairpin.specs.declared.hairpin.TurnAnswer.TheVariants.{Not, Pair, Refused}
use Rattle.siit_hairpin.specs.Turn.{turn_of}
use Rattle.siit_roles.specs.declared.settings.Settings.{Settings}
use Rattle.siit_device.specs.Addresses.{address_of, to4}
use Rattle.siit_device.specs.Arrival6.{Arrived, arrived_fragment, arrived_part, is_error6, is_pair, quote_turn_for, turn_for, turns_back, source_standing}
use Rattle.siit_device.specs.Rows.{first_of, is_by}
use Rattle.siit_device.specs.Rules6.{quote_rows6}

pub standing_mapped : {T E : Type 0} (x : Result T E) (own to : ℕ) → IsOk x → (if is_err x then own else to) ≡ to
standing_mapped (Ok found) own to e = refl
standing_mapped (Err refusal) own to e = cc

pub standing_own : {T E : Type 0} (x : Result T E) (own to : ℕ) → IsErr x → (if is_err x then own else to) ≡ own
standing_own (Ok found) own to e = cc
standing_own (Err refusal) own to e = refl

not_back : (b : Bool) (turn : TurnAnswer) → b ≡ false → (if b then turn else Not) ≡ Not
not_back b turn e = rw e refl

is_back : (b : Bool) (turn : TurnAnswer) → b ≡ true → (if b then turn else Not) ≡ turn
is_back b turn e = rw e refl

pub turn_not : (settings : Settings) (arrived : Arrived) (b : Bool) → b ≡ (settings.hairpin && turns_back settings.role) → b ≡ false
    → Not ≡ turn_for settings arrived
turn_not settings arrived b is e = sym (not_back (settings.hairpin && turns_back settings.role) _ (sym is ∙ e))

pub turn_is : (settings : Settings) (arrived : Arrived) (b : Bool) (standing destination : ℕ) (turn : TurnAnswer)
    → b ≡ (settings.hairpin && turns_back settings.role) → b ≡ true
    → standing ≡ source_standing settings arrived → destination ≡ arrived.packet.destination
    → turn ≡ turn_of settings.mapping standing destination → turn ≡ turn_for settings arrived
turn_is settings arrived b standing destination turn is e stands to answer =
    answer ∙ ap (λ a. turn_of settings.mapping a destination) stands
    ∙ ap (λ d. turn_of settings.mapping (source_standing settings arrived) d) to
    ∙ sym (is_back (settings.hairpin && turns_back settings.role) _ (sym is ∙ e))

-- THE QUOTE

pub turned_quote : (settings : Settings) (part : List ℕ) (source destination : ℕ) (found : ℕ × Means) (answer : TurnAnswer)
    → source ≡ (ipv6_fields part).source → destination ≡ (ipv6_fields part).destination → ipv4_for settings.mapping destination ≡ Ok found
    → answer ≡ turn_of settings.mapping found.0 source → quote_turn_for settings part ≡ answer
turned_quote settings part source destination found answer is_source is_destination mapped is =
    let own : found.0 ≡ to4 settings (ipv6_fields part).destination = sym (ap address_of mapped) ∙ ap (to4 settings) is_destination in
    sym (is ∙ ap (λ a. turn_of settings.mapping a source) own
    ∙ ap (turn_of settings.mapping (to4 settings (ipv6_fields part).destination)) is_source)

pub not_pair : (answer : TurnAnswer) → ((new : Addresses6) → answer ≡ Pair new → ⊥) → is_pair answer ≡ false
not_pair Not none = refl
not_pair (Pair new) none = absurd (none new refl)
not_pair Refused none = refl

unturned_by : (error src dst turned quote : Bool) (refusal : Option Rule) → error ≡ true → refusal ≡ None → turned ≡ true → quote ≡ false
    → (if error && is_by QuoteShort6 refusal then Some QuoteShort6 else if error && is_by QuoteBad6 refusal then Some QuoteBad6
    else if error && is_by NestedTwice6 refusal then Some NestedTwice6 else if error && is_by QuoteType6 refusal then Some QuoteType6
    else if error && (src || dst || (turned && not quote)) then Some QuoteAddress6 else None) ≡ Some QuoteAddress6
unturned_by error true true turned quote refusal e r t q = rw (e, r) refl
unturned_by error true false turned quote refusal e r t q = rw (e, r) refl
unturned_by error false true turned quote refusal e r t q = rw (e, r) refl
unturned_by error false false turned quote refusal e r t q = rw (e, r, t, q) refl

-- a quote that isn't turned, of a packet that is
pub in_unturned : (settings : Settings) (arrived : Arrived) → is_error6 (arrived_fragment arrived) ≡ true → quote_refusal6 (arrived_part arrived) ≡ None
    → is_pair (turn_for settings arrived) ≡ true → is_pair (quote_turn_for settings (arrived_part arrived)) ≡ false
    → first_of (quote_rows6 settings) arrived ≡ Some QuoteAddress6
unfolding quote_rows6
in_unturned settings arrived =
    let quoted = ipv6_fields (arrived_part arrived) in
    unturned_by (is_error6 (arrived_fragment arrived)) (is_err (ipv4_for settings.mapping quoted.source)) (is_err (ipv4_for settings.mapping quoted.destination))
    (is_pair (turn_for settings arrived)) (is_pair (quote_turn_for settings (arrived_part arrived))) (quote_refusal6 (arrived_part arrived))
