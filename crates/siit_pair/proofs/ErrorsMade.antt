-- What a device makes of an ICMP error, and where it makes nothing.
use Rattle.std.proofs.Common.{◌≡◌, ℕ, List, Bool, true, false, ◌&&◌, Some, None, Ok, Err, refl, ap, ◌∙◌, sym}
use Rattle.std.specs.Prelude.{is_none, is_ok, IsSome}
use Rattle.siit_model.specs.Bytes.{field8, field32}
use Rattle.siit_model.specs.Ipv4.{ipv4_fields}
use Rattle.siit_model.specs.Ipv6.{ipv6_fields}
use Rattle.siit_rules.specs.declared.rule.Rule.{Rule}
use Rattle.siit_icmp.specs.Icmp.{icmp_to_4, icmp_to_6, pointer_to_4, pointer_to_6}
use Rattle.siit_icmp.specs.declared.kinds.NewKind.{NewKind}
use Rattle.siit_icmp.specs.declared.kinds.Rest.{Rest}
use Rattle.siit_icmp.specs.declared.kinds.Rest.TheVariants.{Same, Zero, Mtu, Pointer, PointerSix, Length}
use Rattle.siit_map.specs.Mapping.{ipv4_for, ipv6_for}
use Rattle.siit_quoted.specs.Refusals.{quote_refusal4, quote_refusal6}
use Rattle.siit_roles.specs.declared.settings.Settings.{Settings}
use Rattle.siit_device.specs.Arrival4.{quoted_part4}
use Rattle.siit_device.specs.Arrival6.{quoted_part6}
use Rattle.siit_arrival4.specs.Arrived.{HasError4}
use Rattle.siit_arrival4.specs.declared.arrived.Error4.{Error4}
use Rattle.siit_arrival6.specs.Arrived.{HasError6}
use Rattle.siit_arrival6.specs.declared.arrived.Error6.{Error6}
use Rattle.siit_pair.specs.Same.{error_backward, error_forward, has_pointer4, has_pointer6, is_mapped4, is_mapped6, is_translated4, is_translated6, unsummed_error4, unsummed_error6}

-- TO IPv6

pub forward-no-row : (settings : Settings) (message : List ℕ) (rule : Rule) → icmp_to_6 (field8 message 0) (field8 message 1) ≡ Err rule
    → error_forward settings message ≡ None
unfolding error_forward
forward-no-row settings message rule e = rw e refl

pub forward-none : (settings : Settings) (message : List ℕ) (new : NewKind) → icmp_to_6 (field8 message 0) (field8 message 1) ≡ Ok new
    → is_translated6 settings new message ≡ false → error_forward settings message ≡ None
unfolding error_forward
forward-none settings message new e isnt = rw (e, isnt) refl

pub forward-some : (settings : Settings) (message : List ℕ) (new : NewKind) → icmp_to_6 (field8 message 0) (field8 message 1) ≡ Ok new
    → is_translated6 settings new message ≡ true → error_forward settings message ≡ Some (unsummed_error6 settings new message)
unfolding error_forward
forward-some settings message new e holds = rw (e, holds) refl

pointer-found6 : (rest : Rest) (message : List ℕ) → (rest ≡ Pointer → IsSome (pointer_to_6 (field8 message 4))) → has_pointer6 rest message ≡ true
pointer-found6 Same message has = refl
pointer-found6 Zero message has = refl
pointer-found6 Mtu message has = refl
pointer-found6 Pointer message has = has refl
pointer-found6 PointerSix message has = refl
pointer-found6 Length message has = refl

-- all tests pass
three : (a b c : Bool) → a ≡ true → b ≡ true → c ≡ true → ((a && b) && c) ≡ true
three a b c is_a is_b is_c = rw (is_a, is_b, is_c) refl

two : (a b : Bool) → a ≡ true → b ≡ true → (a && b) ≡ true
two a b is_a is_b = rw (is_a, is_b) refl

pub forward-made : (settings : Settings) (message : List ℕ) (error : Error4) → HasError4 settings message error
    → error_forward settings message ≡ Some (unsummed_error6 settings error.new message)
forward-made settings message error has =
    let part : List ℕ = quoted_part4 message in
    forward-some settings message error.new has.kind
    (three (has_pointer6 error.new.rest message) (is_none (quote_refusal4 part)) (is_mapped6 settings (ipv4_fields part))
    (pointer-found6 error.new.rest message has.pointer)
    (ap is_none has.accepted)
    (two (is_ok (ipv6_for settings.mapping (ipv4_fields part).source)) (is_ok (ipv6_for settings.mapping (ipv4_fields part).destination))
    has.quote.source_ok has.quote.destination_ok))

-- a test fails
first-fails : (a b c : Bool) → a ≡ false → ((a && b) && c) ≡ false
first-fails a b c e = rw e refl

second-fails : (a b c : Bool) → b ≡ false → ((a && b) && c) ≡ false
second-fails true b c e = rw e refl
second-fails false b c e = refl

third-fails : (a b c : Bool) → c ≡ false → ((a && b) && c) ≡ false
third-fails true true c e = e
third-fails true false c e = refl
third-fails false b c e = refl

pub forward-no-pointer : (settings : Settings) (message : List ℕ) (new : NewKind) → icmp_to_6 (field8 message 0) (field8 message 1) ≡ Ok new
    → has_pointer6 new.rest message ≡ false → error_forward settings message ≡ None
forward-no-pointer settings message new e isnt =
    let part : List ℕ = quoted_part4 message in
    forward-none settings message new e
    (first-fails (has_pointer6 new.rest message) (is_none (quote_refusal4 part)) (is_mapped6 settings (ipv4_fields part)) isnt)

pub forward-refused : (settings : Settings) (message part : List ℕ) (new : NewKind) (rule : Rule) → icmp_to_6 (field8 message 0) (field8 message 1) ≡ Ok new
    → part ≡ quoted_part4 message → quote_refusal4 part ≡ Some rule → error_forward settings message ≡ None
forward-refused settings message part new rule e is_part isnt =
    let quoted : List ℕ = quoted_part4 message in
    forward-none settings message new e
    (second-fails (has_pointer6 new.rest message) (is_none (quote_refusal4 quoted)) (is_mapped6 settings (ipv4_fields quoted))
    (ap is_none (ap quote_refusal4 (sym is_part) ∙ isnt)))

pub forward-unmapped : (settings : Settings) (message part : List ℕ) (new : NewKind) (source destination : ℕ) → icmp_to_6 (field8 message 0) (field8 message 1) ≡ Ok new
    → part ≡ quoted_part4 message → source ≡ (ipv4_fields part).source → destination ≡ (ipv4_fields part).destination
    → (is_ok (ipv6_for settings.mapping source) && is_ok (ipv6_for settings.mapping destination)) ≡ false
    → error_forward settings message ≡ None
forward-unmapped settings message part new source destination e is_part is_source is_destination isnt =
    let quoted : List ℕ = quoted_part4 message in
    let first : source ≡ (ipv4_fields quoted).source = is_source ∙ ap (λ (p : List ℕ). (ipv4_fields p).source) is_part in
    let last : destination ≡ (ipv4_fields quoted).destination = is_destination ∙ ap (λ (p : List ℕ). (ipv4_fields p).destination) is_part in
    forward-none settings message new e
    (third-fails (has_pointer6 new.rest message) (is_none (quote_refusal4 quoted)) (is_mapped6 settings (ipv4_fields quoted))
    (sym (λ i. is_ok (ipv6_for settings.mapping (first i)) && is_ok (ipv6_for settings.mapping (last i))) ∙ isnt))

-- TO IPv4

pub backward-no-row : (settings : Settings) (message : List ℕ) (rule : Rule) → icmp_to_4 (field8 message 0) (field8 message 1) ≡ Err rule
    → error_backward settings message ≡ None
unfolding error_backward
backward-no-row settings message rule e = rw e refl

pub backward-none : (settings : Settings) (message : List ℕ) (new : NewKind) → icmp_to_4 (field8 message 0) (field8 message 1) ≡ Ok new
    → is_translated4 settings new message ≡ false → error_backward settings message ≡ None
unfolding error_backward
backward-none settings message new e isnt = rw (e, isnt) refl

pub backward-some : (settings : Settings) (message : List ℕ) (new : NewKind) → icmp_to_4 (field8 message 0) (field8 message 1) ≡ Ok new
    → is_translated4 settings new message ≡ true → error_backward settings message ≡ Some (unsummed_error4 settings new message)
unfolding error_backward
backward-some settings message new e holds = rw (e, holds) refl

pointer-found4 : (rest : Rest) (message : List ℕ) → (rest ≡ Pointer → IsSome (pointer_to_4 (field32 message 4))) → has_pointer4 rest message ≡ true
pointer-found4 Same message has = refl
pointer-found4 Zero message has = refl
pointer-found4 Mtu message has = refl
pointer-found4 Pointer message has = has refl
pointer-found4 PointerSix message has = refl
pointer-found4 Length message has = refl

pub backward-made : (settings : Settings) (message : List ℕ) (error : Error6) → HasError6 settings message error
    → error_backward settings message ≡ Some (unsummed_error4 settings error.new message)
backward-made settings message error has =
    let part : List ℕ = quoted_part6 message in
    backward-some settings message error.new has.kind
    (three (has_pointer4 error.new.rest message) (is_none (quote_refusal6 part)) (is_mapped4 settings (ipv6_fields part))
    (pointer-found4 error.new.rest message has.pointer)
    (ap is_none has.accepted)
    (two (is_ok (ipv4_for settings.mapping (ipv6_fields part).source)) (is_ok (ipv4_for settings.mapping (ipv6_fields part).destination))
    has.quote.source_ok has.quote.destination_ok))

pub backward-no-pointer : (settings : Settings) (message : List ℕ) (new : NewKind) → icmp_to_4 (field8 message 0) (field8 message 1) ≡ Ok new
    → has_pointer4 new.rest message ≡ false → error_backward settings message ≡ None
backward-no-pointer settings message new e isnt =
    let part : List ℕ = quoted_part6 message in
    backward-none settings message new e
    (first-fails (has_pointer4 new.rest message) (is_none (quote_refusal6 part)) (is_mapped4 settings (ipv6_fields part)) isnt)

pub backward-refused : (settings : Settings) (message part : List ℕ) (new : NewKind) (rule : Rule) → icmp_to_4 (field8 message 0) (field8 message 1) ≡ Ok new
    → part ≡ quoted_part6 message → quote_refusal6 part ≡ Some rule → error_backward settings message ≡ None
backward-refused settings message part new rule e is_part isnt =
    let quoted : List ℕ = quoted_part6 message in
    backward-none settings message new e
    (second-fails (has_pointer4 new.rest message) (is_none (quote_refusal6 quoted)) (is_mapped4 settings (ipv6_fields quoted))
    (ap is_none (ap quote_refusal6 (sym is_part) ∙ isnt)))

pub backward-unmapped : (settings : Settings) (message part : List ℕ) (new : NewKind) (source destination : ℕ) → icmp_to_4 (field8 message 0) (field8 message 1) ≡ Ok new
    → part ≡ quoted_part6 message → source ≡ (ipv6_fields part).source → destination ≡ (ipv6_fields part).destination
    → (is_ok (ipv4_for settings.mapping source) && is_ok (ipv4_for settings.mapping destination)) ≡ false
    → error_backward settings message ≡ None
backward-unmapped settings message part new source destination e is_part is_source is_destination isnt =
    let quoted : List ℕ = quoted_part6 message in
    let first : source ≡ (ipv6_fields quoted).source = is_source ∙ ap (λ (p : List ℕ). (ipv6_fields p).source) is_part in
    let last : destination ≡ (ipv6_fields quoted).destination = is_destination ∙ ap (λ (p : List ℕ). (ipv6_fields p).destination) is_part in
    backward-none settings message new e
    (third-fails (has_pointer4 new.rest message) (is_none (quote_refusal6 quoted)) (is_mapped4 settings (ipv6_fields quoted))
    (sym (λ i. is_ok (ipv4_for settings.mapping (first i)) && is_ok (ipv4_for settings.mapping (last i))) ∙ isnt))
