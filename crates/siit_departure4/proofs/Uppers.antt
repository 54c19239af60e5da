-- The upper part that is put in its place.
use Rattle.std.proofs.Common.{◌≡◌, ℕ, zero, suc, ◌+◌, ◌-◌, ◌≤◌, List, [], ◌∷◌, ◌++◌, length, take, drop, Bool, true, false, not, ◌==◌, if◌then◌else◌, Ok, ◌∙◌, ap, sym, subst, refl, arith, length-append}
use Rattle.std.proofs.lemmas.Bool.{and_parts}
use Rattle.std.proofs.lemmas.Bool.Decides.{nat_tests}
use Rattle.std.proofs.lemmas.List.{drop-append-le, get_or-take, get_or_append_left, length-take-le, take-append-drop}
use Rattle.siit_model.specs.Bytes.{field8, with_field16}
use Rattle.siit_model.specs.Fragments.{Common, Fragment}
use Rattle.siit_model.specs.Ipv6.{payload_length_in}
use Rattle.siit_model.specs.Upper.{Ends}
use Rattle.siit_addr.specs.declared.addr.Addresses4.{Addresses4}
use Rattle.siit_addr.specs.declared.addr.Addresses6.{Addresses6}
use Rattle.siit_fragments.proofs.Parts.{drop-with_field16}
use Rattle.siit_icmp.specs.Icmp.{icmp_to_4}
use Rattle.siit_icmp.specs.declared.kinds.NewKind.{NewKind}
use Rattle.siit_quoted.proofs.Words.{field16-with_field16}
use Rattle.siit_roles.specs.declared.settings.Settings.{Settings}
use Rattle.siit_views.specs.Contents.{rewritten}
use Rattle.siit_views.proofs.Places.{rewritten-same}
use Rattle.siit_v6to4.specs.To4.{bytes_to_4, ends_6_to_4, ends_to_4, upper_to_4}
use Rattle.siit_v6to4.proofs.Good.{upper-length}
use Rattle.siit_v6to4.proofs.Heads.{upper-is, upper-length-is}
use Rattle.siit_v6to4.specs.declared.fields.Head64.{Head64}
use Rattle.siit_checksum.proofs.Fields.{length-with_field16}
use Rattle.siit_device.specs.Arrival6.{Arrived, arrived_fragment, is_error6}
use Rattle.siit_device.specs.Backward.{error_by4, error_to_4, upper_backward}
use Rattle.siit_arrival6.specs.Arrived.{arrival_of}
use Rattle.siit_arrival6.specs.declared.arrived.Arrived6.{Arrived6}
use Rattle.siit_departure4.specs.Parts.{HasUpper, IsAlone6, common_between, head_by}
use Rattle.siit_departure4.proofs.Fields.{has-upper, upper-put}

-- the payload length stands in bytes 4 and 5, and nothing else
field-stays : (bytes : List ℕ) (value place : ℕ) → 6 ≤ length bytes → (place ≡ 4 → ⊥) → (place ≡ 5 → ⊥) → field8 (with_field16 bytes 4 value) place ≡ field8 bytes place
field-stays (a ∷ b ∷ c ∷ d ∷ e ∷ f ∷ rest) value zero long four five = refl
field-stays (a ∷ b ∷ c ∷ d ∷ e ∷ f ∷ rest) value (suc zero) long four five = refl
field-stays (a ∷ b ∷ c ∷ d ∷ e ∷ f ∷ rest) value (suc (suc zero)) long four five = refl
field-stays (a ∷ b ∷ c ∷ d ∷ e ∷ f ∷ rest) value (suc (suc (suc zero))) long four five = refl
field-stays (a ∷ b ∷ c ∷ d ∷ e ∷ f ∷ rest) value (suc (suc (suc (suc zero)))) long four five = absurd (four refl)
field-stays (a ∷ b ∷ c ∷ d ∷ e ∷ f ∷ rest) value (suc (suc (suc (suc (suc zero))))) long four five = absurd (five refl)
field-stays (a ∷ b ∷ c ∷ d ∷ e ∷ f ∷ rest) value (suc (suc (suc (suc (suc (suc n)))))) long four five = refl
field-stays [] value place long four five = absurd (omega arith)
field-stays (a ∷ []) value place long four five = absurd (omega arith)
field-stays (a ∷ b ∷ []) value place long four five = absurd (omega arith)
field-stays (a ∷ b ∷ c ∷ []) value place long four five = absurd (omega arith)
field-stays (a ∷ b ∷ c ∷ d ∷ []) value place long four five = absurd (omega arith)
field-stays (a ∷ b ∷ c ∷ d ∷ e ∷ []) value place long four five = absurd (omega arith)

-- Another upper part behind the headers, and the payload length written by it.
pub length-written : (old mid left upper : List ℕ) (value : ℕ) (arrived : Arrived6) → IsAlone6 old arrived → mid ≡ take (40 + arrived.walk.at) old ++ upper
    → length mid ≤ 65575 → value ≡ length mid - 40 → left ≡ with_field16 mid 4 value → HasUpper (arrival_of old arrived) upper (rewritten mid left)
length-written old mid left upper value arrived alone is_mid most is_value is_left =
    let front : List ℕ = take (40 + arrived.walk.at) old in
    let long : length front ≡ 40 + arrived.walk.at = length-take-le (40 + arrived.walk.at) old (omega (arith, alone.no_padding, alone.within)) in
    let total : length mid ≡ 40 + arrived.walk.at + length upper = omega (arith, ap length is_mid, length-append front upper, long) in
    let same : length left ≡ length mid = ap length is_left ∙ length-with_field16 mid 4 value (omega (arith, total)) in
    let is : rewritten mid left ≡ with_field16 mid 4 value = rewritten-same mid left same ∙ is_left in
    let told : payload_length_in (with_field16 mid 4 value) ≡ value = field16-with_field16 mid 4 value (omega (arith, total)) (omega (arith, is_value, most)) in
    subst (HasUpper (arrival_of old arrived) upper) (sym is)
    (has-upper old (with_field16 mid 4 value) upper arrived alone
    (λ place inside four five.
    field-stays mid value place (omega (arith, total)) four five ∙ ap (λ l. field8 l place) is_mid
    ∙ get_or_append_left front upper 0 place (omega (arith, long, inside)) ∙ get_or-take (40 + arrived.walk.at) old place 0 (omega (arith, inside)))
    (drop-with_field16 mid 4 value 40 (omega arith) (omega (arith, total)) ∙ ap (drop 40) is_mid ∙ drop-append-le 40 front upper (omega (arith, long)))
    (omega (arith, told, is_value, total, same, ap length is_left)))

-- AN UPPER PART THAT IS NO ERROR

pub upper-here : (bytes : List ℕ) (arrived : Arrived6) → IsAlone6 bytes arrived → drop (40 + arrived.walk.at) bytes ≡ (arrived_fragment (arrival_of bytes arrived)).bytes
upper-here bytes arrived alone = upper-is bytes arrived.walk.at (40 + arrived.walk.at) alone.no_padding refl

chosen : (b : Bool) (x y : List ℕ) → b ≡ true → (if b then x else y) ≡ x
chosen b x y e = rw e refl

other : (b : Bool) (x y : List ℕ) → b ≡ false → (if b then x else y) ≡ y
other b x y e = rw e refl

not-true : (b r : Bool) → r ≡ not b → r ≡ true → b ≡ false
not-true true r e f = cc
not-true false r e f = refl

not-false : (b r : Bool) → r ≡ not b → r ≡ false → b ≡ true
not-false true r e f = refl
not-false false r e f = cc

-- a later fragment
pub later-stays : (bytes : List ℕ) (arrived : Arrived6) (to : Head64) (later : Bool) → IsAlone6 bytes arrived →
    let f = arrived_fragment (arrival_of bytes arrived) in
    later ≡ not (f.offset == 0) → later ≡ true
    → HasUpper (arrival_of bytes arrived) (bytes_to_4 (ends_to_4 (head_by to (arrival_of bytes arrived)) f.common) (length f.bytes) f) bytes
later-stays bytes arrived to later alone is is_later =
    let f : Fragment = arrived_fragment (arrival_of bytes arrived) in
    let here = upper-here bytes arrived alone in
    subst (λ l. HasUpper (arrival_of bytes arrived) l bytes) (sym (other (f.offset == 0) _ f.bytes (not-true (f.offset == 0) later is is_later)))
    (upper-put bytes bytes f.bytes arrived alone (upper-length-is bytes arrived.walk.at alone.no_padding)
    (sym (take-append-drop (40 + arrived.walk.at) bytes) ∙ ap (λ l. take (40 + arrived.walk.at) bytes ++ l) here))

-- a whole packet or a first fragment
pub first-moved : (bytes new : List ℕ) (arrived : Arrived6) (to : Head64) (later : Bool) (from : ℕ) → IsAlone6 bytes arrived →
    let f = arrived_fragment (arrival_of bytes arrived) in
    let between : Addresses4 = record { src = to.src; dst = to.dst } in
    later ≡ not (f.offset == 0) → later ≡ false → from ≡ arrived.walk.at
    → new ≡ take (40 + from) bytes ++ upper_to_4 arrived.walk.upper (ends_6_to_4 arrived.old between) (arrived.len - arrived.walk.at) (drop (40 + from) bytes)
    → HasUpper (arrival_of bytes arrived) (bytes_to_4 (ends_to_4 (head_by to (arrival_of bytes arrived)) f.common) (length f.bytes) f) new
first-moved bytes new arrived to later from alone is is_first is_from is_new =
    let f : Fragment = arrived_fragment (arrival_of bytes arrived) in
    let at : ℕ = arrived.walk.at in
    let ends = λ (s d : ℕ). let e : Ends = record { source4 = to.src.0; destination4 = to.dst.0; source6 = s; destination6 = d } in e in
    let right : Ends = ends f.common.source f.common.destination in
    let upper : List ℕ = upper_to_4 arrived.walk.upper right (length f.bytes) f.bytes in
    let size : length f.bytes ≡ payload_length_in bytes - at = upper-length-is bytes at alone.no_padding in
    let whole : arrived.len - at ≡ length f.bytes = ap (λ n. n - at) alone.len ∙ sym size in
    subst (λ l. HasUpper (arrival_of bytes arrived) l new) (sym (chosen (f.offset == 0) upper f.bytes (not-false (f.offset == 0) later is is_first)))
    (upper-put bytes new upper arrived alone (upper-length arrived.walk.upper right (length f.bytes) f.bytes ∙ size)
    (is_new
    ∙ ap (λ n. take (40 + n) bytes ++ upper_to_4 arrived.walk.upper (ends arrived.old.src.0 arrived.old.dst.0) (arrived.len - at) (drop (40 + n) bytes)) is_from
    ∙ ap (λ s. take (40 + at) bytes ++ upper_to_4 arrived.walk.upper (ends s arrived.old.dst.0) (arrived.len - at) (drop (40 + at) bytes)) alone.source_is
    ∙ ap (λ d. take (40 + at) bytes ++ upper_to_4 arrived.walk.upper (ends f.common.source d) (arrived.len - at) (drop (40 + at) bytes)) alone.destination_is
    ∙ ap (λ n. take (40 + at) bytes ++ upper_to_4 arrived.walk.upper right n (drop (40 + at) bytes)) whole
    ∙ ap (λ l. take (40 + at) bytes ++ upper_to_4 arrived.walk.upper right (length f.bytes) l) (upper-here bytes arrived alone)))

-- AN ERROR

-- the message by its addresses
pub message-is : (settings : Settings) (common : Common) (old : Addresses6) (message : List ℕ) (new : NewKind) → icmp_to_4 (field8 message 0) (field8 message 1) ≡ Ok new
    → old.src.0 ≡ common.source → old.dst.0 ≡ common.destination → error_by4 settings (common_between old) message (Ok new) ≡ error_to_4 settings common message
unfolding error_to_4
message-is settings common old message new kind is_source is_destination =
    let between = λ (s d : ℕ). let c : Common = record { class = 0; hop = 0; protocol = 58; source = s; destination = d } in error_by4 settings c message (Ok new) in
    ap (λ s. between s old.dst.0) is_source ∙ ap (between common.source) is_destination ∙ sym (ap (error_by4 settings common message) kind)

-- an upper part that is an error, and one that is none
pub error-is : (settings : Settings) (arrival : Arrived) (to : Head64) → is_error6 (arrived_fragment arrival) ≡ true
    → error_to_4 settings (arrived_fragment arrival).common (arrived_fragment arrival).bytes
    ≡ upper_backward settings (head_by to arrival) (arrived_fragment arrival)
error-is settings arrival to is = sym (chosen (is_error6 (arrived_fragment arrival)) _ _ is)

pub moved-is : (settings : Settings) (arrival : Arrived) (to : Head64) → is_error6 (arrived_fragment arrival) ≡ false →
    let f = arrived_fragment arrival in
    bytes_to_4 (ends_to_4 (head_by to arrival) f.common) (length f.bytes) f ≡ upper_backward settings (head_by to arrival) f
moved-is settings arrival to is = sym (other (is_error6 (arrived_fragment arrival)) _ _ is)

-- an upper part that was written where it lies
pub moved-put : (settings : Settings) (old lent left : List ℕ) (arrived : Arrived6) (to : Head64) → lent ≡ old → length left ≡ length lent →
    let arrival = λ (b : List ℕ). arrival_of b arrived in
    let upper = λ (b : List ℕ). let f = arrived_fragment (arrival b) in bytes_to_4 (ends_to_4 (head_by to (arrival b)) f.common) (length f.bytes) f in
    HasUpper (arrival lent) (upper lent) left → is_error6 (arrived_fragment (arrival old)) ≡ false
    → HasUpper (arrival old) (upper_backward settings (head_by to (arrival old)) (arrived_fragment (arrival old))) (rewritten old left)
moved-put settings old lent left arrived to same long has none =
    let arrival = λ (b : List ℕ). arrival_of b arrived in
    let upper = λ (b : List ℕ). let f = arrived_fragment (arrival b) in bytes_to_4 (ends_to_4 (head_by to (arrival b)) f.common) (length f.bytes) f in
    subst (HasUpper (arrival old) (upper_backward settings (head_by to (arrival old)) (arrived_fragment (arrival old)))) (sym (rewritten-same old left (long ∙ ap length same)))
    (subst (λ l. HasUpper (arrival old) l left) (moved-is settings (arrival old) to none)
    (subst (λ b. HasUpper (arrival b) (upper b) left) same has))

-- an error is ICMPv6
icmp-is : (protocol : ℕ) → (protocol == 58) ≡ true → protocol ≡ 58
icmp-is protocol is = grind (arith, nat_tests)

pub error-icmp : (f : Fragment) → is_error6 f ≡ true → f.common.protocol ≡ 58
error-icmp f is = icmp-is f.common.protocol (and_parts (f.common.protocol == 58) _ is).0
