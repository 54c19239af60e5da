-- Whole datagrams behind two devices.
use Rattle.std.proofs.Common.{◌≡◌, ℕ, ◌+◌, ◌-◌, ◌<◌, ◌≤◌, List, [], ◌∷◌, length, Bool, true, false, not, ◌&&◌, ◌||◌, ◌==◌, nat_le, if◌then◌else◌, is_err, Option, Result, Ok, Err, ok_or, ◌∙◌, ap, sym, subst, refl, arith, eq-eqb, ne_eqb, le-leb}
use Rattle.std.specs.List.{list_any}
use Rattle.std.proofs.lemmas.Bool.{cond_both, cond-false, and_from, and_parts, and_right, eqb-true, eqb-false}
use Rattle.siit_model.specs.Bytes.{field8, field16}
use Rattle.siit_model.specs.Fragments.{Datagram, datagram4, whole_of}
use Rattle.siit_model.specs.Ipv4.{Ipv4Packet, IsGoodIpv4, is_whole4}
use Rattle.siit_icmp.specs.Errors.{is_error_kind4}
use Rattle.siit_icmp.specs.Icmp.{icmp_to_6, is_echo_kind4, echo_kind6, new, problem_to_6, unreachable_to_6}
use Rattle.siit_icmp.specs.declared.kinds.NewKind.{NewKind}
use Rattle.siit_icmp.specs.declared.kinds.Rest.TheVariants.{Same, Length}
use Rattle.siit_map.specs.Mapping.{Mapping, ipv4_for}
use Rattle.siit_map.specs.Reversible.{IsReversible}
use Rattle.siit_quoted.specs.Quotes.{written_class}
use Rattle.siit_rules.specs.declared.rule.Rule.TheVariants.{IcmpCode4, IcmpType4}
use Rattle.siit_roles.specs.declared.settings.Settings.{Settings}
use Rattle.siit_v4to6.specs.To6.{next_header_of}
use Rattle.siit_v6to4.specs.To4.{protocol_of}
use Rattle.siit_device.specs.Addresses.{address_of, to4, to6}
use Rattle.siit_device.specs.Arrival4.{has_clash4, is_error4, lacks_checksum4}
use Rattle.siit_device.specs.Arrival6.{is_error6}
use Rattle.siit_device.specs.Shapes.{least_upper}
use Rattle.siit_cutting.specs.Laws.{HasAddresses6}
use Rattle.siit_pair.specs.Across.{across, between}
use Rattle.siit_pair.specs.Laws.{AreReversible, DatagramsComeAcross, GoesAcross, IsErrorAccepted, arriving}
use Rattle.siit_pair.specs.Same.{has_no_options, has_same_addresses, has_same_payload, has_same_protocol, has_same_tos, have_header, is_same_computed, is_same_error, is_same_from, is_same_icmp, is_same_moved, is_same_tcp, is_same_udp, is_two_hops_on, tos_behind}
use Rattle.siit_pair.proofs.Conditions4.{HasQuote4, HasUpper4, has-pointer6, has-quote4, has-upper4, second as right_false}
use Rattle.siit_pair.proofs.Conditions6.{HasQuote6, HasUpper6, has-quote6, has-upper6}
use Rattle.siit_pair.proofs.Payloads.{IsMoved, bare-across, destination-back, equal-bytes, is-moved, moved-length, other-across, source-back, tcp-across, udp-across}
use Rattle.siit_pair.proofs.Echoes.{echoes-across}
use Rattle.siit_pair.proofs.Messages.{backward, error-across, forward, last-long, middle, middle-error}

-- THE HEADER

clashes : ℕ → Bool
clashes protocol = list_any (λ p. protocol == p) (0 ∷ 43 ∷ 44 ∷ 58 ∷ 60 ∷ [])

no-clash : (protocol n : ℕ) → clashes protocol ≡ false → clashes n ≡ true → protocol ≡ n → ⊥
no-clash protocol n h is e = cc

not-icmp6 : (d : Ipv4Packet) → has_clash4 d ≡ false → d.protocol ≡ 58 → ⊥
unfolding clashes
not-icmp6 d clear = no-clash d.protocol 58 clear refl

protocol-back : (protocol : ℕ) → (protocol ≡ 58 → ⊥) → protocol_of (next_header_of protocol) ≡ protocol
protocol-back protocol other =
    cond_both (protocol == 1) 58 protocol (λ x. protocol_of x ≡ protocol)
    (λ is. sym (eqb-true protocol 1 is)) (λ is. cond-false (protocol == 58) 1 protocol (ne_eqb protocol 58 other))

tos-is : (one two : Bool) (class : ℕ) → written_class two (written_class one class) ≡ (if one || two then 0 else class)
tos-is true true class = refl
tos-is true false class = refl
tos-is false true class = refl
tos-is false false class = refl

two-less : (n : ℕ) → 3 ≤ n → n - 1 - 1 + 2 ≡ n
two-less n alive = omega arith

no-error-of : {A B : Type 0} (r : Result A B) (x : A) → r ≡ Ok x → is_err r ≡ false
no-error-of r x is = rw is refl

-- an address that comes back is mapped by the second device
pub mapped-back : (first second : Settings) → first.mapping ≡ second.mapping → (a : ℕ) → IsReversible first.mapping a
    → is_err (ipv4_for second.mapping (to6 first a)) ≡ false
mapped-back first second alike a back =
    ap (λ (m : Mapping). is_err (ipv4_for m (to6 first a))) (sym alike)
    ∙ ap (λ r. is_err (ipv4_for first.mapping (address_of r))) back.forth
    ∙ no-error-of (ipv4_for first.mapping back.address) (a, back.back_by) back.back

-- THE PAYLOAD

by-protocol : (six seventeen one : Bool) (a b c e : Bool) → (six ≡ true → a ≡ true) → (seventeen ≡ true → b ≡ true) → (one ≡ true → c ≡ true)
    → (six ≡ false → seventeen ≡ false → one ≡ false → e ≡ true) → (if six then a else if seventeen then b else if one then c else e) ≡ true
by-protocol true seventeen one a b c e f g h i = f refl
by-protocol false true one a b c e f g h i = g refl
by-protocol false false true a b c e f g h i = h refl
by-protocol false false false a b c e f g h i = i refl refl refl

by-test : (test : Bool) (a b : Bool) → (test ≡ true → a ≡ true) → (test ≡ false → b ≡ true) → (if test then a else b) ≡ true
by-test true a b f g = f refl
by-test false a b f g = g refl

headers : (least : ℕ) (old new : List ℕ) → least ≤ length old → least ≤ length new → have_header least old new ≡ true
headers least old new one two = and_from (nat_le least (length old)) (nat_le least (length new)) (le-leb least (length old) one) (le-leb least (length new) two)

as-long : (least n m : ℕ) → least ≤ n → m ≡ n → least ≤ m
as-long least n m long same = omega arith

error-or_echo : (three four five eleven twelve : Bool) (x y : Option NewKind) (k l n : NewKind)
    → (if three then ok_or x IcmpCode4 else if eleven then Ok l else if twelve then ok_or y IcmpCode4 else Err IcmpType4) ≡ Ok n
    → (three || four || five || eleven || twelve) ≡ true
error-or_echo true four five eleven twelve x y k l n is = refl
error-or_echo false true five eleven twelve x y k l n is = refl
error-or_echo false false true eleven twelve x y k l n is = refl
error-or_echo false false false true twelve x y k l n is = refl
error-or_echo false false false false true x y k l n is = refl
error-or_echo false false false false false x y k l n is = cc

pub is-error : (kind code : ℕ) (n : NewKind) → icmp_to_6 kind code ≡ Ok n → is_echo_kind4 kind ≡ false → is_error_kind4 kind ≡ true
is-error kind code n is no_echo =
    error-or_echo (kind == 3) (kind == 4) (kind == 5) (kind == 11) (kind == 12) (unreachable_to_6 code) (problem_to_6 code) (new (echo_kind6 kind) code Same) (new 3 code Length) n
    (sym (cond-false (is_echo_kind4 kind) (Ok (new (echo_kind6 kind) code Same)) _ no_echo) ∙ is)

-- THE DATAGRAM

module _ (first second : Settings) (d : Ipv4Packet) (id : ℕ) (alike : first.mapping ≡ second.mapping) (good : IsGoodIpv4 d) (whole : is_whole4 d ≡ true)
    (back : AreReversible first.mapping d) (addresses : HasAddresses6 first (datagram4 d).common) (goes : GoesAcross first second d) where
  abbrev after : Ipv4Packet
  after = across first second d id

  at-start : d.offset ≡ 0
  at-start = eqb-true d.offset 0 (and_parts (d.offset == 0) (d.mf == 0) whole).0

  upper : HasUpper4 first d
  upper = has-upper4 first d at-start goes.upper

  long-by : (protocol n : ℕ) → d.protocol ≡ protocol → least_upper 1 protocol ≡ n → n ≤ length d.payload
  long-by protocol n is least = subst (λ k. k ≤ length d.payload) (ap (least_upper 1) is ∙ least) upper.long

  tcp : d.protocol ≡ 6 → is_same_tcp d.payload after.payload ≡ true
  tcp is =
      let long : 20 ≤ length d.payload = long-by 6 20 is refl in
      let moved = tcp-across first second d id alike good back addresses is long in
      let has : 16 + 1 < length d.payload = omega arith in
      and_from (have_header 20 d.payload after.payload) _
      (headers 20 d.payload after.payload long (as-long 20 (length d.payload) (length after.payload) long (moved-length 16 d.payload after.payload has moved)))
      (is-moved 16 d.payload after.payload has moved)

  computed : d.protocol ≡ 17 → 8 ≤ length d.payload → field16 d.payload 6 ≡ 0
      → (length after.payload ≡ length d.payload) × (is_same_computed first d.source d.destination d.payload after.payload ≡ true)
  computed is long none =
      let lacks : lacks_checksum4 d ≡ true =
      and_from ((d.protocol == 17) && (d.offset == 0)) (field16 d.payload 6 == 0)
      (and_from (d.protocol == 17) (d.offset == 0) (eq-eqb d.protocol 17 is) (eq-eqb d.offset 0 at-start)) (eq-eqb (field16 d.payload 6) 0 none) in
      bare-across first second d id alike good back addresses is long none
      (on (first.udp_compute) (right_false (lacks_checksum4 d) (not first.udp_compute) upper.dropped lacks))
      (eqb-true (field16 d.payload 4) (length d.payload)
      (on (field16 d.payload 4 == length d.payload) (right_false (lacks_checksum4 d) (not (field16 d.payload 4 == length d.payload)) upper.mislength lacks)))
    where
      on : (b : Bool) → not b ≡ false → b ≡ true
      on true e = refl
      on false e = cc

  udp : d.protocol ≡ 17 → is_same_udp first d.source d.destination d.payload after.payload ≡ true
  udp is =
      let long : 8 ≤ length d.payload = long-by 17 8 is refl in
      let has : 6 + 1 < length d.payload = omega arith in
      let size : length after.payload ≡ length d.payload = by-checksum (field16 d.payload 6 == 0)
      (λ none. (computed is long (eqb-true (field16 d.payload 6) 0 none)).0)
      (λ some. moved-length 6 d.payload after.payload has (udp-across first second d id alike good back addresses is long (above (field16 d.payload 6) (eqb-false (field16 d.payload 6) 0 some)))) in
      and_from (have_header 8 d.payload after.payload) _
      (headers 8 d.payload after.payload long (as-long 8 (length d.payload) (length after.payload) long size))
      (by-test (field16 d.payload 6 == 0) _ _
      (λ none. (computed is long (eqb-true (field16 d.payload 6) 0 none)).1)
      (λ some. is-moved 6 d.payload after.payload has
      (udp-across first second d id alike good back addresses is long (above (field16 d.payload 6) (eqb-false (field16 d.payload 6) 0 some)))))
    where
      by-checksum : {X : Type 0} (b : Bool) → (b ≡ true → X) → (b ≡ false → X) → X
      by-checksum true f g = f refl
      by-checksum false f g = g refl

      above : (n : ℕ) → (n ≡ 0 → ⊥) → 0 < n
      above n some = omega arith

  echo : d.protocol ≡ 1 → 8 ≤ length d.payload → is_echo_kind4 (field8 d.payload 0) ≡ true → IsMoved 2 d.payload after.payload
  echo is long kind = echoes-across first second d id is good.payload_bytes long kind

  record IsError : Type 0 where
    long : 8 ≤ length after.payload
    same : is_same_error first second d.payload after.payload ≡ true

  error : d.protocol ≡ 1 → 8 ≤ length d.payload → is_error_kind4 (field8 d.payload 0) ≡ true → IsError
  error is long kind =
      let found = upper.kind is in
      let all : is_error4 d ≡ true =
      and_from ((d.protocol == 1) && is_whole4 d) _ (and_from (d.protocol == 1) (is_whole4 d) (eq-eqb d.protocol 1 is) whole) kind in
      let accepted : IsErrorAccepted second (between first d) = goes.error all in
      let there = forward first second d id is refl kind long found.kind found.is in
      let upper6 : HasUpper6 (middle first second d id is refl kind long found.kind found.is) =
      subst HasUpper6 there (has-upper6 (arriving (between first d)) (ap next_header_of is) refl accepted.upper) in
      let quote6 : HasQuote6 second (middle first second d id is refl kind long found.kind found.is) =
      subst (HasQuote6 second) there
      (has-quote6 second (arriving (between first d)) (middle-error first second d id is refl kind long found.kind found.is) accepted.quote) in
      let quote4 : HasQuote4 first d.payload = has-quote4 first d all goes.quote in
      let pointer = has-pointer6 d found.kind is found.is upper.pointer in
      record {
        long = subst (λ l. 8 ≤ length l) (sym (backward first second d id is refl kind long found.kind found.is quote4 pointer upper6 quote6))
            (last-long first second d id is refl kind long found.kind found.is quote4 pointer upper6 quote6);
        same = error-across first second d id is refl kind long found.kind found.is quote4 pointer upper6 quote6;
      }

  abbrev same_echo : Bool
  same_echo = is_same_moved 2 d.payload after.payload

  abbrev same_error : Bool
  same_error = is_error_kind4 (field8 d.payload 0) && is_same_error first second d.payload after.payload

  icmp-by : (kind : Bool) → is_echo_kind4 (field8 d.payload 0) ≡ kind → have_header 8 d.payload after.payload ≡ true → (if kind then same_echo else same_error) ≡ true
      → is_same_icmp first second d.payload after.payload ≡ true
  icmp-by kind is header same =
      ap (λ k. have_header 8 d.payload after.payload && (if k then same_echo else same_error)) is
      ∙ and_from (have_header 8 d.payload after.payload) (if kind then same_echo else same_error) header same

  icmp-echo : d.protocol ≡ 1 → is_echo_kind4 (field8 d.payload 0) ≡ true → is_same_icmp first second d.payload after.payload ≡ true
  icmp-echo is kind =
      let long : 8 ≤ length d.payload = long-by 1 8 is refl in
      let has : 2 + 1 < length d.payload = omega arith in
      let moved : IsMoved 2 d.payload after.payload = echo is long kind in
      icmp-by true kind
      (headers 8 d.payload after.payload long (as-long 8 (length d.payload) (length after.payload) long (moved-length 2 d.payload after.payload has moved)))
      (is-moved 2 d.payload after.payload has moved)

  icmp-error : d.protocol ≡ 1 → is_echo_kind4 (field8 d.payload 0) ≡ false → is_same_icmp first second d.payload after.payload ≡ true
  icmp-error is no_echo =
      let long : 8 ≤ length d.payload = long-by 1 8 is refl in
      let found = upper.kind is in
      let kind : is_error_kind4 (field8 d.payload 0) ≡ true = is-error (field8 d.payload 0) (field8 d.payload 1) found.kind found.is no_echo in
      let came : IsError = error is long kind in
      icmp-by false no_echo (headers 8 d.payload after.payload long came.long)
      (and_from (is_error_kind4 (field8 d.payload 0)) (is_same_error first second d.payload after.payload) kind came.same)

  icmp : d.protocol ≡ 1 → is_same_icmp first second d.payload after.payload ≡ true
  icmp is = by-kind (is_echo_kind4 (field8 d.payload 0)) refl (icmp-echo is) (icmp-error is)
    where
      by-kind : {X : Type 0} (b : Bool) {c : Bool} → c ≡ b → (c ≡ true → X) → (c ≡ false → X) → X
      by-kind true is f g = f is
      by-kind false is f g = g is

  payload : has_same_payload first second d after ≡ true
  payload =
      by-protocol (d.protocol == 6) (d.protocol == 17) (d.protocol == 1) _ _ _ _
      (λ is. tcp (eqb-true d.protocol 6 is)) (λ is. udp (eqb-true d.protocol 17 is)) (λ is. icmp (eqb-true d.protocol 1 is))
      (λ not6 not17 not1. equal-bytes d.payload after.payload
      (sym (other-across first second d id alike good back addresses (eqb-false d.protocol 6 not6) (eqb-false d.protocol 17 not17) (eqb-false d.protocol 1 not1)
      (not-icmp6 d goes.no_clash))))

  source : after.source ≡ d.source
  source =
      let e : Datagram = between first d in
      cond-false (is_error6 (whole_of e) && is_err (ipv4_for second.mapping e.common.source)) _ (to4 second e.common.source)
      (and_right (is_error6 (whole_of e)) (is_err (ipv4_for second.mapping e.common.source)) (mapped-back first second alike d.source back.source))
      ∙ source-back first second d id alike good back addresses

  pub same : is_same_from first second d after ≡ true
  same =
      and_from (has_no_options after && is_two_hops_on d after && has_same_protocol d after && has_same_addresses d after && has_same_tos first second d after) _
      (and_from (has_no_options after && is_two_hops_on d after && has_same_protocol d after && has_same_addresses d after) _
      (and_from (has_no_options after && is_two_hops_on d after && has_same_protocol d after) _
      (and_from (has_no_options after && is_two_hops_on d after) _
      (and_from (has_no_options after) _ refl (eq-eqb (after.ttl + 2) d.ttl (two-less d.ttl goes.alive)))
      (eq-eqb after.protocol d.protocol (protocol-back d.protocol (not-icmp6 d goes.no_clash))))
      (and_from (after.source == d.source) (after.destination == d.destination) (eq-eqb after.source d.source source)
      (eq-eqb after.destination d.destination (destination-back first second d id alike good back addresses))))
      (eq-eqb after.tos (tos_behind first second d.tos) (tos-is first.tos_zero second.tos_zero d.tos)))
      payload

pub datagrams_across : DatagramsComeAcross
datagrams_across first second d id alike good whole back addresses goes = same first second d id alike good whole back addresses goes
