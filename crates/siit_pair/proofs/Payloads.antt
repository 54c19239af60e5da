-- The payload of a datagram behind two devices: of TCP and UDP, and of protocols that the devices don't know.
use Rattle.std.proofs.Common.{◌≡◌, ℕ, ◌+◌, ◌%◌, ◌^◌, ◌<◌, ◌≤◌, List, length, Bool, true, false, not, ◌&&◌, ◌==◌, if◌then◌else◌, Some, ◌∙◌, ap, sym, subst, refl, arith, eq-eqb, ne_eqb, lt-ltb}
use Rattle.std.specs.Str.{bytes_eq}
use Rattle.std.proofs.lemmas.Bool.{cond-true, cond-false, cond_both, and_from, eqb-true, eqb-false}
use Rattle.std.proofs.lemmas.Slice.Eq.{bytes_eq-Decides}
use Rattle.siit_model.specs.Bytes.{field16, with_field16}
use Rattle.siit_model.specs.Checksum.{checksum_of, moved, moved_udp, without_zero, pseudo4, pseudo6, residue}
use Rattle.siit_model.specs.Fragments.{datagram4, whole_of}
use Rattle.siit_model.specs.Ipv4.{Ipv4Packet, IsGoodIpv4}
use Rattle.siit_model.specs.Upper.{has_field16}
use Rattle.siit_checksum.proofs.Fields.{length-with_field16}
use Rattle.siit_checksum.proofs.Residues.{residue-with_field16}
use Rattle.siit_quoted.proofs.Words.{field16-with_field16, with_field16-twice}
use Rattle.siit_fragments.specs.Laws.{with_checksum}
use Rattle.siit_fragments.proofs.Translated.{length-with_checksum}
use Rattle.siit_roles.specs.declared.settings.Settings.{Settings}
use Rattle.siit_v4to6.specs.To6.{next_header_of, udp_checksum6}
use Rattle.siit_device.specs.Addresses.{to4, to6}
use Rattle.siit_device.specs.Forward.{is_error_fragment4, lacks_checksum}
use Rattle.siit_cutting.specs.Laws.{HasAddresses6}
use Rattle.siit_cutting.proofs.Upper4.{InRange4, tcp_to_4, udp_to_4, upper4-other, upper4-tcp, upper4-udp}
use Rattle.siit_cutting.proofs.Upper6.{InRange6, no-error, tcp_to_6, udp_to_6, upper6-other, upper6-tcp, upper6-udp}
use Rattle.siit_pair.specs.Across.{across, between}
use Rattle.siit_pair.specs.Laws.{AreReversible}
use Rattle.siit_pair.specs.Same.{is_same_computed, is_same_moved, is_same_unsummed}
use Rattle.siit_pair.proofs.Addresses.{addresses_back}

-- EQUAL BUT FOR THE CHECKSUM

-- the checksum at a place is another number of the same residue
pub record IsMoved (place : ℕ) (old new : List ℕ) : Type 0 where
  pub checksum : ℕ
  pub small : checksum < 65536
  pub bytes : new ≡ with_field16 old place checksum
  pub residue : checksum % 65535 ≡ field16 old place % 65535

pub equal-bytes : (xs ys : List ℕ) → xs ≡ ys → bytes_eq xs ys ≡ true
equal-bytes xs ys same = (bytes_eq-Decides xs ys).1 same

pub is-unsummed : (place checksum : ℕ) (old new : List ℕ) → place + 1 < length old → new ≡ with_field16 old place checksum → is_same_unsummed place old new ≡ true
is-unsummed place checksum old new has is =
    equal-bytes (with_field16 old place 0) (with_field16 new place 0)
    (sym (ap (λ l. with_field16 l place 0) is ∙ with_field16-twice old place checksum 0 has))

pub is-moved : (place : ℕ) (old new : List ℕ) → place + 1 < length old → IsMoved place old new → is_same_moved place old new ≡ true
is-moved place old new has moved =
    let read : field16 new place ≡ moved.checksum = ap (λ l. field16 l place) moved.bytes ∙ field16-with_field16 old place moved.checksum has moved.small in
    and_from (is_same_unsummed place old new) (field16 old place % 65535 == field16 new place % 65535)
    (is-unsummed place moved.checksum old new has moved.bytes)
    (eq-eqb (field16 old place % 65535) (field16 new place % 65535) (sym moved.residue ∙ ap (λ n. n % 65535) (sym read)))

pub moved-length : (place : ℕ) (old new : List ℕ) → place + 1 < length old → IsMoved place old new → length new ≡ length old
moved-length place old new has moved = ap length moved.bytes ∙ length-with_field16 old place moved.checksum has

-- two changes of a checksum are one
twice : (place : ℕ) (one two : ℕ → ℕ) (bytes : List ℕ) → place + 2 ≤ length bytes → one (field16 bytes place) < 65536
    → with_checksum (Some place) two (with_checksum (Some place) one bytes) ≡ with_field16 bytes place (two (one (field16 bytes place)))
twice place one two bytes inside small =
    let has : has_field16 bytes place ≡ true = lt-ltb (place + 1) (length bytes) (omega arith) in
    let first : with_checksum (Some place) one bytes ≡ with_field16 bytes place (one (field16 bytes place)) =
    cond-true (has_field16 bytes place) (with_field16 bytes place (one (field16 bytes place))) bytes has in
    let size = length-with_checksum (Some place) one bytes in
    let has_again : has_field16 (with_checksum (Some place) one bytes) place ≡ true =
    lt-ltb (place + 1) (length (with_checksum (Some place) one bytes)) (omega (arith, size)) in
    cond-true (has_field16 (with_checksum (Some place) one bytes) place)
    (with_field16 (with_checksum (Some place) one bytes) place (two (field16 (with_checksum (Some place) one bytes) place)))
    (with_checksum (Some place) one bytes) has_again
    ∙ ap (λ l. with_field16 l place (two (field16 l place))) first
    ∙ ap (λ v. with_field16 (with_field16 bytes place (one (field16 bytes place))) place (two v))
    (field16-with_field16 bytes place (one (field16 bytes place)) (omega arith) small)
    ∙ with_field16-twice bytes place (one (field16 bytes place)) (two (one (field16 bytes place))) (omega arith)

-- CHECKSUMS THERE AND BACK

moved-small : (c old new : ℕ) → moved c old new < 65535
moved-small c old new = omega arith

moved-back : (c old new : ℕ) → old ≤ 65535 → new ≤ 65535 → moved (moved c old new) new old % 65535 ≡ c % 65535
moved-back c old new small_old small_new = omega arith

udp-range : (n : ℕ) → n < 65535 → (0 < without_zero n) × (without_zero n < 65536) × (without_zero n % 65535 ≡ n % 65535)
udp-range n small =
    cond_both (n == 0) 65535 n (λ x. (0 < x) × (x < 65536) × (x % 65535 ≡ n % 65535))
    (λ is. let none : n ≡ 0 = eqb-true n 0 is in omega arith) (λ is. let some : n ≡ 0 → ⊥ = eqb-false n 0 is in omega arith)

moved_udp-back : (c old new : ℕ) → old ≤ 65535 → new ≤ 65535 → moved_udp (moved_udp c old new) new old % 65535 ≡ c % 65535
moved_udp-back c old new small_old small_new =
    let one = udp-range (moved c old new) (moved-small c old new) in
    let two = udp-range (moved (moved_udp c old new) new old) (moved-small (moved_udp c old new) new old) in
    two.2 ∙ again (moved_udp c old new) c old new small_old small_new one.2
  where
    again : (w k o n : ℕ) → o ≤ 65535 → n ≤ 65535 → w % 65535 ≡ moved k o n % 65535 → moved w n o % 65535 ≡ k % 65535
    again w k o n small_o small_n is = omega arith

below : (n : ℕ) → n % 65535 ≤ 65535
below n = omega arith

lifted : (x : ℕ) → x < 65535 → x < 65536
lifted x h = omega arith

pub next-same : (protocol : ℕ) → (protocol ≡ 1 → ⊥) → next_header_of protocol ≡ protocol
next-same protocol icmp = cond-false (protocol == 1) 58 protocol (ne_eqb protocol 1 icmp)

-- a checksum computed from nothing, and then moved
bare-right : (four six sum blank after first last : ℕ) → four ≤ 65535 → six ≤ 65535
    → (blank + 0) % 65535 ≡ (sum + 0) % 65535 → first % 65535 ≡ checksum_of ((six + blank) % 65535) % 65535 → last % 65535 ≡ moved first six four % 65535
    → (after + 0) % 65535 ≡ (sum + last) % 65535 → (four + after) % 65535 ≡ 0
bare-right four six sum blank after first last small_four small_six is_blank is_first is_last is_after = omega arith

checksum-small : (n : ℕ) → checksum_of n < 65535
checksum-small n = omega arith

pick-bare : (error lacks : Bool) (x b c : List ℕ) → error ≡ false → lacks ≡ true → (if error then x else if lacks then b else c) ≡ b
pick-bare error lacks x b c f g = rw (f, g) refl

-- ACROSS

module _ (first second : Settings) (d : Ipv4Packet) (id : ℕ) (alike : first.mapping ≡ second.mapping) (good : IsGoodIpv4 d)
    (back : AreReversible first.mapping d) (addresses : HasAddresses6 first (datagram4 d).common) where
  pub source-back : to4 second (to6 first d.source) ≡ d.source
  source-back = addresses_back first second alike d.source back.source

  pub destination-back : to4 second (to6 first d.destination) ≡ d.destination
  destination-back = addresses_back first second alike d.destination back.destination

  pub range6 : InRange6 first (datagram4 d).common
  range6 = record { source = good.source; destination = good.destination; source6 = addresses.source; destination6 = addresses.destination }

  pub range4 : InRange4 second (between first d).common
  range4 = record {
    source = addresses.source;
    destination = addresses.destination;
    source4 = subst (λ a. a < 2 ^ 32) (sym source-back) good.source;
    destination4 = subst (λ a. a < 2 ^ 32) (sym destination-back) good.destination;
  }

  pub short : length d.payload ≤ 65515
  short = let fits = good.fits in omega arith

  -- the pseudo-header of the far side
  same-pseudo : (protocol n : ℕ)
      → pseudo4 (to4 second (to6 first d.source)) (to4 second (to6 first d.destination)) protocol n ≡ pseudo4 d.source d.destination protocol n
  same-pseudo protocol n =
      ap (λ a. pseudo4 a (to4 second (to6 first d.destination)) protocol n) source-back ∙ ap (λ a. pseudo4 d.source a protocol n) destination-back

  pub tcp-across : d.protocol ≡ 6 → 20 ≤ length d.payload → IsMoved 16 d.payload (across first second d id).payload
  tcp-across is long =
      let n : ℕ = length d.payload in
      let small : n ≤ 65515 = short in
      let one = upper6-tcp first (whole_of (datagram4 d)) range6 n (omega arith) (omega arith) refl is in
      let size : length (between first d).payload ≡ n = ap length one ∙ length-with_checksum (Some 16) (tcp_to_6 first (datagram4 d).common n) d.payload in
      let two = upper4-tcp second id (whole_of (between first d)) range4 n (omega (arith, size)) (omega arith) refl (ap next_header_of is) in
      let c : ℕ = field16 d.payload 16 in
      let four : ℕ = pseudo4 d.source d.destination 6 n in
      let six : ℕ = pseudo6 (to6 first d.source) (to6 first d.destination) 6 n in
      let once : ℕ = moved c four six in
      record {
        checksum = tcp_to_4 second (between first d).common n once;
        small = lifted _ (moved-small once six (pseudo4 (to4 second (to6 first d.source)) (to4 second (to6 first d.destination)) 6 n));
        bytes =
            two
            ∙ ap (λ l. with_checksum (Some 16) (tcp_to_4 second (between first d).common n) l) one
            ∙ twice 16 (tcp_to_6 first (datagram4 d).common n) (tcp_to_4 second (between first d).common n) d.payload (omega arith)
            (lifted once (moved-small c four six));
        residue = ap (λ x. moved once six x % 65535) (same-pseudo 6 n) ∙ moved-back c four six (below _) (below _);
      }

  pub udp-across : d.protocol ≡ 17 → 8 ≤ length d.payload → 0 < field16 d.payload 6 → IsMoved 6 d.payload (across first second d id).payload
  udp-across is long some =
      let n : ℕ = length d.payload in
      let small : n ≤ 65515 = short in
      let c : ℕ = field16 d.payload 6 in
      let four : ℕ = pseudo4 d.source d.destination 17 n in
      let six : ℕ = pseudo6 (to6 first d.source) (to6 first d.destination) 17 n in
      let once : ℕ = moved_udp c four six in
      let inner = udp-range (moved c four six) (moved-small c four six) in
      let one = upper6-udp first (whole_of (datagram4 d)) range6 n (omega arith) (omega arith) refl is some in
      let size : length (between first d).payload ≡ n = ap length one ∙ length-with_checksum (Some 6) (udp_to_6 first (datagram4 d).common n) d.payload in
      let written : with_checksum (Some 6) (udp_to_6 first (datagram4 d).common n) d.payload ≡ with_field16 d.payload 6 once =
      cond-true (has_field16 d.payload 6) (with_field16 d.payload 6 once) d.payload (lt-ltb 7 n (omega arith)) in
      let there : field16 (between first d).payload 6 ≡ once = ap (λ l. field16 l 6) (one ∙ written) ∙ field16-with_field16 d.payload 6 once (omega arith) inner.1 in
      let two = upper4-udp second id (whole_of (between first d)) range4 n (omega (arith, size)) (omega arith) refl (ap next_header_of is)
      (subst (λ x. 0 < x) (sym there) inner.0) in
      let last : ℕ = pseudo4 (to4 second (to6 first d.source)) (to4 second (to6 first d.destination)) 17 n in
      record {
        checksum = udp_to_4 second (between first d).common n once;
        small = (udp-range (moved once six last) (moved-small once six last)).1;
        bytes =
            two
            ∙ ap (λ l. with_checksum (Some 6) (udp_to_4 second (between first d).common n) l) one
            ∙ twice 6 (udp_to_6 first (datagram4 d).common n) (udp_to_4 second (between first d).common n) d.payload (omega arith) inner.1;
        residue = ap (λ x. moved_udp once six x % 65535) (same-pseudo 17 n) ∙ moved_udp-back c four six (below _) (below _);
      }

  pub other-across : (d.protocol ≡ 6 → ⊥) → (d.protocol ≡ 17 → ⊥) → (d.protocol ≡ 1 → ⊥) → (d.protocol ≡ 58 → ⊥) → (across first second d id).payload ≡ d.payload
  other-across not6 not17 not1 not58 =
      let n : ℕ = length d.payload in
      let small : n ≤ 65515 = short in
      let next : next_header_of d.protocol ≡ d.protocol = next-same d.protocol not1 in
      let one = upper6-other first (whole_of (datagram4 d)) range6 n (omega arith) (omega arith) refl not6 not17 not1 in
      let size : length (between first d).payload ≡ n = ap length one in
      upper4-other second id (whole_of (between first d)) range4 n (omega (arith, size)) (omega arith) refl
      (λ is. not6 (sym next ∙ is)) (λ is. not17 (sym next ∙ is)) (λ is. not58 (sym next ∙ is))
      ∙ one

  -- the checksum that the first device computes, and the second moves
  pub bare-across : d.protocol ≡ 17 → 8 ≤ length d.payload → field16 d.payload 6 ≡ 0 → first.udp_compute ≡ true → field16 d.payload 4 ≡ length d.payload
      → (length (across first second d id).payload ≡ length d.payload)
      × (is_same_computed first d.source d.destination d.payload (across first second d id).payload ≡ true)
  bare-across is long bare computes tells =
      let n : ℕ = length d.payload in
      let small : n ≤ 65515 = short in
      let after : List ℕ = (across first second d id).payload in
      let four : ℕ = pseudo4 d.source d.destination 17 n in
      let six : ℕ = pseudo6 (to6 first d.source) (to6 first d.destination) 17 n in
      let blank : ℕ = residue (with_field16 d.payload 6 0) in
      let once : ℕ = udp_checksum6 (to6 first d.source) (to6 first d.destination) d.payload in
      let one_range = udp-range (checksum_of ((six + blank) % 65535)) (checksum-small ((six + blank) % 65535)) in
      let one : (between first d).payload ≡ with_field16 d.payload 6 once =
      pick-bare (is_error_fragment4 (whole_of (datagram4 d))) (lacks_checksum (whole_of (datagram4 d))) _ _ _
      (no-error (whole_of (datagram4 d)) (λ (icmp : d.protocol ≡ 1). omega arith))
      (and_from (d.protocol == 17) (field16 d.payload 6 == 0) (eq-eqb d.protocol 17 is) (eq-eqb (field16 d.payload 6) 0 bare)) in
      let size : length (with_field16 d.payload 6 once) ≡ n = length-with_field16 d.payload 6 once (omega arith) in
      let there : field16 (with_field16 d.payload 6 once) 6 ≡ once = field16-with_field16 d.payload 6 once (omega arith) one_range.1 in
      let seen : field16 (between first d).payload 6 ≡ once = ap (λ l. field16 l 6) one ∙ there in
      let whole : length (between first d).payload ≡ n = ap length one ∙ size in
      let two = upper4-udp second id (whole_of (between first d)) range4 n (omega (arith, whole)) (omega arith) refl (ap next_header_of is)
      (subst (λ x. 0 < x) (sym seen) one_range.0) in
      let last : ℕ = udp_to_4 second (between first d).common n once in
      let same : last ≡ moved_udp once six four = ap (λ x. moved_udp once six x) (same-pseudo 17 n) in
      let last_range = udp-range (moved once six four) (moved-small once six four) in
      let bytes : after ≡ with_field16 d.payload 6 last =
      two
      ∙ ap (λ l. with_checksum (Some 6) (udp_to_4 second (between first d).common n) l) one
      ∙ cond-true (has_field16 (with_field16 d.payload 6 once) 6)
      (with_field16 (with_field16 d.payload 6 once) 6 (udp_to_4 second (between first d).common n (field16 (with_field16 d.payload 6 once) 6)))
      (with_field16 d.payload 6 once) (lt-ltb 7 (length (with_field16 d.payload 6 once)) (omega (arith, size)))
      ∙ ap (λ v. with_field16 (with_field16 d.payload 6 once) 6 (udp_to_4 second (between first d).common n v)) there
      ∙ with_field16-twice d.payload 6 once last (omega arith) in
      let last_small : last < 65536 = subst (λ x. x < 65536) (sym same) last_range.1 in
      let as_long : length after ≡ n = ap length bytes ∙ length-with_field16 d.payload 6 last (omega arith) in
      let read : field16 after 6 ≡ last = ap (λ l. field16 l 6) bytes ∙ field16-with_field16 d.payload 6 last (omega arith) last_small in
      let some : 0 < last = subst (λ x. 0 < x) (sym same) last_range.0 in
      let right : (pseudo4 d.source d.destination 17 (length after) + residue after) % 65535 ≡ 0 =
      ap (λ k. (pseudo4 d.source d.destination 17 k + residue after) % 65535) as_long
      ∙ ap (λ l. (four + residue l) % 65535) bytes
      ∙ bare-right four six (residue d.payload) blank (residue (with_field16 d.payload 6 last)) once last (below _) (below _)
      (ap (λ x. (blank + x) % 65535) (sym bare) ∙ residue-with_field16 d.payload 6 0 refl (omega arith) (omega arith))
      one_range.2 (ap (λ x. x % 65535) same ∙ last_range.2)
      (ap (λ x. (residue (with_field16 d.payload 6 last) + x) % 65535) (sym bare) ∙ residue-with_field16 d.payload 6 last refl (omega arith) last_small) in (
        as_long,
        joined first.udp_compute (field16 d.payload 4 == length d.payload) (is_same_unsummed 6 d.payload after) (field16 after 6 == 0) _
            computes (eq-eqb (field16 d.payload 4) (length d.payload) tells) (is-unsummed 6 last d.payload after (omega arith) bytes)
            (ne_eqb (field16 after 6) 0 (λ (none : field16 after 6 ≡ 0). omega (arith, read)))
            (eq-eqb ((pseudo4 d.source d.destination 17 (length after) + residue after) % 65535) 0 right),
      )
    where
      joined : (a b c e f : Bool) → a ≡ true → b ≡ true → c ≡ true → e ≡ false → f ≡ true → (a && b && c && (not e && f)) ≡ true
      joined a b c e f h i j k l = rw (h, i, j, k, l) refl
