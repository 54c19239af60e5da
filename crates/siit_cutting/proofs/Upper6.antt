-- The upper part of a first fragment on the IPv6 side is that of its datagram.
use Rattle.std.proofs.Common.{◌≡◌, ℕ, ◌+◌, ◌*◌, ◌^◌, ◌<◌, ◌≤◌, List, [], length, Bool, true, false, not, ◌&&◌, ◌==◌, nat_lt, if◌then◌else◌, Option, Some, None, ◌∙◌, ap, sym, subst, refl, arith, eq-eqb, ne_eqb, lt-ltb}
use Rattle.std.proofs.Math.Bool.{and_assoc}
use Rattle.std.proofs.lemmas.Bool.{cond_both, cond-false, and_left, and_right, and_parts, eqb-true, not-true}
use Rattle.siit_model.specs.Bytes.{field8, field16, with_field16}
use Rattle.siit_model.specs.Checksum.{checksum_place, moved, moved_udp, pseudo4, pseudo6, without_zero}
use Rattle.siit_model.specs.Fragments.{Common, Fragment, fragment4, is_whole}
use Rattle.siit_model.specs.Ipv4.{Ipv4Packet, is_whole4}
use Rattle.siit_model.specs.Upper.{has_field16}
use Rattle.siit_checksum.proofs.Fields.{length-with_field16}
use Rattle.siit_fragments.specs.Laws.{HasChecksum, with_checksum}
use Rattle.siit_icmp.specs.Errors.{is_error_kind4}
use Rattle.siit_roles.specs.declared.settings.Settings.{Settings}
use Rattle.siit_v4to6.specs.To6.{ends_to_6}
use Rattle.siit_v4to6.proofs.Good.{to_6-length}
use Rattle.siit_device.specs.Addresses.{to6}
use Rattle.siit_device.specs.Arrival4.{is_error4}
use Rattle.siit_device.specs.Forward.{head6_for, is_error_fragment4, lacks_checksum, upper_forward}
use Rattle.siit_arrival4.specs.Unruled.{IsUnruled}
use Rattle.siit_cutting.proofs.Lengths.{to_6-any_length}

-- ICMP ERRORS

flag-is : (mf : ℕ) → mf < 2 → (mf == 0) ≡ not (mf == 1)
flag-is mf bit = grind arith

-- an ICMP error by its packet and by its fragment
pub error-same : (packet : Ipv4Packet) → packet.mf < 2 → is_error_fragment4 (fragment4 packet) ≡ is_error4 packet
error-same packet bit =
    sym (and_assoc (packet.protocol == 1) (is_whole (fragment4 packet)) (is_error_kind4 (field8 packet.payload 0)))
    ∙ ap (λ flag. (packet.protocol == 1) && ((packet.offset == 0) && flag) && is_error_kind4 (field8 packet.payload 0)) (sym (flag-is packet.mf bit))

pub no-error : (f : Fragment) → (f.common.protocol ≡ 1 → ⊥) → is_error_fragment4 f ≡ false
no-error f icmp = and_left (f.common.protocol == 1) _ (ne_eqb f.common.protocol 1 icmp)

-- LENGTHS

-- the upper part of all else stays as long
pub upper6-length : (settings : Settings) (f : Fragment) → IsUnruled f → is_error_fragment4 f ≡ false → length (upper_forward settings f) ≡ length f.bytes
upper6-length settings f unruled error =
    ap length (cond-false (is_error_fragment4 f) _ _ error)
    ∙ cond_both (lacks_checksum f) _ _ (λ l. length l ≡ length f.bytes)
    (λ lacks.
    let both = and_parts (f.common.protocol == 17) _ lacks in
    let udp : f.common.protocol ≡ 17 = eqb-true f.common.protocol 17 both.0 in
    let first : f.offset ≡ 0 = eqb-true f.offset 0 (and_parts (f.offset == 0) (not f.more) (and_parts (is_whole f) _ both.1).0).0 in
    let has : 6 + 2 ≤ length f.bytes = subst (λ p. HasChecksum (checksum_place p) f.bytes) udp (unruled.long first) in
    length-with_field16 f.bytes 6 _ (omega arith))
    (λ _. to_6-length (ends_to_6 (head6_for settings f.common) f.common) (length f.bytes) f)

-- CHECKSUMS

-- both addresses have their bits in both families
pub record InRange6 (settings : Settings) (common : Common) : Type 0 where
  pub source : common.source < 2 ^ 32
  pub destination : common.destination < 2 ^ 32
  pub source6 : to6 settings common.source < 2 ^ 128
  pub destination6 : to6 settings common.destination < 2 ^ 128

-- how checksums change, with a length
abbrev pub tcp_to_6 : Settings → Common → ℕ → ℕ → ℕ
tcp_to_6 settings common n c =
    moved c (pseudo4 common.source common.destination 6 n) (pseudo6 (to6 settings common.source) (to6 settings common.destination) 6 n)

abbrev pub udp_to_6 : Settings → Common → ℕ → ℕ → ℕ
udp_to_6 settings common n c =
    moved_udp c (pseudo4 common.source common.destination 17 n) (pseudo6 (to6 settings common.source) (to6 settings common.destination) 17 n)

-- the branch that is taken
pick-later : (error lacks first : Bool) (x b c d : List ℕ) → error ≡ false → lacks ≡ false → first ≡ false
    → (if error then x else if lacks then b else if first then c else d) ≡ d
pick-later error lacks first x b c d e f g = rw (e, f, g) refl

pick-tcp : (error lacks first six : Bool) (x b c d e : List ℕ) → error ≡ false → lacks ≡ false → first ≡ true → six ≡ true
    → (if error then x else if lacks then b else if first then (if six then c else d) else e) ≡ c
pick-tcp error lacks first six x b c d e f g h i = rw (f, g, h, i) refl

pick-udp : (error lacks first six seventeen : Bool) (x b c d e k : List ℕ) → error ≡ false → lacks ≡ false → first ≡ true → six ≡ false → seventeen ≡ true
    → (if error then x else if lacks then b else if first then (if six then c else if seventeen then d else e) else k) ≡ d
pick-udp error lacks first six seventeen x b c d e k f g h i j = rw (f, g, h, i, j) refl

pick-other : (error lacks first six seventeen one : Bool) (x b c d e o k : List ℕ)
    → error ≡ false → lacks ≡ false → first ≡ true → six ≡ false → seventeen ≡ false → one ≡ false
    → (if error then x else if lacks then b else if first then (if six then c else if seventeen then d else if one then e else o) else k) ≡ o
pick-other error lacks first six seventeen one x b c d e o k f g h i j l = rw (f, g, h, i, j, l) refl

-- a later fragment keeps its bytes
pub upper6-later : (settings : Settings) (f : Fragment) → 0 < f.offset → upper_forward settings f ≡ f.bytes
upper6-later settings f later =
    let offset : (f.offset == 0) ≡ false = ne_eqb f.offset 0 (λ (first : f.offset ≡ 0). omega arith) in
    let whole : is_whole f ≡ false = and_left (f.offset == 0) (not f.more) offset in
    pick-later (is_error_fragment4 f) (lacks_checksum f) (f.offset == 0) _ _ _ f.bytes
    (and_right (f.common.protocol == 1) _ (and_left (is_whole f) _ whole)) (and_right (f.common.protocol == 17) _ (and_left (is_whole f) _ whole)) offset

module _ (settings : Settings) (f : Fragment) (range : InRange6 settings f.common) (n : ℕ) (small : length f.bytes < 65536) (small_n : n < 65536)
    (first : f.offset ≡ 0) where
  -- a length other than the fragment's
  any_length : (protocol c : ℕ)
      → moved c (pseudo4 f.common.source f.common.destination protocol (length f.bytes)) (pseudo6 (to6 settings f.common.source) (to6 settings f.common.destination) protocol (length f.bytes))
      ≡ moved c (pseudo4 f.common.source f.common.destination protocol n) (pseudo6 (to6 settings f.common.source) (to6 settings f.common.destination) protocol n)
  any_length protocol c =
      to_6-any_length c f.common.source f.common.destination (to6 settings f.common.source) (to6 settings f.common.destination) protocol (length f.bytes) n
      range.source range.destination range.source6 range.destination6 small small_n

  pub upper6-tcp : f.common.protocol ≡ 6 → upper_forward settings f ≡ with_checksum (Some 16) (tcp_to_6 settings f.common n) f.bytes
  upper6-tcp is =
      pick-tcp (is_error_fragment4 f) (lacks_checksum f) (f.offset == 0) (f.common.protocol == 6) _ _ _ _ _
      (no-error f (λ (icmp : f.common.protocol ≡ 1). omega arith))
      (and_left (f.common.protocol == 17) _ (ne_eqb f.common.protocol 17 (λ (udp : f.common.protocol ≡ 17). omega arith)))
      (eq-eqb f.offset 0 first) (eq-eqb f.common.protocol 6 is)
      ∙ ap (λ v. if has_field16 f.bytes 16 then with_field16 f.bytes 16 v else f.bytes) (any_length 6 (field16 f.bytes 16))

  pub upper6-udp : f.common.protocol ≡ 17 → 0 < field16 f.bytes 6 → upper_forward settings f ≡ with_checksum (Some 6) (udp_to_6 settings f.common n) f.bytes
  upper6-udp is some =
      pick-udp (is_error_fragment4 f) (lacks_checksum f) (f.offset == 0) (f.common.protocol == 6) (f.common.protocol == 17) _ _ _ _ _ _
      (no-error f (λ (icmp : f.common.protocol ≡ 1). omega arith))
      (and_right (f.common.protocol == 17) _ (and_right (is_whole f) _ (ne_eqb (field16 f.bytes 6) 0 (λ (none : field16 f.bytes 6 ≡ 0). omega arith))))
      (eq-eqb f.offset 0 first) (ne_eqb f.common.protocol 6 (λ (tcp : f.common.protocol ≡ 6). omega arith)) (eq-eqb f.common.protocol 17 is)
      ∙ ap (λ b. if b then with_field16 f.bytes 6 (udp_to_6 settings f.common (length f.bytes) (field16 f.bytes 6)) else f.bytes)
      (both (has_field16 f.bytes 6) (nat_lt 0 (field16 f.bytes 6)) (lt-ltb 0 (field16 f.bytes 6) some))
      ∙ ap (λ v. if has_field16 f.bytes 6 then with_field16 f.bytes 6 (without_zero v) else f.bytes) (any_length 17 (field16 f.bytes 6))
    where
      both : (x y : Bool) → y ≡ true → (x && y) ≡ x
      both true y e = e
      both false y e = refl

  pub upper6-other : (f.common.protocol ≡ 6 → ⊥) → (f.common.protocol ≡ 17 → ⊥) → (f.common.protocol ≡ 1 → ⊥) → upper_forward settings f ≡ f.bytes
  upper6-other not6 not17 not1 =
      pick-other (is_error_fragment4 f) (lacks_checksum f) (f.offset == 0) (f.common.protocol == 6) (f.common.protocol == 17) (f.common.protocol == 1)
      _ _ _ _ _ f.bytes _
      (no-error f not1) (and_left (f.common.protocol == 17) _ (ne_eqb f.common.protocol 17 not17)) (eq-eqb f.offset 0 first)
      (ne_eqb f.common.protocol 6 not6) (ne_eqb f.common.protocol 17 not17) (ne_eqb f.common.protocol 1 not1)
