-- The upper part of a first fragment on the IPv4 side is that of its datagram.
use Rattle.std.proofs.Common.{◌≡◌, ℕ, ◌+◌, ◌-◌, ◌^◌, ◌<◌, ◌≤◌, List, length, Bool, true, false, not, ◌&&◌, ◌==◌, nat_lt, if◌then◌else◌, is_err, Some, ◌∙◌, ap, refl, arith, eq-eqb, ne_eqb, lt-ltb, le-ltb}
use Rattle.std.proofs.lemmas.Bool.{cond-false, and_left, and_right}
use Rattle.siit_model.specs.Bytes.{field16, with_field16}
use Rattle.siit_model.specs.Checksum.{moved, moved_udp, pseudo4, pseudo6, without_zero}
use Rattle.siit_model.specs.Fragments.{Common, Fragment, is_whole}
use Rattle.siit_model.specs.Upper.{has_field16}
use Rattle.siit_fragments.specs.Laws.{with_checksum}
use Rattle.siit_map.specs.Mapping.{ipv4_for}
use Rattle.siit_quoted.specs.Quotes.{written_class}
use Rattle.siit_roles.specs.Pool.{pool_source}
use Rattle.siit_roles.specs.declared.settings.Settings.{Settings}
use Rattle.siit_v6to4.specs.To4.{Head4, bytes_to_4, ends_to_4}
use Rattle.siit_device.specs.Addresses.{to4}
use Rattle.siit_device.specs.Arrival6.{is_error6}
use Rattle.siit_device.specs.Backward.{address_in, error_to_4, head4_for, source_to_4, upper_backward}
use Rattle.siit_cutting.proofs.Lengths.{to_4-any_length}

pub no-error6 : (f : Fragment) → (f.common.protocol ≡ 58 → ⊥) → is_error6 f ≡ false
no-error6 f icmp = and_left (f.common.protocol == 58) _ (ne_eqb f.common.protocol 58 icmp)

-- the new header of what is no ICMPv6 error: both addresses are mapped
abbrev pub plain_head : Settings → (id : ℕ) → Common → Head4
plain_head settings id common = record {
  source = to4 settings common.source;
  destination = to4 settings common.destination;
  tos = written_class settings.tos_zero common.class;
  ttl = common.hop - 1;
  id = id;
}

pub head-is : (settings : Settings) (id : ℕ) (f : Fragment) → is_error6 f ≡ false → head4_for settings id f ≡ plain_head settings id f.common
head-is settings id f error =
    ap (λ s. record (plain_head settings id f.common) { source = s })
    (cond-false (is_error6 f && is_err (ipv4_for settings.mapping f.common.source)) (address_in (pool_source settings.pool4 id)) (to4 settings f.common.source)
    (and_left (is_error6 f) _ error))

-- the upper part of what is no ICMPv6 error
abbrev plain_upper : Settings → Fragment → List ℕ
plain_upper settings f = bytes_to_4 (ends_to_4 (plain_head settings 0 f.common) f.common) (length f.bytes) f

upper-is : (settings : Settings) (id : ℕ) (f : Fragment) → is_error6 f ≡ false → upper_backward settings (head4_for settings id f) f ≡ plain_upper settings f
upper-is settings id f error =
    cond-false (is_error6 f) (error_to_4 settings f.common f.bytes) (bytes_to_4 (ends_to_4 (head4_for settings id f) f.common) (length f.bytes) f) error
    ∙ ap (λ h. bytes_to_4 (ends_to_4 h f.common) (length f.bytes) f) (head-is settings id f error)

-- both addresses have their bits in both families
pub record InRange4 (settings : Settings) (common : Common) : Type 0 where
  pub source : common.source < 2 ^ 128
  pub destination : common.destination < 2 ^ 128
  pub source4 : to4 settings common.source < 2 ^ 32
  pub destination4 : to4 settings common.destination < 2 ^ 32

abbrev pub tcp_to_4 : Settings → Common → ℕ → ℕ → ℕ
tcp_to_4 settings common n c =
    moved c (pseudo6 common.source common.destination 6 n) (pseudo4 (to4 settings common.source) (to4 settings common.destination) 6 n)

abbrev pub udp_to_4 : Settings → Common → ℕ → ℕ → ℕ
udp_to_4 settings common n c =
    moved_udp c (pseudo6 common.source common.destination 17 n) (pseudo4 (to4 settings common.source) (to4 settings common.destination) 17 n)

-- the branch that is taken
pick-tcp : (first six : Bool) (c d e : List ℕ) → first ≡ true → six ≡ true → (if first then (if six then c else d) else e) ≡ c
pick-tcp first six c d e f g = rw (f, g) refl

pick-udp : (first six seventeen : Bool) (c d e k : List ℕ) → first ≡ true → six ≡ false → seventeen ≡ true
    → (if first then (if six then c else if seventeen then d else e) else k) ≡ d
pick-udp first six seventeen c d e k f g h = rw (f, g, h) refl

pick-other : (first six seventeen icmp : Bool) (c d e o k : List ℕ) → first ≡ true → six ≡ false → seventeen ≡ false → icmp ≡ false
    → (if first then (if six then c else if seventeen then d else if icmp then e else o) else k) ≡ o
pick-other first six seventeen icmp c d e o k f g h i = rw (f, g, h, i) refl

-- a later fragment keeps its bytes
pub upper4-later : (settings : Settings) (id : ℕ) (f : Fragment) → 0 < f.offset → upper_backward settings (head4_for settings id f) f ≡ f.bytes
upper4-later settings id f later =
    let offset : (f.offset == 0) ≡ false = ne_eqb f.offset 0 (λ (first : f.offset ≡ 0). omega arith) in
    upper-is settings id f (and_right (f.common.protocol == 58) _ (and_left (is_whole f) _ (and_left (f.offset == 0) (not f.more) offset)))
    ∙ cond-false (f.offset == 0) _ f.bytes offset

module _ (settings : Settings) (id : ℕ) (f : Fragment) (range : InRange4 settings f.common) (n : ℕ) (small : length f.bytes < 65536) (small_n : n < 65536)
    (first : f.offset ≡ 0) where
  -- a length other than the fragment's
  any_length : (protocol c : ℕ)
      → moved c (pseudo6 f.common.source f.common.destination protocol (length f.bytes)) (pseudo4 (to4 settings f.common.source) (to4 settings f.common.destination) protocol (length f.bytes))
      ≡ moved c (pseudo6 f.common.source f.common.destination protocol n) (pseudo4 (to4 settings f.common.source) (to4 settings f.common.destination) protocol n)
  any_length protocol c =
      to_4-any_length c (to4 settings f.common.source) (to4 settings f.common.destination) f.common.source f.common.destination protocol (length f.bytes) n
      range.source4 range.destination4 range.source range.destination small small_n

  pub upper4-tcp : f.common.protocol ≡ 6
      → upper_backward settings (head4_for settings id f) f ≡ with_checksum (Some 16) (tcp_to_4 settings f.common n) f.bytes
  upper4-tcp is =
      upper-is settings id f (no-error6 f (λ (icmp : f.common.protocol ≡ 58). omega arith))
      ∙ pick-tcp (f.offset == 0) (f.common.protocol == 6) _ _ _ (eq-eqb f.offset 0 first) (eq-eqb f.common.protocol 6 is)
      ∙ ap (λ v. if has_field16 f.bytes 16 then with_field16 f.bytes 16 v else f.bytes) (any_length 6 (field16 f.bytes 16))

  picked-udp : f.common.protocol ≡ 17 → upper_backward settings (head4_for settings id f) f
      ≡ (if has_field16 f.bytes 6 && nat_lt 0 (field16 f.bytes 6) then with_field16 f.bytes 6 (udp_to_4 settings f.common (length f.bytes) (field16 f.bytes 6)) else f.bytes)
  picked-udp is =
      upper-is settings id f (no-error6 f (λ (icmp : f.common.protocol ≡ 58). omega arith))
      ∙ pick-udp (f.offset == 0) (f.common.protocol == 6) (f.common.protocol == 17) _ _ _ _
      (eq-eqb f.offset 0 first) (ne_eqb f.common.protocol 6 (λ (tcp : f.common.protocol ≡ 6). omega arith)) (eq-eqb f.common.protocol 17 is)

  pub upper4-udp : f.common.protocol ≡ 17 → 0 < field16 f.bytes 6
      → upper_backward settings (head4_for settings id f) f ≡ with_checksum (Some 6) (udp_to_4 settings f.common n) f.bytes
  upper4-udp is some =
      picked-udp is
      ∙ ap (λ b. if b then with_field16 f.bytes 6 (udp_to_4 settings f.common (length f.bytes) (field16 f.bytes 6)) else f.bytes)
      (both (has_field16 f.bytes 6) (nat_lt 0 (field16 f.bytes 6)) (lt-ltb 0 (field16 f.bytes 6) some))
      ∙ ap (λ v. if has_field16 f.bytes 6 then with_field16 f.bytes 6 (without_zero v) else f.bytes) (any_length 17 (field16 f.bytes 6))
    where
      both : (x y : Bool) → y ≡ true → (x && y) ≡ x
      both true y e = e
      both false y e = refl

  -- a checksum of 0 stays
  pub upper4-udp_none : f.common.protocol ≡ 17 → field16 f.bytes 6 ≡ 0 → upper_backward settings (head4_for settings id f) f ≡ f.bytes
  upper4-udp_none is none =
      picked-udp is
      ∙ cond-false (has_field16 f.bytes 6 && nat_lt 0 (field16 f.bytes 6)) _ f.bytes
      (and_right (has_field16 f.bytes 6) (nat_lt 0 (field16 f.bytes 6)) (le-ltb 0 (field16 f.bytes 6) (omega arith)))

  pub upper4-other : (f.common.protocol ≡ 6 → ⊥) → (f.common.protocol ≡ 17 → ⊥) → (f.common.protocol ≡ 58 → ⊥)
      → upper_backward settings (head4_for settings id f) f ≡ f.bytes
  upper4-other not6 not17 not58 =
      upper-is settings id f (no-error6 f not58)
      ∙ pick-other (f.offset == 0) (f.common.protocol == 6) (f.common.protocol == 17) (f.common.protocol == 58) _ _ _ f.bytes _
      (eq-eqb f.offset 0 first) (ne_eqb f.common.protocol 6 not6) (ne_eqb f.common.protocol 17 not17) (ne_eqb f.common.protocol 58 not58)
