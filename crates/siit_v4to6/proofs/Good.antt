-- The packets that are made have a written form.
use Rattle.std.proofs.Common.{◌≡◌, ℕ, ◌+◌, ◌*◌, ◌^◌, ◌<◌, ◌≤◌, List, [], ◌∷◌, ◌++◌, length, Bool, true, ◌==◌, if◌then◌else◌, refl, subst, sym, arith, length-append}
use Rattle.std.proofs.lemmas.Bool.{cond_both}
use Rattle.std.proofs.lemmas.Bool.Decides.{nat_tests}
use Rattle.siit_model.specs.Bytes.{AreBytes, bytes16, bytes32, field8, flag_bit}
use Rattle.siit_model.specs.Extensions.{FragmentFields, fragment_header}
use Rattle.siit_model.specs.Fragments.{Fragment, fields_of, fragment4}
use Rattle.siit_model.specs.Ipv4.{Ipv4Packet, IsGoodIpv4}
use Rattle.siit_model.specs.Ipv6.{IsGoodIpv6}
use Rattle.siit_model.specs.Upper.{Ends}
use Rattle.siit_icmp.specs.Icmp.{echo_kind6}
use Rattle.siit_v4to6.specs.Laws.{FitsIpv6}
use Rattle.siit_v4to6.specs.To6.{Head6, next_header_of, is_echo4, upper_to_6, bytes_to_6, translated_to_6, ends_to_6, has_fragment_header, fragment_part, packet6}
use Rattle.siit_checksum.proofs.Fields.{bytes-append, bytes-bytes16, bytes-bytes32, bytes-cons, bytes-if, length-if}
use Rattle.siit_upper.proofs.Moved.{bytes-echo_moved, bytes-tcp_moved, bytes-udp_moved, length-echo_moved, length-tcp_moved, length-udp_moved}

echo_kind-byte : (kind : ℕ) → echo_kind6 kind < 256
echo_kind-byte kind = grind (arith, nat_tests)

next_header-byte : (protocol : ℕ) → protocol < 256 → next_header_of protocol < 256
next_header-byte protocol small = grind (arith, nat_tests)

-- the upper part stays bytes
pub upper-bytes : (protocol : ℕ) (ends : Ends) (whole : ℕ) (part : List ℕ) → AreBytes part → AreBytes (upper_to_6 protocol ends whole part)
upper-bytes protocol ends whole part small =
    bytes-if (protocol == 6) _ _ (bytes-tcp_moved _ _ part small)
    (bytes-if (protocol == 17) _ _ (bytes-udp_moved _ _ part small)
    (bytes-if (protocol == 1) _ part (bytes-if (is_echo4 part) _ part (bytes-echo_moved (echo_kind6 (field8 part 0)) 0 _ part (echo_kind-byte (field8 part 0)) small) small) small))

-- the upper part stays as long
pub upper-length : (protocol : ℕ) (ends : Ends) (whole : ℕ) (part : List ℕ) → length (upper_to_6 protocol ends whole part) ≡ length part
upper-length protocol ends whole part =
    length-if (protocol == 6) _ _ (length part) (λ (_ : (protocol == 6) ≡ true). length-tcp_moved _ _ part)
    (length-if (protocol == 17) _ _ (length part) (λ (_ : (protocol == 17) ≡ true). length-udp_moved _ _ part)
    (length-if (protocol == 1) _ part (length part) (λ (_ : (protocol == 1) ≡ true).
    length-if (is_echo4 part) _ part (length part) (λ (_ : is_echo4 part ≡ true). length-echo_moved _ 0 _ part) refl) refl))

pub to_6-bytes : (ends : Ends) (sent : ℕ) (f : Fragment) → AreBytes f.bytes → AreBytes (bytes_to_6 ends sent f)
to_6-bytes ends sent f small = bytes-if (f.offset == 0) _ f.bytes (upper-bytes f.common.protocol ends sent f.bytes small) small

pub to_6-length : (ends : Ends) (sent : ℕ) (f : Fragment) → length (bytes_to_6 ends sent f) ≡ length f.bytes
to_6-length ends sent f = length-if (f.offset == 0) _ f.bytes (length f.bytes) (λ (_ : (f.offset == 0) ≡ true). upper-length f.common.protocol ends sent f.bytes) refl

bytes-fragment_header : (next : ℕ) (fields : FragmentFields) → next < 256 → AreBytes (fragment_header next fields)
bytes-fragment_header next fields small =
    let shape : ℕ = 8 * fields.offset + flag_bit fields.more in
    bytes-cons next (0 ∷ (bytes16 shape ++ bytes32 fields.id)) small
    (bytes-cons 0 (bytes16 shape ++ bytes32 fields.id) (omega arith)
    (bytes-append (bytes16 shape) (bytes32 fields.id) (bytes-bytes16 shape) (bytes-bytes32 fields.id)))

-- a Fragment header has 8 bytes
pub part-length : (asked : Bool) (f : Fragment) → length (fragment_part asked f) ≡ (if has_fragment_header asked f then 8 else 0)
part-length asked f =
    cond_both (has_fragment_header asked f) (fragment_header f.common.protocol (fields_of f)) [] (λ l. length l ≡ (if has_fragment_header asked f then 8 else 0)) (λ has. rw has refl) (λ has. rw has refl)

part-most : (asked : Bool) (f : Fragment) → length (fragment_part asked f) ≤ 8
part-most asked f = cond_both (has_fragment_header asked f) (fragment_header f.common.protocol (fields_of f)) [] (λ l. length l ≤ 8) (λ _. omega arith) (λ _. omega arith)

first-byte : (asked : Bool) (f : Fragment) → f.common.protocol < 256 → (if has_fragment_header asked f then 44 else f.common.protocol) < 256
first-byte asked f small = cond_both (has_fragment_header asked f) 44 f.common.protocol (λ n. n < 256) (λ _. omega arith) (λ _. small)

pub made_is_good6 : (asked : Bool) (f : Fragment) → FitsIpv6 f → IsGoodIpv6 (packet6 asked f)
made_is_good6 asked f good = record {
  class = good.class;
  flow = omega arith;
  hop = good.hop;
  source = good.source;
  destination = good.destination;
  next = first-byte asked f good.protocol;
  fits = omega (arith, length-append (fragment_part asked f) f.bytes, part-most asked f, good.fits);
  bytes = bytes-append (fragment_part asked f) f.bytes
      (bytes-if (has_fragment_header asked f) (fragment_header f.common.protocol (fields_of f)) [] (bytes-fragment_header f.common.protocol (fields_of f) good.protocol) (λ (place : ℕ). omega arith)) good.bytes;
}

pub translated_is_good6 : (asked : Bool) (head : Head6) (sent : ℕ) (packet : Ipv4Packet) → IsGoodIpv4 packet
    → head.source < 2 ^ 128 → head.destination < 2 ^ 128 → head.class < 256 → head.hop < 256
    → IsGoodIpv6 (packet6 asked (translated_to_6 head sent (fragment4 packet)))
translated_is_good6 asked head sent packet good small_source small_destination small_class small_hop =
    let f : Fragment = fragment4 packet in
    let ends : Ends = ends_to_6 head f.common in
    made_is_good6 asked (translated_to_6 head sent f) (record {
      class = small_class;
      hop = small_hop;
      protocol = next_header-byte packet.protocol good.protocol;
      source = small_source;
      destination = small_destination;
      bytes = to_6-bytes ends sent f good.payload_bytes;
      fits = subst (λ n. 8 + n ≤ 65535) (sym (to_6-length ends sent f)) (omega (arith, good.fits));
    })
