-- The packets that are made have a written form.
use Rattle.std.proofs.Common.{◌≡◌, ℕ, ◌+◌, ◌<◌, ◌≤◌, List, length, drop, Bool, true, false, ◌==◌, Ok, refl, subst, sym, arith}
use Rattle.std.proofs.lemmas.Bool.Decides.{nat_tests}
use Rattle.siit_model.specs.Bytes.{AreBytes, field8, flag_bit}
use Rattle.siit_model.specs.Extensions.{Walked, walk_of}
use Rattle.siit_model.specs.Fragments.{Fragment, fragment_by, packet4}
use Rattle.siit_model.specs.Ipv4.{IsGoodIpv4}
use Rattle.siit_model.specs.Ipv6.{Ipv6Packet, IsGoodIpv6}
use Rattle.siit_model.specs.Upper.{Ends}
use Rattle.siit_icmp.specs.Icmp.{echo_kind4}
use Rattle.siit_upper.specs.Laws.{HasRoom}
use Rattle.siit_v6to4.specs.Laws.{FitsIpv4}
use Rattle.siit_v6to4.specs.To4.{Head4, protocol_of, is_echo6, upper_to_4, bytes_to_4, translated_to_4, ends_to_4}
use Rattle.siit_checksum.proofs.Fields.{bytes-drop, bytes-if, length-if}
use Rattle.siit_upper.proofs.Moved.{bytes-echo_moved, bytes-tcp_moved, bytes-udp_moved, length-echo_moved, length-tcp_moved, length-udp_moved}
use Rattle.siit_upper.proofs.Walked.{walks_have_room}

echo_kind-byte : (kind : ℕ) → echo_kind4 kind < 256
echo_kind-byte kind = grind (arith, nat_tests)

protocol-byte : (protocol : ℕ) → protocol < 256 → protocol_of protocol < 256
protocol-byte protocol small = grind (arith, nat_tests)

-- the upper part stays bytes
pub upper-bytes : (protocol : ℕ) (ends : Ends) (whole : ℕ) (part : List ℕ) → AreBytes part → AreBytes (upper_to_4 protocol ends whole part)
upper-bytes protocol ends whole part small =
    bytes-if (protocol == 6) _ _ (bytes-tcp_moved _ _ part small)
    (bytes-if (protocol == 17) _ _ (bytes-udp_moved _ _ part small)
    (bytes-if (protocol == 58) _ part (bytes-if (is_echo6 part) _ part (bytes-echo_moved (echo_kind4 (field8 part 0)) _ 0 part (echo_kind-byte (field8 part 0)) small) small) small))

-- the upper part stays as long
pub upper-length : (protocol : ℕ) (ends : Ends) (whole : ℕ) (part : List ℕ) → length (upper_to_4 protocol ends whole part) ≡ length part
upper-length protocol ends whole part =
    length-if (protocol == 6) _ _ (length part) (λ (_ : (protocol == 6) ≡ true). length-tcp_moved _ _ part)
    (length-if (protocol == 17) _ _ (length part) (λ (_ : (protocol == 17) ≡ true). length-udp_moved _ _ part)
    (length-if (protocol == 58) _ part (length part) (λ (_ : (protocol == 58) ≡ true).
    length-if (is_echo6 part) _ part (length part) (λ (_ : is_echo6 part ≡ true). length-echo_moved _ _ 0 part) refl) refl))

pub to_4-bytes : (ends : Ends) (sent : ℕ) (f : Fragment) → AreBytes f.bytes → AreBytes (bytes_to_4 ends sent f)
to_4-bytes ends sent f small = bytes-if (f.offset == 0) _ f.bytes (upper-bytes f.common.protocol ends sent f.bytes small) small

pub to_4-length : (ends : Ends) (sent : ℕ) (f : Fragment) → length (bytes_to_4 ends sent f) ≡ length f.bytes
to_4-length ends sent f = length-if (f.offset == 0) _ f.bytes (length f.bytes) (λ (_ : (f.offset == 0) ≡ true). upper-length f.common.protocol ends sent f.bytes) refl

flag-small : (flag : Bool) → flag_bit flag < 2
flag-small true = omega arith
flag-small false = omega arith

pub made_is_good4 : (df : ℕ) (f : Fragment) → df < 2 → FitsIpv4 f → IsGoodIpv4 (packet4 df f)
made_is_good4 df f small good = record {
  tos = good.class;
  id = good.id;
  df = small;
  mf = flag-small f.more;
  offset = good.offset;
  ttl = good.hop;
  protocol = good.protocol;
  source = good.source;
  destination = good.destination;
  whole_words = refl;
  few_options = omega arith;
  fits = good.fits;
  option_bytes = λ (place : ℕ). omega arith;
  payload_bytes = good.bytes;
}

pub translated_is_good4 : (df : ℕ) (head : Head4) (sent : ℕ) (walked : Walked) (packet : Ipv6Packet) → df < 2 → IsGoodIpv6 packet
    → walk_of packet.next packet.body ≡ Ok walked → 20 + length (drop walked.at packet.body) ≤ 65535
    → head.source < 4294967296 → head.destination < 4294967296 → head.tos < 256 → head.ttl < 256 → head.id < 65536
    → IsGoodIpv4 (packet4 df (translated_to_4 head sent (fragment_by packet walked)))
translated_is_good4 df head sent walked packet small_df good walk fits small_source small_destination small_tos small_ttl small_id =
    let f : Fragment = fragment_by packet walked in
    let ends : Ends = ends_to_4 head f.common in
    let room : HasRoom walked = walks_have_room packet.next packet.body walked good.bytes good.next walk in
    made_is_good4 df (translated_to_4 head sent f) small_df (record {
      class = small_tos;
      hop = small_ttl;
      protocol = protocol-byte walked.upper room.upper;
      source = small_source;
      destination = small_destination;
      id = small_id;
      offset = room.offset;
      bytes = to_4-bytes ends sent f (bytes-drop walked.at packet.body good.bytes);
      fits = subst (λ n. 20 + n ≤ 65535) (sym (to_4-length ends sent f)) fits;
    })
