-- The packet of a translated ICMP error.
use Rattle.std.proofs.Common.{◌≡◌, ℕ, ◌+◌, ◌<◌, List, ◌++◌, length, drop, Bool, true, false, not, ◌&&◌, ◌==◌, refl, ap, sym, subst, ◌∙◌, arith}
use Rattle.siit_model.specs.Bytes.{field8}
use Rattle.siit_model.specs.Checksum.{pseudo6}
use Rattle.siit_model.specs.Fragments.{Common, Fragment, fragment4, is_whole, plain_packet6}
use Rattle.siit_model.specs.Ipv4.{Ipv4Packet, ipv4_fields, total_length_in}
use Rattle.siit_model.specs.Ipv6.{Ipv6Packet, ipv6_bytes, ipv6_header}
use Rattle.siit_addr.specs.declared.addr.Addresses6.{Addresses6}
use Rattle.siit_icmp.specs.Errors.{is_error_kind4}
use Rattle.siit_roles.specs.declared.settings.Settings.{Settings}
use Rattle.siit_quoted.specs.Errors.{body_to_6, error_moved}
use Rattle.siit_v4to6.specs.To6.{next_header_of}
use Rattle.siit_v4to6.proofs.Heads.{head-is, payload-is}
use Rattle.siit_v4to6.proofs.Packets.{plain-packet}
use Rattle.siit_device.specs.Addresses.{to6}
use Rattle.siit_device.specs.Arrival4.{is_error4, quoted_part4}
use Rattle.siit_device.specs.Forward.{error_by6, error_to_6, rest_to_6, translated6, whole6}
use Rattle.siit_arrival4.specs.Arrived.{AreMapped6, HasArrived4, HasError4, HasErrorPacket4, HasUpper4}
use Rattle.siit_arrival4.specs.declared.arrived.Arrived4.{Arrived4}
use Rattle.siit_arrival4.specs.declared.arrived.Error4.{Error4}
use Rattle.siit_arrival4.specs.declared.arrived.Upper4.{Upper4}
use Rattle.siit_arrival4.specs.declared.arrived.Upper4.TheVariants.{Error}
use Rattle.siit_departure6.specs.Parts.{header_for, message_to_6}
use Rattle.siit_departure6.proofs.Uppers.{error-same, forward-error}

-- the message by what was found
module _ (settings : Settings) (new : Addresses6) (error : Error4) (message : List ℕ) where
  made : (s d qs qd : ℕ) → List ℕ
  made s d qs qd =
      let body = body_to_6 qs qd settings.tos_zero error.new.kind message in
      error_moved 0 (pseudo6 s d 58 (8 + length body.bytes)) error.new.kind error.new.code (rest_to_6 settings error.new.rest body.octet message) body message

  pub message-forward : (common : Common) → HasError4 settings message error → AreMapped6 settings common.source common.destination new
      → message_to_6 settings new error message ≡ error_to_6 settings common message
  unfolding message_to_6 error_to_6 made
  message-forward common has mapped =
      ap (λ s. made s new.dst.0 error.quote.src.0 error.quote.dst.0) (sym mapped.source_is)
      ∙ ap (λ d. made (to6 settings common.source) d error.quote.src.0 error.quote.dst.0) (sym mapped.destination_is)
      ∙ ap (λ s. made (to6 settings common.source) (to6 settings common.destination) s error.quote.dst.0) (sym has.quote.source_is)
      ∙ ap (λ d. made (to6 settings common.source) (to6 settings common.destination) (to6 settings (ipv4_fields (quoted_part4 message)).source) d) (sym has.quote.destination_is)
      ∙ ap (error_by6 settings common message) (sym has.kind)

-- what the tests of an ICMP error say
record IsIcmp (packet : Ipv4Packet) : Type 0 where
  protocol : packet.protocol ≡ 1
  whole : is_whole (fragment4 packet) ≡ true

icmp-tests : (protocol offset mf : ℕ) (kind : Bool) → mf < 2 → ((protocol == 1) && ((offset == 0) && (mf == 0)) && kind) ≡ true
    → (protocol ≡ 1) × (((offset == 0) && not (mf == 1)) ≡ true)
icmp-tests protocol offset mf kind bit is = (grind arith, grind arith)

is-icmp : (packet : Ipv4Packet) → packet.mf < 2 → is_error4 packet ≡ true → IsIcmp packet
is-icmp packet bit is =
    let tests = icmp-tests packet.protocol packet.offset packet.mf (is_error_kind4 (field8 packet.payload 0)) bit is in
    record { protocol = tests.0; whole = tests.1 }

icmp-next : (protocol : ℕ) → protocol ≡ 1 → 58 ≡ next_header_of protocol
icmp-next protocol is = rw is refl

pub error-packet : (settings : Settings) (bytes : List ℕ) (arrived : Arrived4) (error : Error4) (fields : Ipv6Packet) (at len : ℕ) (message header made : List ℕ)
    → HasArrived4 settings bytes arrived → arrived.upper ≡ Error error → length bytes ≡ total_length_in bytes → at ≡ arrived.header_len
    → fields ≡ header_for settings arrived.new (ipv4_fields bytes)
    → message ≡ message_to_6 settings arrived.new error (drop at bytes)
    → len ≡ length message → header ≡ ipv6_header len fields → made ≡ header ++ message
    → made ≡ ipv6_bytes (whole6 settings (ipv4_fields bytes))
error-packet settings bytes arrived error fields at len message header made has is_upper whole is_at is_fields is_message is_len is_header is_made =
    let packet : Ipv4Packet = ipv4_fields bytes in
    let f : Fragment = fragment4 packet in
    let t : Fragment = translated6 settings f in
    let bit : packet.mf < 2 = omega arith in
    let upper : HasErrorPacket4 settings packet error = subst (λ (u : Upper4). HasUpper4 settings packet u) is_upper has.upper in
    let icmp = is-icmp packet bit upper.is_error in
    let payload : drop at bytes ≡ packet.payload = ap (λ n. drop n bytes) (is_at ∙ has.header_len) ∙ sym (payload-is bytes whole) in
    let body : message ≡ t.bytes =
    is_message ∙ ap (message_to_6 settings arrived.new error) payload ∙ message-forward settings arrived.new error packet.payload f.common upper.message has.new
    ∙ sym (forward-error settings f (error-same packet bit ∙ upper.is_error)) in
    let plain : whole6 settings packet ≡ plain_packet6 t = plain-packet false t (ap not icmp.whole) in
    head-is (plain_packet6 t) fields len made header message
    (is_fields
    ∙ ap (λ a. record (header_for settings arrived.new packet) { source = a }) (sym has.new.source_is)
    ∙ ap (λ a. record (header_for settings arrived.new packet) { source = to6 settings packet.source; destination = a }) (sym has.new.destination_is)
    ∙ ap (λ n. record (header_for settings arrived.new packet) { source = to6 settings packet.source; destination = to6 settings packet.destination; next = n }) (icmp-next packet.protocol icmp.protocol))
    (is_len ∙ ap length body) is_header body is_made
    ∙ ap ipv6_bytes (sym plain)
