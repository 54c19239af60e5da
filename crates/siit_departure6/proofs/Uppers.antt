-- What becomes of an upper part that is not_so ICMP error.
use Rattle.std.proofs.Common.{◌≡◌, ℕ, ◌<◌, ◌≤◌, List, length, Bool, true, false, true≢false, not, ◌&&◌, ◌==◌, if◌then◌else◌, refl, ap, sym, ◌∙◌, arith}
use Rattle.siit_model.specs.Bytes.{field8, with_field16}
use Rattle.siit_model.specs.Fragments.{Fragment, fragment4}
use Rattle.siit_model.specs.Ipv4.{Ipv4Packet}
use Rattle.siit_icmp.specs.Errors.{is_error_kind4}
use Rattle.siit_roles.specs.declared.settings.Settings.{Settings}
use Rattle.siit_checksum.proofs.Fields.{length-if, length-with_field16}
use Rattle.siit_v4to6.specs.To6.{bytes_to_6, ends_4_to_6, ends_to_6, udp_checksum6, upper_to_6}
use Rattle.siit_v4to6.proofs.Good.{upper-length}
use Rattle.siit_device.specs.Addresses.{to6}
use Rattle.siit_device.specs.Arrival4.{is_error4}
use Rattle.siit_device.specs.Forward.{error_to_6, head6_for, is_error_fragment4, lacks_checksum, upper_forward}
use Rattle.siit_arrival4.specs.Arrived.{AreAddresses4, AreMapped6, HasUpper4}
use Rattle.siit_arrival4.specs.declared.arrived.Arrived4.{Arrived4}
use Rattle.siit_arrival4.specs.declared.arrived.Upper4.{Upper4}
use Rattle.siit_arrival4.specs.declared.arrived.Upper4.TheVariants.{Moved, Bare, Error}
use Rattle.siit_departure6.specs.Parts.{is_bare, upper_by}

-- a packet is an ICMP error where its fragment is one
same-tests : (protocol offset mf : ℕ) (kind : Bool) → mf < 2
    → ((protocol == 1) && (((offset == 0) && not (mf == 1)) && kind)) ≡ ((protocol == 1) && ((offset == 0) && (mf == 0)) && kind)
same-tests protocol offset mf kind bit = grind arith

pub error-same : (packet : Ipv4Packet) → packet.mf < 2 → is_error_fragment4 (fragment4 packet) ≡ is_error4 packet
error-same packet bit = same-tests packet.protocol packet.offset packet.mf (is_error_kind4 (field8 packet.payload 0)) bit

-- the three ways of an upper part
choose : (error bare : Bool) (one two three : List ℕ) → error ≡ false → (if error then one else if bare then two else three) ≡ (if bare then two else three)
choose error bare one two three not_so = rw not_so refl

pub forward-error : (settings : Settings) (f : Fragment) → is_error_fragment4 f ≡ true → upper_forward settings f ≡ error_to_6 settings f.common f.bytes
forward-error settings f is = rw is refl

forward-bare : (settings : Settings) (f : Fragment) → is_error_fragment4 f ≡ false → lacks_checksum f ≡ true
    → upper_forward settings f ≡ with_field16 f.bytes 6 (udp_checksum6 (to6 settings f.common.source) (to6 settings f.common.destination) f.bytes)
forward-bare settings f not_so is = choose (is_error_fragment4 f) (lacks_checksum f) _ _ _ not_so ∙ rw is refl

forward-moved : (settings : Settings) (f : Fragment) → is_error_fragment4 f ≡ false → lacks_checksum f ≡ false
    → upper_forward settings f ≡ bytes_to_6 (ends_to_6 (head6_for settings f.common) f.common) (length f.bytes) f
forward-moved settings f not_so has = choose (is_error_fragment4 f) (lacks_checksum f) _ _ _ not_so ∙ rw has refl

-- the upper part by what was found, once each thing found is the packet's
moved-same : (first : Bool) (protocol p a b c d source4 destination4 source6 destination6 : ℕ) (part : List ℕ) → protocol ≡ p → a ≡ source4 → b ≡ destination4 → source6 ≡ c → destination6 ≡ d
    → (if first then upper_to_6 protocol (record { source4 = a; destination4 = b; source6 = c; destination6 = d }) (length part) part else part)
    ≡ (if first then upper_to_6 p (record { source4 = source4; destination4 = destination4; source6 = source6; destination6 = destination6 }) (length part) part else part)
moved-same first protocol p a b c d source4 destination4 source6 destination6 part is_protocol is_a is_b is_c is_d = cc

pub upper-is : (settings : Settings) (packet : Ipv4Packet) (arrived : Arrived4) (upper : Upper4) → packet.mf < 2 → is_error4 packet ≡ false
    → HasUpper4 settings packet upper → arrived.protocol ≡ packet.protocol
    → AreAddresses4 packet.source packet.destination arrived.old → AreMapped6 settings packet.source packet.destination arrived.new
    → upper_by upper arrived (packet.offset == 0) packet.payload ≡ upper_forward settings (fragment4 packet)
upper-is settings packet arrived Moved bit not_so has is_protocol old new =
    moved-same (packet.offset == 0) arrived.protocol packet.protocol arrived.old.src.0 arrived.old.dst.0 arrived.new.src.0 arrived.new.dst.0
    packet.source packet.destination (to6 settings packet.source) (to6 settings packet.destination) packet.payload
    is_protocol old.source_is old.destination_is new.source_is new.destination_is
    ∙ sym (forward-moved settings (fragment4 packet) (error-same packet bit ∙ not_so) has.has_checksum)
upper-is settings packet arrived Bare bit not_so has is_protocol old new =
    ap (λ a. with_field16 packet.payload 6 (udp_checksum6 a arrived.new.dst.0 packet.payload)) (sym new.source_is)
    ∙ ap (λ a. with_field16 packet.payload 6 (udp_checksum6 (to6 settings packet.source) a packet.payload)) (sym new.destination_is)
    ∙ sym (forward-bare settings (fragment4 packet) (error-same packet bit ∙ not_so) has.no_checksum)
upper-is settings packet arrived (Error error) bit not_so has is_protocol old new = absurd (true≢false (sym has.is_error ∙ not_so))

-- it stays as long
pub upper-length_is : (settings : Settings) (packet : Ipv4Packet) (arrived : Arrived4) (upper : Upper4) → HasUpper4 settings packet upper
    → (first : Bool) → length (upper_by upper arrived first packet.payload) ≡ length packet.payload
upper-length_is settings packet arrived Moved has first =
    length-if first _ packet.payload (length packet.payload) (λ (_ : first ≡ true). upper-length arrived.protocol (ends_4_to_6 arrived.old arrived.new) (length packet.payload) packet.payload) refl
upper-length_is settings packet arrived Bare has first =
    length-with_field16 packet.payload 6 (udp_checksum6 arrived.new.src.0 arrived.new.dst.0 packet.payload) (omega (arith, has.header))
upper-length_is settings packet arrived (Error error) has first =
    length-if first _ packet.payload (length packet.payload) (λ (_ : first ≡ true). upper-length arrived.protocol (ends_4_to_6 arrived.old arrived.new) (length packet.payload) packet.payload) refl

-- how long a datagram is whose checksum is computed
pub bare-long : (settings : Settings) (packet : Ipv4Packet) (upper : Upper4) → HasUpper4 settings packet upper → is_bare upper ≡ true → 8 ≤ length packet.payload
bare-long settings packet Moved has bare = absurd (cc)
bare-long settings packet Bare has bare = has.header
bare-long settings packet (Error error) has bare = absurd (cc)

-- the choices of `upper_by`
pub is-bare : (bare : Bool) (one two : List ℕ) → bare ≡ true → (if bare then one else two) ≡ one
is-bare bare one two is = rw is refl

pub is-later : (bare first : Bool) (one two three : List ℕ) → bare ≡ false → first ≡ false → (if bare then one else if first then two else three) ≡ three
is-later bare first one two three is later = rw (is, later) refl

pub is-moved : (bare first : Bool) (one two three : List ℕ) → bare ≡ false → first ≡ true → (if bare then one else if first then two else three) ≡ two
is-moved bare first one two three is begins = rw (is, begins) refl
