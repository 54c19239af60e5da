-- The written form of an IPv6 packet is read as that packet.
use Rattle.std.proofs.Common.{◌≡◌, ℕ, ◌+◌, ◌*◌, ◌/◌, ◌%◌, ◌^◌, ◌<◌, ◌≤◌, List, length, take, Bool, true, false, nat_lt, ◌==◌, ◌&&◌, ◌||◌, if◌then◌else◌, not, eq-eqb, None, ◌∙◌, ap, refl, arith, Some}
use Rattle.std.proofs.lemmas.List.{take_all}
use Rattle.std.proofs.lemmas.Bool.{le-ltb}
use Rattle.siit_model.specs.Bytes.{field32}
use Rattle.siit_model.specs.Ipv6.{Ipv6Packet, IsGoodIpv6, ipv6_of, ipv6_bytes, ipv6_bytes_as, ipv6_fields, version6_in, payload_length_in}
use Rattle.siit_checksum.proofs.Digits.{two-read, four-read, sixteen-read}
use Rattle.siit_v4to6.specs.Laws.{IsHeader6}

-- the first four bytes: version, traffic class and flow label
first-word : (len : ℕ) (packet : Ipv6Packet) → IsHeader6 packet → field32 (ipv6_bytes_as len packet) 0 ≡ 6 * 2 ^ 28 + packet.class * 2 ^ 20 + packet.flow
first-word len packet good = four-read (6 * 2 ^ 28 + packet.class * 2 ^ 20 + packet.flow) (omega (arith, good.class, good.flow))

-- what is read of a word of four bytes
word-version : (a b c d class flow : ℕ) → class < 256 → flow < 1048576 → a < 256 → b < 256 → c < 256 → d < 256
    → (a * 256 + b) * 65536 + (c * 256 + d) ≡ 6 * 2 ^ 28 + class * 2 ^ 20 + flow → a / 16 ≡ 6
word-version a b c d class flow small_class small_flow small_a small_b small_c small_d is_word = omega arith

word-class : (a b c d class flow : ℕ) → class < 256 → flow < 1048576 → a < 256 → b < 256 → c < 256 → d < 256
    → (a * 256 + b) * 65536 + (c * 256 + d) ≡ 6 * 2 ^ 28 + class * 2 ^ 20 + flow → (a * 256 + b) / 16 % 256 ≡ class
word-class a b c d class flow small_class small_flow small_a small_b small_c small_d is_word = omega arith

word-flow : (word class flow : ℕ) → flow < 1048576 → word ≡ 6 * 2 ^ 28 + class * 2 ^ 20 + flow → word % 1048576 ≡ flow
word-flow word class flow small_flow is_word = omega arith

-- a packet by its fields
packet-same : (packet : Ipv6Packet) (class flow hop source destination next : ℕ) (body : List ℕ)
    → class ≡ packet.class → flow ≡ packet.flow → hop ≡ packet.hop → source ≡ packet.source → destination ≡ packet.destination → next ≡ packet.next → body ≡ packet.body
    → record { class = class; flow = flow; hop = hop; source = source; destination = destination; next = next; body = body } ≡ packet
packet-same packet class flow hop source destination next body is_class is_flow is_hop is_source is_destination is_next is_body =
    rw (is_class, is_flow, is_hop, is_source, is_destination, is_next, is_body) refl

pub version-written : (len : ℕ) (packet : Ipv6Packet) → IsHeader6 packet → version6_in (ipv6_bytes_as len packet) ≡ 6
version-written len packet good =
    word-version _ _ _ _ packet.class packet.flow good.class good.flow (omega arith) (omega arith) (omega arith) (omega arith) (first-word len packet good)

pub length-written : (len : ℕ) (packet : Ipv6Packet) → length (ipv6_bytes_as len packet) ≡ 40 + length packet.body
length-written len packet = omega arith

pub payload_length-written : (len : ℕ) (packet : Ipv6Packet) → len < 65536 → payload_length_in (ipv6_bytes_as len packet) ≡ len
payload_length-written len packet small = two-read len small

pub fields-written : (len : ℕ) (packet : Ipv6Packet) → IsHeader6 packet → length packet.body ≤ len → len < 65536 → ipv6_fields (ipv6_bytes_as len packet) ≡ packet
fields-written len packet good there small =
    packet-same packet _ _ _ _ _ _ _
    (word-class _ _ _ _ packet.class packet.flow good.class good.flow (omega arith) (omega arith) (omega arith) (omega arith) (first-word len packet good))
    (word-flow _ packet.class packet.flow good.flow (first-word len packet good))
    refl (sixteen-read packet.source good.source) (sixteen-read packet.destination good.destination) refl
    (ap (λ n. take n packet.body) (payload_length-written len packet small) ∙ take_all len packet.body there)

-- the tests of a reader, once each is known
tests-pass : (no_header is_six cut : Bool) (packet : Ipv6Packet) → no_header ≡ false → is_six ≡ true → cut ≡ false
    → (if (no_header || (is_six && cut)) || not is_six then None else Some packet) ≡ Some packet
tests-pass no_header is_six cut packet one two three = rw (one, two, three) refl

-- a packet that is neither short nor bad is read
read-fields : (bytes : List ℕ) → 40 + payload_length_in bytes ≤ length bytes → version6_in bytes ≡ 6 → ipv6_of bytes ≡ Some (ipv6_fields bytes)
read-fields bytes fits version =
    tests-pass (nat_lt (length bytes) 40) (version6_in bytes == 6) (nat_lt (length bytes) (40 + payload_length_in bytes)) (ipv6_fields bytes)
    (le-ltb (length bytes) 40 (omega arith)) (eq-eqb (version6_in bytes) 6 version) (le-ltb (length bytes) (40 + payload_length_in bytes) fits)

header-of : (packet : Ipv6Packet) → IsGoodIpv6 packet → IsHeader6 packet
header-of packet good = record { class = good.class; flow = good.flow; source = good.source; destination = good.destination }

pub written_is_read6 : (packet : Ipv6Packet) → IsGoodIpv6 packet → ipv6_of (ipv6_bytes packet) ≡ Some packet
written_is_read6 packet good =
    let header = header-of packet good in
    let len : ℕ = length packet.body in
    let fits : len < 65536 = omega (arith, good.fits) in
    read-fields (ipv6_bytes packet) (omega (arith, length-written len packet, payload_length-written len packet fits)) (version-written len packet header)
    ∙ ap (λ p. Some p) (fields-written len packet header (omega arith) fits)
