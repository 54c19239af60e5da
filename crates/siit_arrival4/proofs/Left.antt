-- Where no rule holds, none of the conditions does.
use Rattle.std.proofs.Common.{◌≡◌, ℕ, zero, suc, ◌<◌, List, ◌∷◌, [], length, Bool, true, false, not, ◌&&◌, ◌||◌, ◌==◌, nat_lt, if◌then◌else◌, Option, Some, None, Result, IsOk, is_err, refl, arith, rules}
use Rattle.std.proofs.lemmas.Bool.{ltb-false}
use Rattle.std.specs.List.{list_any}
use Rattle.siit_model.specs.Bytes.{field16}
use Rattle.siit_model.specs.Checksum.{checksum_place}
use Rattle.siit_model.specs.Ipv4.{Ipv4Packet, ipv4_fields, is_short4, is_bad_header4}
use Rattle.siit_fragments.specs.Laws.{HasChecksum}
use Rattle.siit_views.proofs.Read.{read_is_good4}
use Rattle.siit_map.specs.Mapping.{ipv6_for}
use Rattle.siit_rules.specs.declared.rule.Rule.{Rule}
use Rattle.siit_device.specs.Rows.{Row, first_of, or_rule}
use Rattle.siit_device.specs.Rules4.{bytes_rows4, header_rows4, upper_rows4, address_rows4, packet_rule4, first_rule4}
use Rattle.siit_device.specs.Shapes.{least_upper}
use Rattle.siit_arrival4.specs.Unruled.{RulesLeave4}

neither : (a b : Option Rule) → or_rule a b ≡ None → (a ≡ None) × (b ≡ None)
neither None b e = (refl, e)
neither (Some rule) b e = (cc, cc)

-- the condition of the row at a place
holds_at : {P : Type 0} → ℕ → List (Row P) → P → Bool
holds_at n [] packet = false
holds_at zero (r ∷ rows) packet = r.holds packet
holds_at (suc n) (r ∷ rows) packet = holds_at n rows packet

not_this : (test : Bool) (rule : Rule) (later : Option Rule) → (if test then Some rule else later) ≡ None → (test ≡ false) × (later ≡ None)
not_this true rule later e = (cc, cc)
not_this false rule later e = (refl, e)

none_at : {P : Type 0} (n : ℕ) (rows : List (Row P)) (packet : P) → first_of rows packet ≡ None → holds_at n rows packet ≡ false
unfolding holds_at
none_at n [] packet e = refl
none_at zero (r ∷ rows) packet e = (not_this (r.holds packet) r.rule (first_of rows packet) e).0
none_at (suc n) (r ∷ rows) packet e = none_at n rows packet (not_this (r.holds packet) r.rule (first_of rows packet) e).1

read : (short bad : Bool) (packet : Ipv4Packet) → short ≡ false → bad ≡ false → (if short || bad then None else Some packet) ≡ Some packet
read true bad packet e f = cc
read false true packet e f = cc
read false false packet e f = refl

mapped : {T E : Type 0} (r : Result T E) → is_err r ≡ false → IsOk r
mapped r e = grind arith

-- which upper headers hold their checksum
holds_checksum : (icmp tcp udp icmp6 : Bool) (bytes : List ℕ)
    → nat_lt (length bytes) (if tcp then 20 else if udp || icmp then 8 else 0) ≡ false → icmp6 ≡ false
    → HasChecksum (if icmp then Some 2 else if tcp then Some 16 else if udp then Some 6 else if icmp6 then Some 2 else None) bytes
holds_checksum true true udp icmp6 bytes e f = omega (arith, ltb-false (length bytes) 20 e)
holds_checksum true false true icmp6 bytes e f = omega (arith, ltb-false (length bytes) 8 e)
holds_checksum true false false icmp6 bytes e f = omega (arith, ltb-false (length bytes) 8 e)
holds_checksum false true udp icmp6 bytes e f = omega (arith, ltb-false (length bytes) 20 e)
holds_checksum false false true icmp6 bytes e f = omega (arith, ltb-false (length bytes) 8 e)
holds_checksum false false false true bytes e f = cc
holds_checksum false false false false bytes e f = search rules

whole_icmp : (protocol offset mf : ℕ) → mf < 2 → ((protocol == 1) && not ((offset == 0) && (mf == 0))) ≡ false → protocol ≡ 1
    → ((offset == 0) && not (mf == 1)) ≡ true
whole_icmp protocol offset mf bit h one = grind arith

has_sum : (protocol offset mf sum : ℕ)
    → (((protocol == 17) && (offset == 0) && (sum == 0)) && not ((offset == 0) && (mf == 0))) ≡ false → protocol ≡ 17 → offset ≡ 0
    → (mf == 1) ≡ true → 0 < sum
has_sum protocol offset mf sum h udp first more = grind arith

is_zero : (n : ℕ) → n ≡ 0 → (n == 0) ≡ true
is_zero n e = rw e refl

long : (protocol offset : ℕ) (bytes : List ℕ) → ((offset == 0) && nat_lt (length bytes) (least_upper 1 protocol)) ≡ false
    → (protocol == 58) ≡ false → offset ≡ 0 → HasChecksum (checksum_place protocol) bytes
long protocol offset bytes h other first =
    holds_checksum (protocol == 1) (protocol == 6) (protocol == 17) (protocol == 58) bytes
    (second (offset == 0) (nat_lt (length bytes) (least_upper 1 protocol)) h (is_zero offset first)) other
  where
    second : (a b : Bool) → (a && b) ≡ false → a ≡ true → b ≡ false
    second true b e f = e
    second false b e f = cc

clashes : ℕ → Bool
clashes protocol = list_any (λ p. protocol == p) (0 ∷ 43 ∷ 44 ∷ 58 ∷ 60 ∷ [])

no_clash : (protocol n : ℕ) → clashes protocol ≡ false → clashes n ≡ true → protocol ≡ n → ⊥
no_clash protocol n h is e = cc

pub left : RulesLeave4
unfolding bytes_rows4 header_rows4 upper_rows4 address_rows4 packet_rule4 first_rule4 holds_at clashes
left settings bytes small e =
    let packet = ipv4_fields bytes in
    let first = neither (first_of bytes_rows4 bytes) (packet_rule4 settings packet) e in
    let header = neither (first_of header_rows4 packet) _ first.1 in
    let upper = neither (first_of (upper_rows4 settings) packet) _ header.1 in
    let address = neither (first_of (address_rows4 settings) packet) _ upper.1 in
    let is_read = read (is_short4 bytes) (is_bad_header4 bytes) packet (none_at 0 bytes_rows4 bytes first.0) (none_at 1 bytes_rows4 bytes first.0) in
    let good = read_is_good4 bytes packet small is_read in
    let clash : clashes packet.protocol ≡ false = none_at 6 header_rows4 packet header.0 in
    record {
      is_read = is_read;
      alive = ltb-false packet.ttl 2 (none_at 3 header_rows4 packet header.0);
      source_ok = mapped (ipv6_for settings.mapping packet.source) (none_at 2 (address_rows4 settings) packet address.0);
      destination_ok = mapped (ipv6_for settings.mapping packet.destination) (none_at 3 (address_rows4 settings) packet address.0);
      unruled = record {
        source = good.source;
        destination = good.destination;
        id = good.id;
        long = long packet.protocol packet.offset packet.payload (none_at 0 (upper_rows4 settings) packet upper.0) (grind (arith, clash));
        icmp = whole_icmp packet.protocol packet.offset packet.mf good.mf (none_at 1 (upper_rows4 settings) packet upper.0);
        udp = has_sum packet.protocol packet.offset packet.mf (field16 packet.payload 6) (none_at 2 (upper_rows4 settings) packet upper.0);
        clash0 = no_clash packet.protocol 0 clash refl;
        clash43 = no_clash packet.protocol 43 clash refl;
        clash44 = no_clash packet.protocol 44 clash refl;
        clash58 = no_clash packet.protocol 58 clash refl;
        clash60 = no_clash packet.protocol 60 clash refl;
      };
    }
