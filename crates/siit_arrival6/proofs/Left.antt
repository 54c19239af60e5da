-- Where no rule holds, none of the conditions does.
use Rattle.std.proofs.Common.{◌≡◌, ◌⊎◌, inl, inr, ℕ, zero, suc, List, ◌∷◌, [], length, Bool, true, false, not, ◌&&◌, ◌||◌, ◌==◌, nat_lt, if◌then◌else◌, Option, Some, None, Result, Ok, Err, IsOk, is_err, refl, arith, rules}
use Rattle.std.proofs.lemmas.Bool.{ltb-false, eqb-false}
use Rattle.siit_model.specs.Bytes.{AreBytes}
use Rattle.siit_model.specs.Checksum.{checksum_place}
use Rattle.siit_model.specs.Extensions.{Walked, Trouble}
use Rattle.siit_model.specs.Ipv6.{Ipv6Packet, ipv6_fields, ipv6_of, is_short6, is_bad_header6}
use Rattle.siit_fragments.specs.Laws.{HasChecksum}
use Rattle.siit_views.proofs.Read.{read_is_good6}
use Rattle.siit_upper.proofs.Walked.{walks_have_room}
use Rattle.siit_map.specs.Mapping.{ipv4_for}
use Rattle.siit_rules.specs.declared.rule.Rule.{Rule}
use Rattle.siit_roles.specs.declared.settings.Settings.{Settings}
use Rattle.siit_v6to4.specs.To4.{walk_in}
use Rattle.siit_device.specs.Arrival6.{Arrived, arrived_fragment, is_error6}
use Rattle.siit_device.specs.Rows.{Row, first_of, or_rule}
use Rattle.siit_device.specs.Rules6.{bytes_rows6, header_rows6, walk_rows6, upper_rows6, address_rows6, arrived_rule6, walked_rule6, packet_rule6, first_rule6}
use Rattle.siit_device.specs.Shapes.{least_upper}
use Rattle.siit_arrival6.specs.Unruled.{IsLeft6, RulesLeave6}

neither : (a b : Option Rule) → or_rule a b ≡ None → (a ≡ None) × (b ≡ None)
neither None b e = (refl, e)
neither (Some rule) b e = (cc, cc)

-- the condition of the row at a place
holds_at : {P : Type 0} → ℕ → List (Row P) → P → Bool
holds_at n [] packet = false
holds_at zero (r ∷ rows) packet = r.holds packet
holds_at (suc n) (r ∷ rows) packet = holds_at n rows packet

not_this : (test : Bool) (rule : Rule) (later : Option Rule) → (if test then Some rule else later) ≡ None → (test ≡ false) × (later ≡ None)
not_this true rule later e = (cc, cc)
not_this false rule later e = (refl, e)

none_at : {P : Type 0} (n : ℕ) (rows : List (Row P)) (packet : P) → first_of rows packet ≡ None → holds_at n rows packet ≡ false
unfolding holds_at
none_at n [] packet e = refl
none_at zero (r ∷ rows) packet e = (not_this (r.holds packet) r.rule (first_of rows packet) e).0
none_at (suc n) (r ∷ rows) packet e = none_at n rows packet (not_this (r.holds packet) r.rule (first_of rows packet) e).1

read : (short bad : Bool) (packet : Ipv6Packet) → short ≡ false → bad ≡ false → (if short || bad then None else Some packet) ≡ Some packet
read true bad packet e f = cc
read false true packet e f = cc
read false false packet e f = refl

mapped : {T E : Type 0} (r : Result T E) → is_err r ≡ false → IsOk r
mapped r e = grind arith

mapped_or : {T E : Type 0} (error : Bool) (r : Result T E) → (not error && is_err r) ≡ false → IsOk r ⊎ (error ≡ true)
mapped_or true r e = inr refl
mapped_or false r e = inl (mapped r e)

-- which upper headers hold their checksum
holds_checksum : (icmp tcp udp icmp6 : Bool) (bytes : List ℕ)
    → nat_lt (length bytes) (if tcp then 20 else if udp || icmp6 then 8 else 0) ≡ false → icmp ≡ false
    → HasChecksum (if icmp then Some 2 else if tcp then Some 16 else if udp then Some 6 else if icmp6 then Some 2 else None) bytes
holds_checksum true tcp udp icmp6 bytes e f = cc
holds_checksum false true udp icmp6 bytes e f = omega (arith, ltb-false (length bytes) 20 e)
holds_checksum false false true icmp6 bytes e f = omega (arith, ltb-false (length bytes) 8 e)
holds_checksum false false false true bytes e f = omega (arith, ltb-false (length bytes) 8 e)
holds_checksum false false false false bytes e f = search rules

second : (a b : Bool) → (a && b) ≡ false → a ≡ true → b ≡ false
second true b e f = e
second false b e f = cc

is_number : (n m : ℕ) → n ≡ m → (n == m) ≡ true
is_number n m e = grind (arith, e)

long : (protocol offset : ℕ) (bytes : List ℕ) → ((offset == 0) && nat_lt (length bytes) (least_upper 58 protocol)) ≡ false
    → (protocol == 1) ≡ false → offset ≡ 0 → HasChecksum (checksum_place protocol) bytes
long protocol offset bytes h other first =
    holds_checksum (protocol == 1) (protocol == 6) (protocol == 17) (protocol == 58) bytes
    (second (offset == 0) (nat_lt (length bytes) (least_upper 58 protocol)) h (is_number offset 0 first)) other

whole : (icmp is_whole : Bool) → (icmp && not is_whole) ≡ false → icmp ≡ true → is_whole ≡ true
whole true true h e = refl
whole true false h e = cc
whole false is_whole h e = cc

left_by : (settings : Settings) (bytes : List ℕ) (walk : Result Walked Trouble) → AreBytes bytes → ipv6_of bytes ≡ Some (ipv6_fields bytes)
    → walk_in bytes ≡ walk → walked_rule6 settings (ipv6_fields bytes) walk ≡ None → IsLeft6 settings bytes
unfolding walk_rows6 upper_rows6 address_rows6 arrived_rule6 holds_at
left_by settings bytes (Err trouble) small is_read is e = cc
left_by settings bytes (Ok walked) small is_read is e =
    let packet = ipv6_fields bytes in
    let arrived : Arrived = record { packet = packet; walked = walked } in
    let f = arrived_fragment arrived in
    let good = read_is_good6 bytes packet small is_read in
    let room = walks_have_room packet.next packet.body walked good.bytes good.next is in
    let first = neither (first_of walk_rows6 arrived) _ e in
    let upper = neither (first_of upper_rows6 arrived) _ first.1 in
    let address = neither (first_of (address_rows6 settings) arrived) _ upper.1 in
    let clash : (walked.upper == 1) ≡ false = none_at 3 walk_rows6 arrived first.0 in
    record {
      is_read = is_read;
      walked = walked;
      walk = is;
      alive = ltb-false packet.hop 2 (none_at 1 walk_rows6 arrived first.0);
      source_ok = mapped_or (is_error6 f) (ipv4_for settings.mapping packet.source) (none_at 2 (address_rows6 settings) arrived address.0);
      destination_ok = mapped (ipv4_for settings.mapping packet.destination) (none_at 3 (address_rows6 settings) arrived address.0);
      unruled = record {
        source = good.source;
        destination = good.destination;
        id = room.id;
        offset = room.offset;
        long = long f.common.protocol f.offset f.bytes (none_at 0 upper_rows6 arrived upper.0) clash;
        icmp = λ is_icmp. whole (walked.upper == 58) ((f.offset == 0) && not f.more) (none_at 1 upper_rows6 arrived upper.0) (is_number walked.upper 58 is_icmp);
        clash1 = eqb-false walked.upper 1 clash;
      };
    }

pub left : RulesLeave6
unfolding bytes_rows6 first_rule6 holds_at
left settings bytes small e =
    let packet = ipv6_fields bytes in
    let first = neither (first_of bytes_rows6 bytes) (packet_rule6 settings packet) e in
    let header = neither (first_of header_rows6 packet) _ first.1 in
    let is_read = read (is_short6 bytes) (is_bad_header6 bytes) packet (none_at 0 bytes_rows6 bytes first.0) (none_at 1 bytes_rows6 bytes first.0) in
    left_by settings bytes (walk_in bytes) small is_read refl header.1
