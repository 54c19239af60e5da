-- Packets between both devices are read as they were written.
use Rattle.std.proofs.Common.{◌≡◌, ℕ, ◌+◌, ◌-◌, ◌*◌, ◌/◌, ◌^◌, ◌<◌, ◌≤◌, List, [], ◌++◌, length, take, drop, replicate, All, Bool, true, false, ◌&&◌, ◌||◌, ◌==◌, nat_le, if◌then◌else◌, Option, Some, None, Result, Ok, Err, ◌∙◌, ap, sym, subst, refl, arith}
use Rattle.std.proofs.lemmas.Bool.{cond_both, cond-true, leb-true}
use Rattle.std.proofs.lemmas.List.{length-append, length-replicate, length-take}
use Rattle.std.proofs.lemmas.List.Elements.{All-cons, All-nil, All-map}
use Rattle.siit_model.specs.Bytes.{field8}
use Rattle.siit_model.specs.Checksum.{pseudo6}
use Rattle.siit_model.specs.Extensions.{fragment_header}
use Rattle.siit_model.specs.Fragments.{Common, Fragment, fields_of, fragment4, fragment_packet6}
use Rattle.siit_model.specs.Ipv4.{Ipv4Packet, ipv4_fields}
use Rattle.siit_model.specs.Ipv6.{Ipv6Packet, ipv6_bytes, ipv6_fields}
use Rattle.siit_icmp.specs.Icmp.{icmp_to_6}
use Rattle.siit_icmp.specs.declared.kinds.NewKind.{NewKind}
use Rattle.siit_icmp.specs.declared.kinds.Rest.{Rest}
use Rattle.siit_icmp.specs.declared.kinds.Rest.TheVariants.{Same, Zero, Mtu, Pointer, PointerSix, Length}
use Rattle.siit_rules.specs.declared.rule.Rule.{Rule}
use Rattle.siit_fragments.specs.Pieces.{blocks_of, piece_of, pieces_of}
use Rattle.siit_fragments.proofs.Pieces.{All-pieces, piece-length}
use Rattle.siit_quoted.specs.Bodies.{NewBody, carried_to_6, joined_to_6, length_octet4, padded, padding, parted, room6}
use Rattle.siit_quoted.specs.Errors.{error_moved}
use Rattle.siit_quoted.specs.Quoted.{quoted4_fields}
use Rattle.siit_quoted.specs.Quotes.{quote_to_6}
use Rattle.siit_roles.specs.Limits.{IsWithinLimits}
use Rattle.siit_roles.specs.declared.settings.Settings.{Settings}
use Rattle.siit_v4to6.specs.To6.{fragment_part, has_fragment_header, packet6}
use Rattle.siit_v4to6.proofs.Good.{part-length}
use Rattle.siit_v4to6.proofs.Written.{fields-written}
use Rattle.siit_device.specs.Addresses.{to6}
use Rattle.siit_device.specs.Arrival4.{quoted_part4}
use Rattle.siit_device.specs.Forward.{error_by6, error_to_6, is_cut6, is_error_fragment4, new_body6, packets_to_6, rest_to_6, translated6, upper_forward}
use Rattle.siit_arrival4.specs.Unruled.{IsUnruled}
use Rattle.siit_cutting.specs.Laws.{HasAddresses6, IsTaken4}
use Rattle.siit_cutting.proofs.Upper6.{upper6-length}

-- LENGTHS OF ICMPV6 ERRORS

take-most : (n : ℕ) (xs : List ℕ) → length (take n xs) ≤ n
take-most n xs = omega (arith, length-take n xs)

rest-most : (settings : Settings) (rest : Rest) (octet : ℕ) (message : List ℕ) → length (rest_to_6 settings rest octet message) ≤ 4
rest-most settings Same octet message = take-most 4 (drop 4 message)
rest-most settings Zero octet message = omega arith
rest-most settings Length octet message = omega arith
rest-most settings Mtu octet message = omega arith
rest-most settings Pointer octet message = omega arith
rest-most settings PointerSix octet message = omega arith

room-most : (n : ℕ) → (1232 - n) / 8 * 8 ≤ 1232
room-most n = omega arith

padding-most : (len : ℕ) → len ≤ 1232 → len + padding 8 len ≤ 1239
padding-most len small = omega arith

pub carried-some : (may few : Bool) (one two : List ℕ) → Some one ≡ (if may && few then Some two else None) → (one ≡ two) × (few ≡ true)
carried-some true true one two is = (cc, refl)
carried-some true false one two is = cc
carried-some false few one two is = cc

body-most : (carried : Option (List ℕ)) (kind : ℕ) (found : Option (List ℕ)) (quote : List ℕ) → carried ≡ carried_to_6 kind found
    → length (joined_to_6 carried quote).bytes ≤ 2343
body-most None kind found quote is = let small = take-most 1232 quote in omega (arith, small)
body-most (Some extension) kind None quote is = cc
body-most (Some extension) kind (Some other) quote is =
    let both = carried-some ((kind == 1) || (kind == 3)) (nat_le (length other) 1104) extension other is in
    let few : length extension ≤ 1104 = subst (λ l. length l ≤ 1104) (sym both.0) (leb-true (length other) 1104 both.1) in
    let room : ℕ = room6 (Some extension) in
    let cut : List ℕ = take room quote in
    let small : length cut ≤ 1232 = omega (arith, take-most room quote, room-most (length extension)) in
    summed (length extension) (length cut) (padding 8 (length cut)) (length (padded 8 cut)) (length (padded 8 cut ++ extension)) few (padding-most (length cut) small)
    (length-append cut (replicate (padding 8 (length cut)) 0) ∙ ap (λ n. length cut + n) (length-replicate (padding 8 (length cut)) 0))
    (length-append (padded 8 cut) extension)
  where
    summed : (e c p q r : ℕ) → e ≤ 1104 → c + p ≤ 1239 → q ≡ c + p → r ≡ q + e → r ≤ 2343
    summed e c p q r few most is_q is_r = omega arith

moved-most : (old new kind code : ℕ) (rest : List ℕ) (body : NewBody) (message : List ℕ) → length rest ≤ 4 → length body.bytes ≤ 2343
    → length (error_moved old new kind code rest body message) ≤ 2351
moved-most old new kind code rest body message four most = omega (arith, four, most, length-append rest body.bytes)

translated-by : (settings : Settings) (common : Common) (message : List ℕ) (n : NewKind) → length (error_by6 settings common message (Ok n)) ≤ 2351
translated-by settings common message n =
    let body : NewBody = new_body6 settings n message in
    let pseudo : ℕ = pseudo6 (to6 settings common.source) (to6 settings common.destination) 58 (8 + length body.bytes) in
    let old = parted 4 (length_octet4 message) (drop 8 message) in
    let quoted = ipv4_fields (quoted_part4 message) in
    let most : length body.bytes ≤ 2343 =
    body-most (carried_to_6 n.kind old.extension) n.kind old.extension
    (quote_to_6 (to6 settings quoted.source) (to6 settings quoted.destination) settings.tos_zero (quoted4_fields old.part)) refl in
    moved-most 0 pseudo n.kind n.code (rest_to_6 settings n.rest body.octet message) body message (rest-most settings n.rest body.octet message) most

-- a translated error is short
pub translated-most : (settings : Settings) (common : Common) (message : List ℕ) (n : NewKind) → icmp_to_6 (field8 message 0) (field8 message 1) ≡ Ok n
    → length (error_to_6 settings common message) ≤ 2351
unfolding error_to_6
translated-most settings common message n is =
    subst (λ r. length (error_by6 settings common message r) ≤ 2351) (sym is) (translated-by settings common message n)

error-by : (settings : Settings) (common : Common) (message : List ℕ) (r : Result NewKind Rule) → length message ≤ 65515
    → length (error_by6 settings common message r) ≤ 65515
error-by settings common message (Err rule) small = small
error-by settings common message (Ok n) small = above (length (error_by6 settings common message (Ok n))) (translated-by settings common message n)
  where
    above : (n : ℕ) → n ≤ 2351 → n ≤ 65515
    above n small = omega arith

error-most : (settings : Settings) (common : Common) (message : List ℕ) → length message ≤ 65515 → length (error_to_6 settings common message) ≤ 65515
unfolding error_to_6
error-most settings common message small = error-by settings common message (icmp_to_6 (field8 message 0) (field8 message 1)) small

-- what is given for a payload that IPv4 holds, IPv6 holds
pub upper-most : (settings : Settings) (f : Fragment) → IsUnruled f → length f.bytes ≤ 65515 → length (upper_forward settings f) ≤ 65515
upper-most settings f unruled small =
    by-test (is_error_fragment4 f) refl
    (λ is. subst (λ l. length l ≤ 65515) (sym (cond-true (is_error_fragment4 f) (error_to_6 settings f.common f.bytes) _ is)) (error-most settings f.common f.bytes small))
    (λ no_error. subst (λ n. n ≤ 65515) (sym (upper6-length settings f unruled no_error)) small)
  where
    by-test : {X : Type 0} (b : Bool) {c : Bool} → c ≡ b → (c ≡ true → X) → (c ≡ false → X) → X
    by-test true is f g = f is
    by-test false is f g = g is

-- READING

abbrev pub IsReadAgain : Ipv6Packet → Type 0
IsReadAgain q = ipv6_fields (ipv6_bytes q) ≡ q

-- the fields that a packet's header has room for
record HasFields (common : Common) : Type 0 where
  class : common.class < 256
  source : common.source < 2 ^ 128
  destination : common.destination < 2 ^ 128

read-packet6 : (f : Fragment) → HasFields f.common → length f.bytes ≤ 65515 → IsReadAgain (packet6 false f)
read-packet6 f fields small =
    let body : List ℕ = (packet6 false f).body in
    let most : length body < 65536 =
    summed (length (fragment_part false f)) (length f.bytes) (length body) (length-append (fragment_part false f) f.bytes)
    (cond_both (has_fragment_header false f) 8 0 (λ n. length (fragment_part false f) ≡ n → length (fragment_part false f) ≤ 8) (λ _ is. omega arith) (λ _ is. omega arith)
    (part-length false f)) small in
    fields-written (length body) (packet6 false f)
    (record { class = fields.class; flow = omega arith; source = fields.source; destination = fields.destination }) (omega arith) most
  where
    summed : (a b n : ℕ) → n ≡ a + b → a ≤ 8 → b ≤ 65515 → n < 65536
    summed a b n is few small = omega arith

read-fragment6 : (f : Fragment) → HasFields f.common → length f.bytes ≤ 65515 → IsReadAgain (fragment_packet6 f)
read-fragment6 f fields small =
    let body : List ℕ = (fragment_packet6 f).body in
    let most : length body < 65536 = let size = length-append (fragment_header f.common.protocol (fields_of f)) f.bytes in omega (arith, size) in
    fields-written (length body) (fragment_packet6 f)
    (record { class = fields.class; flow = omega arith; source = fields.source; destination = fields.destination }) (omega arith) most

All-if : {X : Type 0} (P : X → Type 0) (test : Bool) (xs ys : List X) → (test ≡ true → All P xs) → All P ys → All P (if test then xs else ys)
All-if P true xs ys at_test other = at_test refl
All-if P false xs ys at_test other = other

pub given-read : (settings : Settings) (packet : Ipv4Packet) → IsWithinLimits settings → IsTaken4 packet → HasAddresses6 settings (fragment4 packet).common
    → All IsReadAgain (packets_to_6 settings packet)
given-read settings packet limits taken addresses =
    let g : Fragment = translated6 settings (fragment4 packet) in
    let good = taken.good in
    let tos = good.tos in
    let fits = good.fits in
    let small : length g.bytes ≤ 65515 = upper-most settings (fragment4 packet) taken.unruled (omega arith) in
    let class : g.common.class < 256 = cond_both settings.tos_zero 0 packet.tos (λ n. n < 256) (λ _. omega arith) (λ _. tos) in
    let fields : HasFields g.common = record { class = class; source = addresses.source; destination = addresses.destination } in
    let lowest = limits.lowest in
    All-if IsReadAgain (is_cut6 settings packet) _ _
    (λ cut. All-map IsReadAgain fragment_packet6 (pieces_of (blocks_of 48 settings.lowest) g)
    (All-pieces (λ f. IsReadAgain (fragment_packet6 f)) (blocks_of 48 settings.lowest) g (omega arith)
    (λ k begins. read-fragment6 (piece_of (blocks_of 48 settings.lowest) g k) fields
    (let size = piece-length (blocks_of 48 settings.lowest) g k in omega (arith, size)))))
    (All-cons IsReadAgain (packet6 false g) [] (read-packet6 g fields small) (All-nil IsReadAgain))
