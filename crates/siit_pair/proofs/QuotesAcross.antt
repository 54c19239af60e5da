-- The body of an ICMP error behind two devices: its quote, and its extension.
use Rattle.std.proofs.Common.{◌≡◌, ◌⊎◌, inl, inr, ℕ, ◌+◌, ◌-◌, ◌*◌, ◌/◌, ◌^◌, ◌<◌, ◌≤◌, List, ◌++◌, length, take, drop, replicate, slice_index, Bool, true, false, ◌&&◌, ◌||◌, ◌==◌, nat_le, if◌then◌else◌, Option, Some, None, Result, Ok, Err, ok_or, ◌∙◌, ap, sym, subst, refl, arith, eq-eqb, ne_eqb}
use Rattle.std.proofs.Math.Seq.{drop-append_seam}
use Rattle.std.proofs.lemmas.Bool.Decides.{nat_tests}
use Rattle.std.proofs.lemmas.Bool.{and_parts, cond-false, cond-true, eqb-true, leb-true}
use Rattle.std.proofs.lemmas.List.{get_or-take, get_or_append_left, length-append, length-replicate, length-take}
use Rattle.siit_model.specs.Bytes.{field8, field16, field32, field128}
use Rattle.siit_model.specs.Ipv4.{Ipv4Packet, IsGoodIpv4, is_whole4}
use Rattle.siit_model.specs.Ipv6.{Ipv6Packet, ipv6_bytes_as, ipv6_fields}
use Rattle.siit_checksum.proofs.Digits.{sixteen-read}
use Rattle.siit_icmp.specs.Errors.{is_error_kind4, is_error_kind6}
use Rattle.siit_icmp.specs.Icmp.{icmp_to_4, icmp_to_6, is_echo_kind4, is_echo_kind6, echo_kind4, echo_kind6, new, problem_to_4, problem_to_6, unreachable_to_4, unreachable_to_6}
use Rattle.siit_icmp.specs.declared.kinds.NewKind.{NewKind}
use Rattle.siit_icmp.specs.declared.kinds.Rest.{Rest}
use Rattle.siit_icmp.specs.declared.kinds.Rest.TheVariants.{Same, Zero, Mtu, Pointer, PointerSix, Length}
use Rattle.siit_quoted.specs.Bodies.{Body, NewBody, carried_to_4, carried_to_6, joined_to_4, joined_to_6, length_octet4, length_octet6, padded, padding, part_of, parted, room6}
use Rattle.siit_quoted.specs.Errors.{body_to_4, body_to_6, part_to_4}
use Rattle.siit_quoted.specs.Quoted.{QuotedIpv4}
use Rattle.siit_quoted.specs.Quotes.{quote_to_6, quoted_packet_to_6, sent_to_6, written_class}
use Rattle.siit_quoted.specs.Returns.{BodiesComeBack, ExtensionsComeBack, HasBody4, HasBody6, body_of, come_back}
use Rattle.siit_rules.specs.declared.rule.Family.TheVariants.{Four}
use Rattle.siit_rules.specs.declared.rule.Rule.{Rule}
use Rattle.siit_rules.specs.declared.rule.Rule.TheVariants.{IcmpCode4, IcmpType4, IcmpCode6, IcmpType6}
use Rattle.siit_roles.specs.declared.settings.Settings.{Settings}
use Rattle.siit_v4to6.specs.To6.{next_header_of}
use Rattle.siit_device.specs.Addresses.{to4, to6}
use Rattle.siit_device.specs.Arrival6.{quoted_part6}
use Rattle.siit_device.specs.Backward.{new_body4, rest_to_4}
use Rattle.siit_device.specs.Forward.{new_body6, rest_to_6}
use Rattle.siit_device.specs.Shapes.{least_upper}
use Rattle.siit_pair.specs.Across.{across, between}
use Rattle.siit_pair.specs.Laws.{Becomes, ExtensionsComeAcross, GoesAcross, HasReversibleQuote, IsErrorAccepted, QuotesComeAcross, arriving, carried_between, quoted_by}
use Rattle.siit_pair.proofs.Addresses.{addresses_back}
use Rattle.siit_pair.proofs.Conditions4.{HasQuote4, HasUpper4, has-pointer6, has-quote4, has-upper4}
use Rattle.siit_pair.proofs.Conditions6.{HasQuote6, HasUpper6, has-quote6, has-upper6}
use Rattle.siit_pair.proofs.Messages.{backward, checksum4, checksum6, error-kind6, forward, message-of, middle, middle-error, rest4-length, rest6-length}
use Rattle.siit_pair.proofs.Written.{carried-some}

-- WHAT BYTES 4 TO 7 TELL OF THE LENGTH

abbrev is_multipart6 : ℕ → Bool
is_multipart6 kind = (kind == 1) || (kind == 3)

-- an ICMPv6 error whose bytes 4 to 7 begin with the length octet, or of a type that has none
abbrev Tells6 : NewKind → Type 0
Tells6 n = ((is_multipart6 n.kind ≡ true) × (n.rest ≡ Length)) ⊎ (is_multipart6 n.kind ≡ false)

found6 : (one n : NewKind) → Some one ≡ Some n → Tells6 one → Tells6 n
found6 one n is tells = let same : one ≡ n = cc in subst Tells6 same tells

unreachable6 : (a b c d f : Bool) (n : NewKind)
    → (if a then Some (new 1 0 Length) else if b then Some (new 4 1 PointerSix) else if c then Some (new 1 4 Length)
    else if d then Some (new 2 0 Mtu) else if f then Some (new 1 1 Length) else None) ≡ Some n → Tells6 n
unreachable6 true b c d f n e = found6 (new 1 0 Length) n e (inl (refl, refl))
unreachable6 false true c d f n e = found6 (new 4 1 PointerSix) n e (inr refl)
unreachable6 false false true d f n e = found6 (new 1 4 Length) n e (inl (refl, refl))
unreachable6 false false false true f n e = found6 (new 2 0 Mtu) n e (inr refl)
unreachable6 false false false false true n e = found6 (new 1 1 Length) n e (inl (refl, refl))
unreachable6 false false false false false n e = cc

problem6 : (a : Bool) (n : NewKind) → (if a then Some (new 4 0 Pointer) else None) ≡ Some n → Tells6 n
problem6 true n e = found6 (new 4 0 Pointer) n e (inr refl)
problem6 false n e = cc

chosen6 : (a b c d : Bool) (x y : Option NewKind) (k l n : NewKind)
    → (if a then Ok k else if b then ok_or x IcmpCode4 else if c then Ok l else if d then ok_or y IcmpCode4 else Err IcmpType4) ≡ Ok n
    → a ≡ false → ((m : NewKind) → x ≡ Some m → Tells6 m) → Tells6 l → ((m : NewKind) → y ≡ Some m → Tells6 m) → Tells6 n
chosen6 true b c d x y k l n e no_echo at_x at_l at_y = cc
chosen6 false true c d None y k l n e no_echo at_x at_l at_y = cc
chosen6 false true c d (Some x) y k l n e no_echo at_x at_l at_y = let same : x ≡ n = cc in at_x n (ap Some same)
chosen6 false false true d x y k l n e no_echo at_x at_l at_y = let same : l ≡ n = cc in subst Tells6 same at_l
chosen6 false false false true x None k l n e no_echo at_x at_l at_y = cc
chosen6 false false false true x (Some y) k l n e no_echo at_x at_l at_y = let same : y ≡ n = cc in at_y n (ap Some same)
chosen6 false false false false x y k l n e no_echo at_x at_l at_y = cc

echo-apart : (kind : ℕ) → is_error_kind4 kind ≡ true → is_echo_kind4 kind ≡ false
echo-apart kind error = grind (arith, nat_tests)

tells6 : (kind code : ℕ) (n : NewKind) → is_error_kind4 kind ≡ true → icmp_to_6 kind code ≡ Ok n → Tells6 n
tells6 kind code n error is =
    chosen6 (is_echo_kind4 kind) (kind == 3) (kind == 11) (kind == 12) (unreachable_to_6 code) (problem_to_6 code)
    (new (echo_kind6 kind) code Same) (new 3 code Length) n is (echo-apart kind error)
    (λ m x. unreachable6 _ (code == 2) (code == 3) (code == 4) _ m x) (inl (refl, refl)) (λ m x. problem6 _ m x)

-- the same of ICMPv4, by the type in between: without a length in between there is none behind
abbrev Tells4 : ℕ → NewKind → Type 0
Tells4 kind m =
    ((is_multipart6 kind ≡ true) × (m.rest ≡ Length) × (((m.kind == 3) || (m.kind == 11)) ≡ true))
    ⊎ ((is_multipart6 kind ≡ false) × ((m.rest ≡ Mtu) ⊎ (m.rest ≡ Pointer) ⊎ (m.rest ≡ Zero)))

abbrev Multi4 : NewKind → Type 0
Multi4 m = (m.rest ≡ Length) × (((m.kind == 3) || (m.kind == 11)) ≡ true)

abbrev Lone4 : NewKind → Type 0
Lone4 m = (m.rest ≡ Mtu) ⊎ (m.rest ≡ Pointer) ⊎ (m.rest ≡ Zero)

unreachable4 : (a b c : Bool) (n : NewKind)
    → (if a then Some (new 3 1 Length) else if b then Some (new 3 10 Length) else if c then Some (new 3 3 Length) else None) ≡ Some n → Multi4 n
unreachable4 true b c n e = let same : new 3 1 Length ≡ n = cc in subst Multi4 same (refl, refl)
unreachable4 false true c n e = let same : new 3 10 Length ≡ n = cc in subst Multi4 same (refl, refl)
unreachable4 false false true n e = let same : new 3 3 Length ≡ n = cc in subst Multi4 same (refl, refl)
unreachable4 false false false n e = cc

problem4 : (a b : Bool) (n : NewKind) → (if a then Some (new 12 0 Pointer) else if b then Some (new 3 2 Zero) else None) ≡ Some n → Lone4 n
problem4 true b n e = let same : new 12 0 Pointer ≡ n = cc in subst Lone4 same (inr (inl refl))
problem4 false true n e = let same : new 3 2 Zero ≡ n = cc in subst Lone4 same (inr (inr refl))
problem4 false false n e = cc

abbrev Told : (b d : Bool) → NewKind → Type 0
Told b d m = (((b || d) ≡ true) × Multi4 m) ⊎ (((b || d) ≡ false) × Lone4 m)

chosen4 : (a b c d f : Bool) (x y : Option NewKind) (k l m n : NewKind)
    → (if a then Ok k else if b then ok_or x IcmpCode6 else if c then Ok l else if d then Ok m else if f then ok_or y IcmpCode6 else Err IcmpType6) ≡ Ok n
    → a ≡ false → (c ≡ true → d ≡ false) → ((o : NewKind) → x ≡ Some o → Multi4 o) → Lone4 l → Multi4 m → ((o : NewKind) → y ≡ Some o → Lone4 o) → Told b d n
chosen4 true b c d f x y k l m n e no_echo apart at_x at_l at_m at_y = cc
chosen4 false true c d f None y k l m n e no_echo apart at_x at_l at_m at_y = cc
chosen4 false true c d f (Some x) y k l m n e no_echo apart at_x at_l at_m at_y = let same : x ≡ n = cc in inl (refl, at_x n (ap Some same))
chosen4 false false true d f x y k l m n e no_echo apart at_x at_l at_m at_y = let same : l ≡ n = cc in inr (apart refl, subst Lone4 same at_l)
chosen4 false false false true f x y k l m n e no_echo apart at_x at_l at_m at_y = let same : m ≡ n = cc in inl (refl, subst Multi4 same at_m)
chosen4 false false false false true x None k l m n e no_echo apart at_x at_l at_m at_y = cc
chosen4 false false false false true x (Some y) k l m n e no_echo apart at_x at_l at_m at_y = let same : y ≡ n = cc in inr (refl, at_y n (ap Some same))
chosen4 false false false false false x y k l m n e no_echo apart at_x at_l at_m at_y = cc

echo-apart6 : (kind : ℕ) → is_error_kind6 kind ≡ true → is_echo_kind6 kind ≡ false
echo-apart6 kind error = grind (arith, nat_tests)

apart : (kind : ℕ) → (kind == 2) ≡ true → (kind == 3) ≡ false
apart kind two = grind (arith, nat_tests)

tells4 : (kind code : ℕ) (n : NewKind) → is_error_kind6 kind ≡ true → icmp_to_4 kind code ≡ Ok n → Told (kind == 1) (kind == 3) n
tells4 kind code n error is =
    chosen4 (is_echo_kind6 kind) (kind == 1) (kind == 2) (kind == 3) (kind == 4) (unreachable_to_4 code) (problem_to_4 code)
    (new (echo_kind4 kind) code Same) (new 3 4 Mtu) (new 11 code Length) n is (echo-apart6 kind error) (apart kind)
    (λ m x. unreachable4 _ (code == 1) (code == 4) m x) (inl refl) (refl, refl) (λ m x. problem4 (code == 0) (code == 1) m x)

-- MESSAGES AND THEIR BODIES

body-behind : (kind code checksum : ℕ) (rest body : List ℕ) → length rest ≡ 4 → drop 8 (message-of kind code checksum (rest ++ body)) ≡ body
body-behind kind code checksum rest body four = ap (λ n. drop n (rest ++ body)) (sym four) ∙ drop-append_seam rest body

if-true : (test : Bool) (x : ℕ) → test ≡ true → (if test then x else 0) ≡ x
if-true test x is = rw is refl

if-false : (test : Bool) (x : ℕ) → test ≡ false → (if test then x else 0) ≡ 0
if-false test x is = rw is refl

if-zero : (test : Bool) (x : ℕ) → x ≡ 0 → (if test then x else 0) ≡ 0
if-zero true x is = is
if-zero false x is = refl

-- in between
octet6 : (settings : Settings) (n : NewKind) (checksum octet : ℕ) (message body : List ℕ) → Tells6 n → (is_multipart6 n.kind ≡ false → octet ≡ 0)
    → length_octet6 (message-of n.kind n.code checksum (rest_to_6 settings n.rest octet message ++ body)) ≡ octet
octet6 settings n checksum octet message body (inl tells) lone =
    if-true (is_multipart6 n.kind) _ tells.0
    ∙ ap (λ r. slice_index (rest_to_6 settings r octet message ++ body) 0) tells.1
octet6 settings n checksum octet message body (inr tells) lone = if-false (is_multipart6 n.kind) _ tells ∙ sym (lone tells)

none-carried : (kind : ℕ) (found : Option (List ℕ)) → is_multipart6 kind ≡ false → carried_to_6 kind found ≡ None
none-carried kind None e = refl
none-carried kind (Some extension) e = ap (λ b. if b && nat_le (length extension) 1104 then Some extension else None) e

-- behind
second-byte : (settings : Settings) (rest : Rest) (octet : ℕ) (message body : List ℕ) → (rest ≡ Mtu) ⊎ (rest ≡ Pointer) ⊎ (rest ≡ Zero)
    → slice_index (rest_to_4 settings rest octet message ++ body) 1 ≡ 0
second-byte settings rest octet message body (inl is) = ap (λ r. slice_index (rest_to_4 settings r octet message ++ body) 1) is
second-byte settings rest octet message body (inr (inl is)) = ap (λ r. slice_index (rest_to_4 settings r octet message ++ body) 1) is
second-byte settings rest octet message body (inr (inr is)) = ap (λ r. slice_index (rest_to_4 settings r octet message ++ body) 1) is

one-of_three : (a b c : Bool) → (a || b) ≡ true → (a || b || c) ≡ true
one-of_three a b c is = rw is refl

octet4 : (settings : Settings) (kind : ℕ) (m : NewKind) (checksum octet : ℕ) (message body : List ℕ) → Told (kind == 1) (kind == 3) m
    → (is_multipart6 kind ≡ false → octet ≡ 0) → length_octet4 (message-of m.kind m.code checksum (rest_to_4 settings m.rest octet message ++ body)) ≡ octet
octet4 settings kind m checksum octet message body (inl told) lone =
    if-true ((m.kind == 3) || (m.kind == 11) || (m.kind == 12)) _ (one-of_three (m.kind == 3) (m.kind == 11) (m.kind == 12) told.1.1)
    ∙ ap (λ r. slice_index (rest_to_4 settings r octet message ++ body) 1) told.1.0
octet4 settings kind m checksum octet message body (inr told) lone =
    if-zero ((m.kind == 3) || (m.kind == 11) || (m.kind == 12)) _ (second-byte settings m.rest octet message body told.1) ∙ sym (lone told.0)

-- a body without a length has no extension
unextended : (kind : ℕ) (quote : Body → List ℕ) (octet : ℕ) (behind : List ℕ) → octet ≡ 0
    → (joined_to_4 (carried_to_4 kind (parted 8 octet behind).extension) (quote (parted 8 octet behind))).octet ≡ 0
unextended kind quote octet behind none =
    ap (λ o. (joined_to_4 (carried_to_4 kind (parted 8 o behind).extension) (quote (parted 8 o behind))).octet) none

-- THE ADDRESSES OF THE QUOTE IN BETWEEN

-- two lists begin with the same 40 bytes
AgreeFirst : List ℕ → List ℕ → Type 0
AgreeFirst one two = (k : ℕ) → k < 40 → slice_index one k ≡ slice_index two k

trans : (one two three : List ℕ) → AgreeFirst one two → AgreeFirst two three → AgreeFirst one three
unfolding AgreeFirst
trans one two three f g = λ k within. f k within ∙ g k within

field16-agrees : (one two : List ℕ) → AgreeFirst one two → (place : ℕ) → place + 1 < 40 → field16 one place ≡ field16 two place
unfolding AgreeFirst
field16-agrees one two same place within =
    ap (λ x. x * 256 + slice_index one (place + 1)) (same place (omega arith)) ∙ ap (λ y. slice_index two place * 256 + y) (same (place + 1) within)

field32-agrees : (one two : List ℕ) → AgreeFirst one two → (place : ℕ) → place + 3 < 40 → field32 one place ≡ field32 two place
field32-agrees one two same place within =
    ap (λ x. x * 65536 + field16 one (place + 2)) (field16-agrees one two same place (omega arith))
    ∙ ap (λ y. field16 two place * 65536 + y) (field16-agrees one two same (place + 2) (omega arith))

field128-agrees : (one two : List ℕ) → AgreeFirst one two → (place : ℕ) → place + 15 < 40 → field128 one place ≡ field128 two place
field128-agrees one two same place within =
    ap (λ x. x * 2 ^ 96 + field32 one (place + 4) * 2 ^ 64 + field32 one (place + 8) * 2 ^ 32 + field32 one (place + 12)) (field32-agrees one two same place (omega arith))
    ∙ ap (λ x. field32 two place * 2 ^ 96 + x * 2 ^ 64 + field32 one (place + 8) * 2 ^ 32 + field32 one (place + 12)) (field32-agrees one two same (place + 4) (omega arith))
    ∙ ap (λ x. field32 two place * 2 ^ 96 + field32 two (place + 4) * 2 ^ 64 + x * 2 ^ 32 + field32 one (place + 12)) (field32-agrees one two same (place + 8) (omega arith))
    ∙ ap (λ x. field32 two place * 2 ^ 96 + field32 two (place + 4) * 2 ^ 64 + field32 two (place + 8) * 2 ^ 32 + x) (field32-agrees one two same (place + 12) (omega arith))

taken-agrees : (room : ℕ) (xs : List ℕ) → 40 ≤ room → AgreeFirst (take room xs) xs
unfolding AgreeFirst
taken-agrees room xs enough = λ k within. get_or-take room xs k 0 (omega arith)

left-agrees : (xs ys : List ℕ) → 40 ≤ length xs → AgreeFirst (xs ++ ys) xs
unfolding AgreeFirst
left-agrees xs ys enough = λ k within. get_or_append_left xs ys 0 k (omega arith)

part-agrees : (octet : ℕ) (behind : List ℕ) → (octet ≡ 0) ⊎ (40 ≤ octet * 8) → AgreeFirst (part_of 8 octet behind) behind
unfolding AgreeFirst
part-agrees octet behind (inl none) = λ k within. ap (λ l. slice_index l k) (cond-true (octet == 0) behind (take (octet * 8) behind) (eq-eqb octet 0 none))
part-agrees octet behind (inr some) = λ k within.
    ap (λ l. slice_index l k) (cond-false (octet == 0) behind (take (octet * 8) behind) (ne_eqb octet 0 (λ (none : octet ≡ 0). omega arith)))
    ∙ get_or-take (octet * 8) behind k 0 (omega arith)

record Agrees (body : NewBody) (quote : List ℕ) : Type 0 where
  octet : (body.octet ≡ 0) ⊎ (40 ≤ body.octet * 8)
  bytes : AgreeFirst body.bytes quote

room-enough : (n : ℕ) → n ≤ 1104 → 128 ≤ (1232 - n) / 8 * 8
room-enough n few = omega arith

padded-enough : (len : ℕ) → 128 ≤ len + padding 8 len
padded-enough len = omega arith

units-enough : (n : ℕ) → 128 ≤ n → 40 ≤ n / 8 * 8
units-enough n enough = omega arith

joined-agrees : (carried : Option (List ℕ)) (kind : ℕ) (found : Option (List ℕ)) (quote : List ℕ) → carried ≡ carried_to_6 kind found → 40 ≤ length quote
    → Agrees (joined_to_6 carried quote) quote
joined-agrees None kind found quote is long = record { octet = inl refl; bytes = taken-agrees 1232 quote (omega arith) }
joined-agrees (Some extension) kind None quote is long = cc
joined-agrees (Some extension) kind (Some other) quote is long =
    let both = carried-some (is_multipart6 kind) (nat_le (length other) 1104) extension other is in
    let few : length extension ≤ 1104 = subst (λ l. length l ≤ 1104) (sym both.0) (leb-true (length other) 1104 both.1) in
    let room : ℕ = room6 (Some extension) in
    let enough : 128 ≤ room = room-enough (length extension) few in
    let cut : List ℕ = take room quote in
    let zeros : List ℕ = replicate (padding 8 (length cut)) 0 in
    let there : 40 ≤ length cut = omega (arith, enough, long, length-take room quote) in
    let size : length (padded 8 cut) ≡ length cut + padding 8 (length cut) =
    length-append cut zeros ∙ ap (λ n. length cut + n) (length-replicate (padding 8 (length cut)) 0) in
    let filled : 128 ≤ length (padded 8 cut) = subst (λ n. 128 ≤ n) (sym size) (padded-enough (length cut)) in
    record {
      octet = inr (units-enough (length (padded 8 cut)) filled);
      bytes = trans (padded 8 cut ++ extension) (padded 8 cut) quote (left-agrees (padded 8 cut) extension (omega (arith, filled)))
          (trans (padded 8 cut) cut quote (left-agrees cut zeros there) (taken-agrees room quote (omega (arith, enough))));
    }

-- the addresses are read where the header has them
source-written : (len : ℕ) (packet : Ipv6Packet) → packet.source < 2 ^ 128 → field128 (ipv6_bytes_as len packet) 8 ≡ packet.source
source-written len packet small = sixteen-read packet.source small

destination-written : (len : ℕ) (packet : Ipv6Packet) → packet.destination < 2 ^ 128 → field128 (ipv6_bytes_as len packet) 24 ≡ packet.destination
destination-written len packet small = sixteen-read packet.destination small

quote-long : (source destination : ℕ) (zero : Bool) (quoted : QuotedIpv4) → 40 ≤ length (quote_to_6 source destination zero quoted)
unfolding quote_to_6
quote-long source destination zero quoted = omega arith

record Reads (source destination : ℕ) (part : List ℕ) : Type 0 where
  source_is : (ipv6_fields part).source ≡ source
  destination_is : (ipv6_fields part).destination ≡ destination

quote-read : (source destination : ℕ) (zero : Bool) (quoted : QuotedIpv4) (part : List ℕ) → source < 2 ^ 128 → destination < 2 ^ 128
    → AgreeFirst part (quote_to_6 source destination zero quoted) → Reads source destination part
unfolding quote_to_6
quote-read source destination zero quoted part small other same =
    let bytes : List ℕ = ipv6_bytes_as (sent_to_6 source destination zero quoted) (quoted_packet_to_6 source destination zero quoted) in
    record {
      source_is = field128-agrees part bytes same 8 (omega arith)
          ∙ source-written (sent_to_6 source destination zero quoted) (quoted_packet_to_6 source destination zero quoted) small;
      destination_is = field128-agrees part bytes same 24 (omega arith)
          ∙ destination-written (sent_to_6 source destination zero quoted) (quoted_packet_to_6 source destination zero quoted) other;
    }

-- ACROSS

inner : (m n : NewKind) (r : Result NewKind Rule) → r ≡ Ok m → r ≡ Ok n → m ≡ n
inner m n r is other = cc

module _ (first second : Settings) (d : Ipv4Packet) (id : ℕ) (n m : NewKind) (good : IsGoodIpv4 d) (whole : is_whole4 d ≡ true)
    (becomes : Becomes d n m) (goes : GoesAcross first second d) where
  parts : ((d.protocol ≡ 1) × (is_error_kind4 (field8 d.payload 0) ≡ true))
  parts =
      let both = and_parts ((d.protocol == 1) && is_whole4 d) (is_error_kind4 (field8 d.payload 0)) becomes.is_error in
      (eqb-true d.protocol 1 (and_parts (d.protocol == 1) (is_whole4 d) both.0).0, both.1)

  upper : HasUpper4 first d
  upper = has-upper4 first d (eqb-true d.offset 0 (and_parts (d.offset == 0) (d.mf == 0) whole).0) goes.upper

  long : 8 ≤ length d.payload
  long = subst (λ k. k ≤ length d.payload) (ap (least_upper 1) parts.0) upper.long

  abbrev seen : List ℕ
  seen = middle first second d id parts.0 refl parts.1 long n becomes.kind6

  there : (between first d).payload ≡ seen
  there = forward first second d id parts.0 refl parts.1 long n becomes.kind6

  accepted : IsErrorAccepted second (between first d)
  accepted = goes.error becomes.is_error

  upper6 : HasUpper6 seen
  upper6 = subst HasUpper6 there (has-upper6 (arriving (between first d)) (ap next_header_of parts.0) refl accepted.upper)

  quote6 : HasQuote6 second seen
  quote6 =
      subst (HasQuote6 second) there
      (has-quote6 second (arriving (between first d)) (middle-error first second d id parts.0 refl parts.1 long n becomes.kind6) accepted.quote)

  quote4 : HasQuote4 first d.payload
  quote4 = has-quote4 first d becomes.is_error goes.quote

  -- the type behind
  same-kind : upper6.kind ≡ m
  same-kind = inner upper6.kind m (icmp_to_4 n.kind n.code) upper6.is becomes.kind4

  abbrev quoted : QuotedIpv4
  quoted = quoted_by d

  abbrev body : NewBody
  body = new_body6 first n d.payload

  lone6 : is_multipart6 n.kind ≡ false → body.octet ≡ 0
  lone6 none =
      let quote : List ℕ = quote_to_6 (to6 first quoted.packet.source) (to6 first quoted.packet.destination) first.tos_zero quoted in
      ap (λ (e : Option (List ℕ)). (joined_to_6 e quote).octet) (none-carried n.kind (body_of Four d.payload).extension none)

  has6 : HasBody6 (body_to_6 (to6 first quoted.packet.source) (to6 first quoted.packet.destination) first.tos_zero n.kind d.payload) seen
  has6 = record {
    octet = octet6 first n (checksum6 first second d id parts.0 refl parts.1 long n becomes.kind6) body.octet d.payload body.bytes
        (tells6 (field8 d.payload 0) (field8 d.payload 1) n parts.1 becomes.kind6) lone6;
    bytes = body-behind n.kind n.code (checksum6 first second d id parts.0 refl parts.1 long n becomes.kind6) (rest_to_6 first n.rest body.octet d.payload) body.bytes
        (rest6-length first n.rest body.octet d.payload long);
  }

  -- the message behind has the body that the second device makes
  abbrev k : NewKind
  k = upper6.kind

  abbrev body4 : NewBody
  body4 = new_body4 second k seen

  lone4 : is_multipart6 n.kind ≡ false → body4.octet ≡ 0
  lone4 none =
      let six = ipv6_fields (quoted_part6 seen) in
      unextended k.kind (λ (b : Body). part_to_4 (to4 second six.source) (to4 second six.destination) second.tos_zero b.part) (length_octet6 seen) (drop 8 seen)
      (has6.octet ∙ lone6 none)

  has4 : HasBody4 body4 (across first second d id).payload
  has4 =
      let pointer = has-pointer6 d n parts.0 becomes.kind6 upper.pointer in
      let after = backward first second d id parts.0 refl parts.1 long n becomes.kind6 quote4 pointer upper6 quote6 in
      let sum : ℕ = checksum4 first second d id parts.0 refl parts.1 long n becomes.kind6 quote4 pointer upper6 quote6 in
      let rest : List ℕ = rest_to_4 second k.rest body4.octet seen in
      record {
        octet = ap length_octet4 after
            ∙ octet4 second n.kind k sum body4.octet seen body4.bytes
            (tells4 n.kind n.code k (error-kind6 (field8 d.payload 0) (field8 d.payload 1) n parts.1 becomes.kind6) upper6.is) lone4;
        bytes = ap (drop 8) after ∙ body-behind k.kind k.code sum rest body4.bytes (rest4-length second k.rest body4.octet seen upper6.long);
      }

  pub extension-across : ExtensionsComeBack → (extension : List ℕ) → carried_between d n ≡ Some extension
      → (body_of Four (across first second d id).payload).extension ≡ Some extension
  extension-across law extension is =
      let six = ipv6_fields (quoted_part6 seen) in
      law (to6 first quoted.packet.source) (to6 first quoted.packet.destination) (to4 second six.source) (to4 second six.destination) n.kind n.code
      first.tos_zero second.tos_zero k d.payload seen (across first second d id).payload extension is has6 upper6.is has4

  pub quote-across : BodiesComeBack → first.mapping ≡ second.mapping → HasReversibleQuote first d →
      let tos = written_class second.tos_zero (written_class first.tos_zero quoted.packet.tos) in
      let extension = carried_between d n in
      HasBody4 (joined_to_4 (carried_to_4 m.kind extension) (come_back tos extension quoted)) (across first second d id).payload
  quote-across law alike back =
      let source6 : ℕ = to6 first quoted.packet.source in
      let destination6 : ℕ = to6 first quoted.packet.destination in
      let quote : List ℕ = quote_to_6 source6 destination6 first.tos_zero quoted in
      let agrees : Agrees body quote =
      joined-agrees (carried_between d n) n.kind (body_of Four d.payload).extension quote refl (quote-long source6 destination6 first.tos_zero quoted) in
      let part : List ℕ = quoted_part6 seen in
      let same : AgreeFirst part quote =
      trans part (drop 8 seen) quote
      (part-agrees (length_octet6 seen) (drop 8 seen) (subst (λ o. (o ≡ 0) ⊎ (40 ≤ o * 8)) (sym has6.octet) agrees.octet))
      (subst (λ l. AgreeFirst l quote) (sym has6.bytes) agrees.bytes) in
      let reads : Reads source6 destination6 part =
      quote-read source6 destination6 first.tos_zero quoted part back.addresses.source back.addresses.destination same in
      let source4 : to4 second (ipv6_fields part).source ≡ quoted.packet.source =
      ap (to4 second) reads.source_is ∙ addresses_back first second alike quoted.packet.source back.source in
      let destination4 : to4 second (ipv6_fields part).destination ≡ quoted.packet.destination =
      ap (to4 second) reads.destination_is ∙ addresses_back first second alike quoted.packet.destination back.destination in
      let made : body4 ≡ body_to_4 quoted.packet.source quoted.packet.destination second.tos_zero k.kind seen =
      ap (λ a. body_to_4 a (to4 second (ipv6_fields part).destination) second.tos_zero k.kind seen) source4
      ∙ ap (λ b. body_to_4 quoted.packet.source b second.tos_zero k.kind seen) destination4 in
      let tos : ℕ = written_class second.tos_zero (written_class first.tos_zero quoted.packet.tos) in
      let behind = law source6 destination6 n.kind k.kind first.tos_zero second.tos_zero d.payload seen good.payload_bytes quote4.accepted
      back.addresses.source back.addresses.destination has6 quote6.accepted in
      subst (λ (b : NewBody). HasBody4 b (across first second d id).payload)
      (made ∙ behind
      ∙ ap (λ (t : NewKind). joined_to_4 (carried_to_4 t.kind (carried_between d n)) (come_back tos (carried_between d n) quoted)) same-kind)
      has4

pub extensions_across : ExtensionsComeBack → ExtensionsComeAcross
extensions_across law first second d id n m extension good whole becomes goes is = extension-across first second d id n m good whole becomes goes law extension is

pub quotes_across : BodiesComeBack → QuotesComeAcross
quotes_across law first second d id n m alike good whole becomes back goes = quote-across first second d id n m good whole becomes goes law alike back
