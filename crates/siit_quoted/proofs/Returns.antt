-- A body that goes to IPv6 and back.
use Rattle.std.proofs.Common.{◌≡◌, ◌⊎◌, ℕ, ◌+◌, ◌-◌, ◌*◌, ◌/◌, ◌%◌, ◌^◌, ◌<◌, ◌≤◌, List, [], ◌∷◌, ◌++◌, length, min, take, drop, replicate, Bool, true, false, not, true≢false, nat_le, ◌==◌, ◌&&◌, ◌||◌, if◌then◌else◌, Option, Some, None, Result, Ok, Err, ◌∙◌, ap, sym, refl, subst, arith, inl, inr, ⊎_elim, append-nil, length-append, length-drop}
use Rattle.std.specs.List.{list_any}
use Rattle.std.specs.Prelude.{ok_or, unwrap_or}
use Rattle.std.proofs.lemmas.Bool.{eqb-true, leb-true, ne_eqb}
use Rattle.std.proofs.lemmas.List.{get_or-drop, length-take, length-take-le}
use Rattle.siit_model.specs.Bytes.{AreBytes, field8}
use Rattle.siit_model.specs.Fragments.{is_whole}
use Rattle.siit_model.specs.Ipv6.{ipv6_header}
use Rattle.siit_rules.specs.declared.rule.Family.TheVariants.{Four, Six}
use Rattle.siit_rules.specs.declared.rule.Rule.{Rule}
use Rattle.siit_rules.specs.declared.rule.Rule.TheVariants.{IcmpCode6}
use Rattle.siit_checksum.proofs.Fields.{bytes-take, bytes-drop}
use Rattle.siit_icmp.specs.Icmp.{icmp_to_4, new}
use Rattle.siit_icmp.specs.declared.kinds.NewKind.{NewKind}
use Rattle.siit_icmp.specs.declared.kinds.Rest.TheVariants.{Length}
use Rattle.siit_quoted.specs.Bodies.{Body, NewBody, carried_to_4, carried_to_6, has_extension, joined, joined_to_4, joined_to_6, length_octet4, length_octet6, padded, padding, part_of, parted, room6}
use Rattle.siit_quoted.specs.Errors.{body_to_4, body_to_6, part_to_4}
use Rattle.siit_quoted.specs.Laws.{IsExtension, MayBePadded, come_back_fragment, come_back_whole}
use Rattle.siit_quoted.specs.Quoted.{QuotedIpv4, quoted4_fields, quoted_fragment4}
use Rattle.siit_quoted.specs.Quotes.{quote_to_6, quoted_packet_to_6, sent_to_6, written_class}
use Rattle.siit_quoted.specs.Refusals.{quote_refusal4, quote_refusal6}
use Rattle.siit_quoted.specs.Returns.{HasBody4, HasBody6, body_of, come_back, headers_to_6, zeros_to_6}
use Rattle.siit_quoted.specs.Rewriting.{fragment_to_6, quoted_upper_to_6}
use Rattle.siit_quoted.proofs.ComesBack.{fragment_comes_back, whole_comes_back}
use Rattle.siit_quoted.proofs.Joined.{IsUnit, parted-joined}
use Rattle.siit_quoted.proofs.Quotes46.{upper-length-kept}

-- WHAT IS TOLD OF AN EXTENSION

found-by : (b : Bool) (rest extension : List ℕ) → (if b then Some rest else None) ≡ Some extension → (b ≡ true) × (rest ≡ extension)
found-by true rest extension is = (refl, ap (λ (o : Option (List ℕ)). unwrap_or o []) is)
found-by false rest extension is = absurd (cc)

-- the four tests of an extension
pub record HoldAll (a b c d : Bool) : Type 0 where
  pub one : a ≡ true
  pub two : b ≡ true
  pub three : c ≡ true
  pub four : d ≡ true

all-hold : (a b c d : Bool) → (a && b && c && d) ≡ true → HoldAll a b c d
all-hold true true true true is = record { one = refl; two = refl; three = refl; four = refl }
all-hold true true true false is = absurd (true≢false (sym is))
all-hold true true false d is = absurd (true≢false (sym is))
all-hold true false c d is = absurd (true≢false (sym is))
all-hold false b c d is = absurd (true≢false (sym is))

pub record IsFound (octet : ℕ) (body extension : List ℕ) : Type 0 where
  pub good : IsExtension extension
  pub least : 128 ≤ length (part_of 4 octet body)

found : (octet : ℕ) (body extension : List ℕ) → (parted 4 octet body).extension ≡ Some extension → IsFound octet body extension
found octet body extension is =
    let place : ℕ = octet * 4 in
    let by = found-by (has_extension 4 octet body) (drop place body) extension is in
    let tests = all-hold (nat_le 128 place) (nat_le (place + 4) (length body)) ((length body - place) % 4 == 0) (field8 body place / 16 == 2) by.0 in
    let least : 128 ≤ place = leb-true 128 place tests.one in
    let inside : place + 4 ≤ length body = leb-true (place + 4) (length body) tests.two in
    let size : length extension ≡ length body - place = ap length (sym by.1) ∙ length-drop place body in
    let first : field8 extension 0 ≡ field8 body (place + 0) = ap (λ (l : List ℕ). field8 l 0) (sym by.1) ∙ get_or-drop place body 0 0 in
    let same : place + 0 ≡ place = omega arith in
    let some : (octet == 0) ≡ false = ne_eqb octet 0 (λ none. omega (arith, least, none)) in
    let taken : length (part_of 4 octet body) ≡ place = rw some (length-take-le place body (omega (arith, inside))) in
    record {
      good = record {
        least = omega (arith, size, inside);
        words = ap (λ n. n % 4) size ∙ eqb-true _ 0 tests.three;
        version = ap (λ n. n / 16 == 2) (first ∙ ap (field8 body) same) ∙ tests.four;
      };
      least = omega (arith, taken, least);
    }

-- one that is carried to IPv6
pub record IsCarriedFrom (kind : ℕ) (held : Option (List ℕ)) (extension : List ℕ) : Type 0 where
  pub there : held ≡ Some extension
  pub multipart : (kind ≡ 1) ⊎ (kind ≡ 3)
  pub few : length extension ≤ 1104

both-hold : (a b c : Bool) → ((a || b) && c) ≡ true → ((a ≡ true) ⊎ (b ≡ true)) × (c ≡ true)
both-hold true b true is = (inl refl, refl)
both-hold false true true is = (inr refl, refl)
both-hold true b false is = absurd (true≢false (sym is))
both-hold false true false is = absurd (true≢false (sym is))
both-hold false false c is = absurd (true≢false (sym is))

carried-from : (kind : ℕ) (held : Option (List ℕ)) (extension : List ℕ) → carried_to_6 kind held ≡ Some extension → IsCarriedFrom kind held extension
carried-from kind None extension is = absurd (cc)
carried-from kind (Some held) extension is =
    let by = found-by (((kind == 1) || (kind == 3)) && nat_le (length held) 1104) held extension is in
    let tests = both-hold (kind == 1) (kind == 3) (nat_le (length held) 1104) by.0 in
    record {
      there = ap (λ l. Some l) by.1;
      multipart = ⊎_elim (λ one. inl (eqb-true kind 1 one)) (λ three. inr (eqb-true kind 3 three)) tests.0;
      few = subst (λ (l : List ℕ). length l ≤ 1104) by.1 (leb-true (length held) 1104 tests.1);
    }

-- and is carried back by the table of types
abbrev kind_in : Result NewKind Rule → ℕ
kind_in (Ok new) = new.kind
kind_in (Err rule) = 3

unreachable : (a b c : Bool) (one two three : NewKind) (rule : Rule) → one.kind ≡ 3 → two.kind ≡ 3 → three.kind ≡ 3
    → kind_in (ok_or (if a then Some one else if b then Some two else if c then Some three else None) rule) ≡ 3
unreachable true b c one two three rule is_one is_two is_three = is_one
unreachable false true c one two three rule is_one is_two is_three = is_two
unreachable false false true one two three rule is_one is_two is_three = is_three
unreachable false false false one two three rule is_one is_two is_three = refl

kind-one : (code : ℕ) → kind_in (icmp_to_4 1 code) ≡ 3
kind-one code =
    unreachable (list_any (λ y. code == y) (0 ∷ 2 ∷ 3 ∷ [])) (code == 1) (code == 4) (new 3 1 Length) (new 3 10 Length) (new 3 3 Length) IcmpCode6 refl refl refl

carried-back : (kind code : ℕ) (back : NewKind) (extension : List ℕ) → (kind ≡ 1) ⊎ (kind ≡ 3) → icmp_to_4 kind code ≡ Ok back
    → carried_to_4 back.kind (Some extension) ≡ Some extension
carried-back kind code back extension (inl one) is =
    let three : back.kind ≡ 3 = sym (ap kind_in is) ∙ ap (λ k. kind_in (icmp_to_4 k code)) one ∙ kind-one code in
    ap (λ k. carried_to_4 k (Some extension)) three
carried-back kind code back extension (inr three) is =
    let eleven : back.kind ≡ 11 = sym (ap kind_in is) ∙ ap (λ k. kind_in (icmp_to_4 k code)) three in
    ap (λ k. carried_to_4 k (Some extension)) eleven

-- THE EXTENSION

parted-again : (unit octet : ℕ) (bytes quote extension : List ℕ) (new : NewBody) → octet ≡ new.octet → bytes ≡ new.bytes → new ≡ joined unit quote extension
    → IsUnit unit → IsExtension extension → parted unit octet bytes ≡ record { part = padded unit quote; extension = Some extension }
parted-again unit octet bytes quote extension new is_octet is_bytes is is_unit good =
    ap (λ o. parted unit o bytes) is_octet ∙ ap (parted unit new.octet) is_bytes ∙ ap (λ (n : NewBody). parted unit n.octet n.bytes) is
    ∙ parted-joined unit quote extension is_unit good

-- the message in between
parted-between : (source destination kind : ℕ) (zero6 : Bool) (message middle extension : List ℕ) → IsExtension extension
    → carried_to_6 kind (body_of Four message).extension ≡ Some extension → HasBody6 (body_to_6 source destination zero6 kind message) middle
    → body_of Six middle ≡ record { part = padded 8 (take (room6 (Some extension)) (quote_to_6 source destination zero6 (quoted4_fields (body_of Four message).part))); extension = Some extension }
parted-between source destination kind zero6 message middle extension good is has =
    let quote : List ℕ = quote_to_6 source destination zero6 (quoted4_fields (body_of Four message).part) in
    parted-again 8 (length_octet6 middle) (drop 8 middle) (take (room6 (Some extension)) quote) extension (body_to_6 source destination zero6 kind message) has.octet has.bytes
    (ap (λ (e : Option (List ℕ)). joined_to_6 e quote) is) (inr refl) good

pub extensions-back : (source6 destination6 source4 destination4 kind code : ℕ) (zero6 zero4 : Bool) (new : NewKind) (message middle last extension : List ℕ)
    → carried_to_6 kind (body_of Four message).extension ≡ Some extension
    → HasBody6 (body_to_6 source6 destination6 zero6 kind message) middle
    → icmp_to_4 kind code ≡ Ok new
    → HasBody4 (body_to_4 source4 destination4 zero4 new.kind middle) last
    → (body_of Four last).extension ≡ Some extension
extensions-back source6 destination6 source4 destination4 kind code zero6 zero4 new message middle last extension is has table ends =
    let from = carried-from kind (body_of Four message).extension extension is in
    let good = (found (length_octet4 message) (drop 8 message) extension from.there).good in
    let between = parted-between source6 destination6 kind zero6 message middle extension good is has in
    let translated = λ (b : Body). part_to_4 source4 destination4 zero4 b.part in
    let quote : List ℕ = translated (body_of Six middle) in
    let made : body_to_4 source4 destination4 zero4 new.kind middle ≡ joined 4 (take 1020 quote) extension =
    ap (λ (e : Option (List ℕ)). joined_to_4 (carried_to_4 new.kind e) quote) (ap (λ (b : Body). b.extension) between)
    ∙ ap (λ (e : Option (List ℕ)). joined_to_4 e quote) (carried-back kind code new extension from.multipart table) in
    ap (λ (b : Body). b.extension)
    (parted-again 4 (length_octet4 last) (drop 8 last) (take 1020 quote) extension (body_to_4 source4 destination4 zero4 new.kind middle) ends.octet ends.bytes made (inl refl) good)

-- THE QUOTE

fragment-size : (w : Bool) (header : List ℕ) → length header ≡ 8 → w ≡ false → length (if false || not w then header else []) ≡ 8
fragment-size w header size is = rw is size

fragment-none : (w : Bool) (header : List ℕ) → w ≡ true → length (if false || not w then header else []) ≡ 0
fragment-none w header is = rw is refl

fragment-of-whole : (quoted : QuotedIpv4) → is_whole (quoted_fragment4 quoted) ≡ true → length (fragment_to_6 quoted.packet) ≡ 0
fragment-of-whole quoted is = fragment-none (is_whole (quoted_fragment4 quoted)) _ is

fragment-of-cut : (quoted : QuotedIpv4) → is_whole (quoted_fragment4 quoted) ≡ false → length (fragment_to_6 quoted.packet) ≡ 8
fragment-of-cut quoted is = fragment-size (is_whole (quoted_fragment4 quoted)) _ refl is

quote6-length : (source destination : ℕ) (zero6 : Bool) (quoted : QuotedIpv4) → length (quote_to_6 source destination zero6 quoted) ≡ headers_to_6 quoted + length quoted.packet.payload
unfolding quote_to_6
quote6-length source destination zero6 quoted =
    let head : List ℕ = ipv6_header (sent_to_6 source destination zero6 quoted) (quoted_packet_to_6 source destination zero6 quoted) in
    let upper : List ℕ = quoted_upper_to_6 source destination quoted in
    length-append head (fragment_to_6 quoted.packet ++ upper)
    ∙ ap (λ n. 40 + n) (length-append (fragment_to_6 quoted.packet) upper ∙ ap (λ n. length (fragment_to_6 quoted.packet) + n) (upper-length-kept source destination quoted))
    ∙ omega arith

by-whole : (w : Bool) (x a b : List ℕ) → (w ≡ true → x ≡ a) → (w ≡ false → x ≡ b) → x ≡ (if w then a else b)
by-whole true x a b one two = one refl
by-whole false x a b one two = two refl

-- a quote that was cut to this room, with n zeros behind it
quote-back : (source destination room n : ℕ) (zero6 zero4 : Bool) (part : List ℕ) → AreBytes part → quote_refusal4 part ≡ None
    → source < 2 ^ 128 → destination < 2 ^ 128 → 128 ≤ room → MayBePadded n part →
    let quoted = quoted4_fields part in
    let six = take room (quote_to_6 source destination zero6 quoted) ++ replicate n 0 in
    let tos = written_class zero4 (written_class zero6 quoted.packet.tos) in
    let kept = room - headers_to_6 quoted in
    quote_refusal6 six ≡ None
    → part_to_4 quoted.packet.source quoted.packet.destination zero4 six
    ≡ (if is_whole (quoted_fragment4 quoted) then come_back_whole tos kept n quoted else come_back_fragment tos kept n quoted)
quote-back source destination room n zero6 zero4 part small accepted small_source small_destination enough may is =
    let quoted : QuotedIpv4 = quoted4_fields part in
    let quote : List ℕ = quote_to_6 source destination zero6 quoted in
    let tos : ℕ = written_class zero4 (written_class zero6 quoted.packet.tos) in
    let kept : ℕ = room - headers_to_6 quoted in
    let six = λ (m : ℕ). take m quote ++ replicate n 0 in
    let back = λ (m : ℕ). part_to_4 quoted.packet.source quoted.packet.destination zero4 (six m) in
    by-whole (is_whole (quoted_fragment4 quoted)) (back room) (come_back_whole tos kept n quoted) (come_back_fragment tos kept n quoted)
    (λ whole.
    let size = fragment-of-whole quoted whole in
    let sum : room ≡ 40 + kept = omega (arith, size, enough) in
    ap back sum ∙ whole_comes_back source destination kept n zero6 zero4 part small accepted whole small_source small_destination (omega (arith, size, enough)) may)
    (λ cut.
    let size = fragment-of-cut quoted cut in
    let sum : room ≡ 48 + kept = omega (arith, size, enough) in
    ap back sum
    ∙ fragment_comes_back source destination kept n zero6 zero4 part small accepted cut small_source small_destination (omega (arith, size, enough)) may
    (sym (ap (λ m. quote_refusal6 (six m)) sum) ∙ is))

bytes-of-part : (octet : ℕ) (body : List ℕ) → AreBytes body → AreBytes (part_of 4 octet body)
bytes-of-part octet body small = by-test (octet == 0)
  where
    by-test : (b : Bool) → AreBytes (if b then body else take (octet * 4) body)
    by-test true = small
    by-test false = bytes-take (octet * 4) body small

-- BY THE EXTENSION

-- what is to be shown, for the extension that is carried
abbrev IsBack : (source destination kind6 kind4 : ℕ) (zero6 zero4 : Bool) (message middle : List ℕ) → Option (List ℕ) → Type 0
IsBack source destination kind6 kind4 zero6 zero4 message middle carried =
    let quoted = quoted4_fields (body_of Four message).part in
    body_to_4 quoted.packet.source quoted.packet.destination zero4 kind4 middle
    ≡ joined_to_4 (carried_to_4 kind4 carried) (come_back (written_class zero4 (written_class zero6 quoted.packet.tos)) carried quoted)

back-alone : (source destination kind6 kind4 : ℕ) (zero6 zero4 : Bool) (message middle : List ℕ) → AreBytes message
    → quote_refusal4 (body_of Four message).part ≡ None → source < 2 ^ 128 → destination < 2 ^ 128
    → HasBody6 (body_to_6 source destination zero6 kind6 message) middle → quote_refusal6 (body_of Six middle).part ≡ None
    → carried_to_6 kind6 (body_of Four message).extension ≡ None → IsBack source destination kind6 kind4 zero6 zero4 message middle None
back-alone source destination kind6 kind4 zero6 zero4 message middle small accepted small_source small_destination has again none =
    let part : List ℕ = (body_of Four message).part in
    let quoted : QuotedIpv4 = quoted4_fields part in
    let quote : List ℕ = quote_to_6 source destination zero6 quoted in
    let made : body_to_6 source destination zero6 kind6 message ≡ record { bytes = take 1232 quote; octet = 0 } =
    ap (λ (e : Option (List ℕ)). joined_to_6 e quote) none in
    let between : body_of Six middle ≡ record { part = take 1232 quote ++ replicate 0 0; extension = None } =
    ap (λ o. parted 8 o (drop 8 middle)) (has.octet ∙ ap (λ (b : NewBody). b.octet) made)
    ∙ ap (parted 8 0) (has.bytes ∙ ap (λ (b : NewBody). b.bytes) made ∙ sym (append-nil (take 1232 quote))) in
    let small_part = bytes-of-part (length_octet4 message) (drop 8 message) (bytes-drop 8 message small) in
    ap (λ (b : Body). joined_to_4 (carried_to_4 kind4 b.extension) (part_to_4 quoted.packet.source quoted.packet.destination zero4 b.part)) between
    ∙ ap (joined_to_4 None)
    (quote-back source destination 1232 0 zero6 zero4 part small_part accepted small_source small_destination (omega arith) (inl refl)
    (sym (ap (λ (b : Body). quote_refusal6 b.part) between) ∙ again))

room-enough : (len : ℕ) → len ≤ 1104 → 128 ≤ (1232 - len) / 8 * 8
room-enough len few = omega arith

back-extended : (source destination kind6 kind4 : ℕ) (zero6 zero4 : Bool) (message middle extension : List ℕ) → AreBytes message
    → quote_refusal4 (body_of Four message).part ≡ None → source < 2 ^ 128 → destination < 2 ^ 128
    → HasBody6 (body_to_6 source destination zero6 kind6 message) middle → quote_refusal6 (body_of Six middle).part ≡ None
    → carried_to_6 kind6 (body_of Four message).extension ≡ Some extension → IsBack source destination kind6 kind4 zero6 zero4 message middle (Some extension)
back-extended source destination kind6 kind4 zero6 zero4 message middle extension small accepted small_source small_destination has again some =
    let part : List ℕ = (body_of Four message).part in
    let quoted : QuotedIpv4 = quoted4_fields part in
    let quote : List ℕ = quote_to_6 source destination zero6 quoted in
    let room : ℕ = room6 (Some extension) in
    let n : ℕ = zeros_to_6 (Some extension) quoted in
    let from = carried-from kind6 (body_of Four message).extension extension some in
    let old = found (length_octet4 message) (drop 8 message) extension from.there in
    let zeros : padding 8 (length (take room quote)) ≡ n =
    ap (padding 8) (length-take room quote ∙ ap (min room) (quote6-length source destination zero6 quoted)) in
    let between : body_of Six middle ≡ record { part = take room quote ++ replicate n 0; extension = Some extension } =
    parted-between source destination kind6 zero6 message middle extension old.good some has
    ∙ ap (λ m. let b : Body = record { part = take room quote ++ replicate m 0; extension = Some extension } in b) zeros in
    let small_part = bytes-of-part (length_octet4 message) (drop 8 message) (bytes-drop 8 message small) in
    ap (λ (b : Body). joined_to_4 (carried_to_4 kind4 b.extension) (part_to_4 quoted.packet.source quoted.packet.destination zero4 b.part)) between
    ∙ ap (joined_to_4 (carried_to_4 kind4 (Some extension)))
    (quote-back source destination room n zero6 zero4 part small_part accepted small_source small_destination (room-enough (length extension) from.few) (inr old.least)
    (sym (ap (λ (b : Body). quote_refusal6 b.part) between) ∙ again))

by-carried : (P : Option (List ℕ) → Type 0) (carried : Option (List ℕ)) → (carried ≡ None → P None) → ((e : List ℕ) → carried ≡ Some e → P (Some e)) → P carried
by-carried P None one two = one refl
by-carried P (Some e) one two = two e refl

pub bodies-back : (source destination kind6 kind4 : ℕ) (zero6 zero4 : Bool) (message middle : List ℕ) → AreBytes message
    → quote_refusal4 (body_of Four message).part ≡ None → source < 2 ^ 128 → destination < 2 ^ 128
    → HasBody6 (body_to_6 source destination zero6 kind6 message) middle → quote_refusal6 (body_of Six middle).part ≡ None
    → IsBack source destination kind6 kind4 zero6 zero4 message middle (carried_to_6 kind6 (body_of Four message).extension)
bodies-back source destination kind6 kind4 zero6 zero4 message middle small accepted small_source small_destination has again =
    by-carried (IsBack source destination kind6 kind4 zero6 zero4 message middle) (carried_to_6 kind6 (body_of Four message).extension)
    (λ none. back-alone source destination kind6 kind4 zero6 zero4 message middle small accepted small_source small_destination has again none)
    (λ e some. back-extended source destination kind6 kind4 zero6 zero4 message middle e small accepted small_source small_destination has again some)
