-- A quote that goes to IPv6 and back.
use Rattle.std.proofs.Common.{◌≡◌, ◌⊎◌, ℕ, ◌+◌, ◌-◌, ◌%◌, ◌^◌, ◌<◌, ◌≤◌, List, [], ◌++◌, length, take, replicate, Bool, true, false, not, ◌==◌, ◌||◌, if◌then◌else◌, None, Some, Result, Ok, ◌∙◌, ap, sym, refl, subst, zero-add, arith, inl, inr, ⊎_elim}
use Rattle.std.proofs.lemmas.Bool.{cases_lt}
use Rattle.std.proofs.lemmas.List.{length-take, take-take}
use Rattle.std.proofs.lemmas.Bool.{and_parts, eqb-true, ne_eqb, eq-eqb}
use Rattle.std.proofs.lemmas.Bool.Decides.{nat_tests}
use lib.Seq.{take-append-add}
use Rattle.siit_model.specs.Bytes.{AreBytes, flag_bit}
use Rattle.siit_model.specs.Extensions.{FragmentFields, Walked, Trouble, fragment_header, is_extension, walk_of}
use Rattle.siit_model.specs.Fragments.{is_whole}
use Rattle.siit_model.specs.Ipv4.{Ipv4Packet, header_length_in, ipv4_bytes_as, total_length_in}
use Rattle.siit_model.specs.Ipv6.{Ipv6Packet, ipv6_header, ipv6_bytes_as, ipv6_fields, payload_length_in}
use Rattle.siit_model.specs.Upper.{Ends}
use Rattle.siit_checksum.proofs.Fields.{length-if}
use Rattle.siit_v4to6.specs.Laws.{IsHeader6}
use Rattle.siit_v4to6.specs.To6 as To6
use Rattle.siit_v4to6.proofs.Good.{upper-length}
use Rattle.siit_v4to6.proofs.Written.{fields-written, payload_length-written}
use Rattle.siit_v6to4.specs.To4 as To4
use Rattle.siit_v6to4.proofs.Good as Good4
use Rattle.siit_quoted.specs.Errors.{part_to_4, quote_by_walk}
use Rattle.siit_quoted.specs.Laws.{MayBePadded, come_back_whole, come_back_fragment, spelled}
use Rattle.siit_quoted.specs.Quoted.{HasQuote4, QuotedIpv4, quoted4_fields, quoted6_fields, quoted_fragment4}
use Rattle.siit_quoted.specs.Quotes.{quote_to_4, quote_to_6, written_class}
use Rattle.siit_quoted.specs.Refusals.{quote_refusal4, quote_refusal6}
use Rattle.siit_quoted.proofs.Accepted4.{accepted-type, ranges, total-small}
use Rattle.siit_quoted.proofs.Accepted6.{accepted6}
use Rattle.siit_quoted.proofs.Behind.{upper_to_4-behind}
use Rattle.siit_quoted.proofs.Cuts.{upper_to_4-take}
use Rattle.siit_quoted.proofs.Ends.{ends_of}
use Rattle.siit_quoted.proofs.Padded.{IsFrontal, read-padded}
use Rattle.siit_quoted.proofs.Quotes46.{accepted-quote, payload-length}
use Rattle.siit_quoted.proofs.Uppers.{upper-back}
use Rattle.siit_quoted.proofs.Walks6.{IsPlain, no-extension, walk-fragment, walk-plain}

-- a whole quoted packet, with what rules that accept it tell of it
pub record IsWholeQuote (quoted : QuotedIpv4) : Type 0 where
  pub whole : is_whole (quoted_fragment4 quoted) ≡ true
  pub first : quoted.packet.offset ≡ 0
  pub tos : quoted.packet.tos < 256
  pub bytes : AreBytes quoted.packet.payload
  pub there : length quoted.packet.payload ≤ quoted.sent
  pub sent : quoted.sent < 65536
  pub no_hop_options : quoted.packet.protocol ≡ 0 → ⊥
  pub no_routing : quoted.packet.protocol ≡ 43 → ⊥
  pub no_fragment : quoted.packet.protocol ≡ 44 → ⊥
  pub no_icmp6 : quoted.packet.protocol ≡ 58 → ⊥
  pub no_options : quoted.packet.protocol ≡ 60 → ⊥
  pub echo : quoted.packet.protocol ≡ 1 → (To6.is_echo4 quoted.packet.payload ≡ true) × (8 ≤ length quoted.packet.payload)

whole-accepted : (bytes : List ℕ) → AreBytes bytes → quote_refusal4 bytes ≡ None → is_whole (quoted_fragment4 (quoted4_fields bytes)) ≡ true → IsWholeQuote (quoted4_fields bytes)
whole-accepted bytes small is whole =
    let type = accepted-type bytes is in
    let range = ranges bytes small in
    record {
      whole = whole;
      first = eqb-true _ 0 (and_parts _ _ whole).0;
      tos = range.tos;
      bytes = range.bytes;
      there = range.there;
      sent = omega (arith, total-small bytes small);
      no_hop_options = type.no_hop_options;
      no_routing = type.no_routing;
      no_fragment = type.no_fragment;
      no_icmp6 = type.no_icmp6;
      no_options = type.no_options;
      echo = λ one. (type.echo one, type.long one);
    }

plain-next : (protocol : ℕ) → (protocol ≡ 0 → ⊥) → (protocol ≡ 43 → ⊥) → (protocol ≡ 44 → ⊥) → (protocol ≡ 60 → ⊥) → IsPlain (To6.next_header_of protocol)
plain-next protocol a b c d = record {
  no_hop_options = ne_eqb _ 0 (grind (arith, nat_tests));
  no_routing = ne_eqb _ 43 (grind (arith, nat_tests));
  no_fragment = ne_eqb _ 44 (grind (arith, nat_tests));
  no_options = ne_eqb _ 60 (grind (arith, nat_tests));
}

protocol-back : (protocol : ℕ) → (protocol ≡ 58 → ⊥) → To4.protocol_of (To6.next_header_of protocol) ≡ protocol
protocol-back protocol other = grind (arith, nat_tests)

-- the Fragment header in between
abbrev fields6 : QuotedIpv4 → FragmentFields
fields6 quoted = record { offset = quoted.packet.offset; more = quoted.packet.mf == 1; id = quoted.packet.id }

abbrev fragment6 : QuotedIpv4 → List ℕ
fragment6 quoted = fragment_header (To6.next_header_of quoted.packet.protocol) (fields6 quoted)

-- the quote in between, by whether it is a fragment and has its checksum
abbrev written6 : (source destination : ℕ) → (tos_zero : Bool) → QuotedIpv4 → (cut first : Bool) → List ℕ
written6 source destination tos_zero quoted cut first =
    let packet = quoted.packet in
    let fragment = if cut then fragment6 quoted else [] in
    ipv6_bytes_as (length fragment + quoted.sent)
    (record {
      class = written_class tos_zero packet.tos;
      flow = 0;
      hop = packet.ttl;
      source = source;
      destination = destination;
      next = if cut then 44 else To6.next_header_of packet.protocol;
      body = fragment ++ (if first then To6.upper_to_6 packet.protocol (ends_of source destination packet) quoted.sent packet.payload else packet.payload);
    })

-- a cut behind the header cuts the body
cut-read : (len k : ℕ) (packet : Ipv6Packet) → take (40 + k) (ipv6_bytes_as len packet) ≡ ipv6_bytes_as len (record packet { body = take k packet.body })
cut-read len k packet = take-append-add (ipv6_header len packet) packet.body k

-- the packet in between, its end cut
abbrev middle : (source destination k : ℕ) → (tos_zero : Bool) → QuotedIpv4 → Ipv6Packet
middle source destination k tos_zero quoted = record {
  class = written_class tos_zero quoted.packet.tos;
  flow = 0;
  hop = quoted.packet.ttl;
  source = source;
  destination = destination;
  next = To6.next_header_of quoted.packet.protocol;
  body = take k (To6.upper_to_6 quoted.packet.protocol (ends_of source destination quoted.packet) quoted.sent quoted.packet.payload);
}

six-is : (source destination k : ℕ) (tos_zero : Bool) (quoted : QuotedIpv4) → IsWholeQuote quoted
    → take (40 + k) (quote_to_6 source destination tos_zero quoted) ≡ ipv6_bytes_as quoted.sent (middle source destination k tos_zero quoted)
unfolding quote_to_6
six-is source destination k tos_zero quoted good =
    let upper : List ℕ = To6.upper_to_6 quoted.packet.protocol (ends_of source destination quoted.packet) quoted.sent quoted.packet.payload in
    let plain : Ipv6Packet = record (middle source destination k tos_zero quoted) { body = upper } in
    ap (take (40 + k)) (ap (λ w. written6 source destination tos_zero quoted (false || not w) (quoted.packet.offset == 0)) good.whole
    ∙ ap (written6 source destination tos_zero quoted false) (eq-eqb quoted.packet.offset 0 good.first)
    ∙ ap (λ n. ipv6_bytes_as n plain) (zero-add quoted.sent))
    ∙ cut-read quoted.sent k plain

-- zeros behind it are a part of its body
zeros-behind : (len n : ℕ) (packet : Ipv6Packet) → ipv6_bytes_as len packet ++ replicate n 0 ≡ ipv6_bytes_as len (record packet { body = packet.body ++ replicate n 0 })
zeros-behind len n packet = refl

-- what is read behind a header
fields-there : (len : ℕ) (packet : Ipv6Packet) → IsHeader6 packet → len < 65536 → ipv6_fields (ipv6_bytes_as len packet) ≡ record packet { body = take len packet.body }
fields-there len packet good small =
    let short : Ipv6Packet = record packet { body = take len packet.body } in
    let written : ℕ = payload_length_in (ipv6_bytes_as len packet) in
    let is : written ≡ len = payload_length-written len packet small in
    let same : take written packet.body ≡ take written (take len packet.body) =
    ap (λ n. take n packet.body) is ∙ sym (ap (λ n. take n (take len packet.body)) is ∙ take-take len len packet.body (omega arith)) in
    ap (λ (b : List ℕ). record (ipv6_fields (ipv6_bytes_as len short)) { body = b }) same
    ∙ fields-written len short (record { class = good.class; flow = good.flow; source = good.source; destination = good.destination })
    (omega (arith, length-take len packet.body)) small

-- translating an upper part to IPv4 needs and changes no more than its front
upper-frontal : (protocol : ℕ) (ends : Ends) (sent : ℕ) → IsFrontal (To4.upper_to_4 protocol ends sent)
upper-frontal protocol ends sent = record {
  takes = λ k part enough. upper_to_4-take protocol ends sent k part enough;
  behind = upper_to_4-behind protocol ends sent;
  size = Good4.upper-length protocol ends sent;
}

stays-frontal : IsFrontal (λ l. l)
stays-frontal = record { takes = λ k part enough. refl; behind = λ part. refl; size = λ part. refl }

-- zeros follow where none do, or behind enough bytes or all of them
abbrev pub IsPaddedWell : (n : ℕ) → QuotedIpv4 → Type 0
IsPaddedWell n quoted = (n ≡ 0) ⊎ ((18 ≤ length quoted.packet.payload) ⊎ (length quoted.packet.payload ≡ quoted.sent))

pub padded-well : (n : ℕ) (bytes : List ℕ) → HasQuote4 bytes → MayBePadded n bytes → IsPaddedWell n (quoted4_fields bytes)
padded-well n bytes good may =
    let size = payload-length bytes in
    ⊎_elim (λ (none : n ≡ 0). inl none)
    (λ (long : 128 ≤ length bytes).
    ⊎_elim (λ (cut : length bytes < total_length_in bytes). inr (inl (omega (arith, size, long, cut, header-most bytes))))
    (λ (whole : total_length_in bytes ≤ length bytes). inr (inr (omega (arith, size, whole)))) (cases_lt (length bytes) (total_length_in bytes))) may
  where
    header-most : (bytes : List ℕ) → header_length_in bytes ≤ 60
    header-most bytes = omega arith

of-length : (n len other sent : ℕ) → other ≡ len → (n ≡ 0) ⊎ ((18 ≤ len) ⊎ (len ≡ sent)) → (n ≡ 0) ⊎ ((18 ≤ other) ⊎ (other ≡ sent))
of-length n len other sent is which = subst (λ l. (n ≡ 0) ⊎ ((18 ≤ l) ⊎ (l ≡ sent))) (sym is) which

class-small : (tos_zero : Bool) (tos : ℕ) → tos < 256 → written_class tos_zero tos < 256
class-small true tos small = omega arith
class-small false tos small = small

by-walk : (translated : Walked → List ℕ) (walk : Result Walked Trouble) (walked : Walked) → walk ≡ Ok walked → quote_by_walk translated walk ≡ translated walked
by-walk translated walk walked is = ap (quote_by_walk translated) is

-- what the second device makes of what it read
abbrev back : (source destination : ℕ) → (tos_zero : Bool) → Walked → Ipv6Packet → ℕ → List ℕ
back source destination tos_zero walked packet sent = quote_to_4 source destination tos_zero (record { packet = packet; walked = walked; sent = sent })

whole_back : (source destination k n : ℕ) (zero6 zero4 : Bool) (quoted : QuotedIpv4) → IsWholeQuote quoted → IsPaddedWell n quoted → source < 2 ^ 128 → destination < 2 ^ 128 → 18 ≤ k →
    let six = take (40 + k) (quote_to_6 source destination zero6 quoted) ++ replicate n 0 in
    quote_by_walk (λ walked. quote_to_4 quoted.packet.source quoted.packet.destination zero4 (quoted6_fields walked six)) (To4.walk_in six)
    ≡ come_back_whole (written_class zero4 (written_class zero6 quoted.packet.tos)) k n quoted
unfolding quote_to_4
whole_back source destination k n zero6 zero4 quoted good padded small_source small_destination enough =
    let packet : Ipv4Packet = quoted.packet in
    let next : ℕ = To6.next_header_of packet.protocol in
    let ends : Ends = ends_of source destination packet in
    let upper : List ℕ = To6.upper_to_6 packet.protocol ends quoted.sent packet.payload in
    let size = upper-length packet.protocol ends quoted.sent packet.payload in
    let cut : Ipv6Packet = middle source destination k zero6 quoted in
    let mid : Ipv6Packet = record cut { body = take k upper ++ replicate n 0 } in
    let there : List ℕ = take quoted.sent (take k upper ++ replicate n 0) in
    let seen : Ipv6Packet = record cut { body = there } in
    let bytes : List ℕ = ipv6_bytes_as quoted.sent mid in
    let translated = λ (b : List ℕ) (walked : Walked). quote_to_4 packet.source packet.destination zero4 (quoted6_fields walked b) in
    let good_mid : IsHeader6 mid = record { class = class-small zero6 packet.tos good.tos; flow = omega arith; source = small_source; destination = small_destination } in
    let read : ipv6_fields bytes ≡ seen = fields-there quoted.sent mid good_mid good.sent in
    let w : Walked = record { upper = next; at = 0; fragment = None; segments = None } in
    let walk : To4.walk_in bytes ≡ Ok w =
    ap (λ (p : Ipv6Packet). walk_of p.next p.body) read ∙ walk-plain next there (plain-next packet.protocol good.no_hop_options good.no_routing good.no_fragment good.no_options) in
    let sent : payload_length_in bytes - 0 ≡ quoted.sent = omega (arith, payload_length-written quoted.sent mid good.sent) in
    let payload : To4.upper_to_4 next ends quoted.sent there ≡ take quoted.sent (take k (spelled packet.protocol packet.payload) ++ replicate n 0) =
    read-padded (To4.upper_to_4 next ends quoted.sent) (upper-frontal next ends quoted.sent) k n quoted.sent upper enough (omega (arith, size, good.there))
    (of-length n (length packet.payload) (length upper) quoted.sent size padded)
    ∙ ap (λ (u : List ℕ). take quoted.sent (take k u ++ replicate n 0)) (upper-back packet.protocol ends quoted.sent packet.payload good.bytes good.no_icmp6 good.echo) in
    let written = λ (protocol : ℕ) (body : List ℕ).
    ipv4_bytes_as (20 + quoted.sent)
    (record {
      tos = written_class zero4 (written_class zero6 packet.tos);
      id = 0;
      df = To4.df_of (20 + quoted.sent);
      mf = 0;
      offset = 0;
      ttl = packet.ttl;
      protocol = protocol;
      source = packet.source;
      destination = packet.destination;
      options = [];
      payload = body;
    }) in
    ap (λ (b : List ℕ). quote_by_walk (translated b) (To4.walk_in b)) (ap (λ l. l ++ replicate n 0) (six-is source destination k zero6 quoted good) ∙ zeros-behind quoted.sent n cut)
    ∙ by-walk (translated bytes) (To4.walk_in bytes) w walk
    ∙ ap (λ (p : Ipv6Packet). back packet.source packet.destination zero4 w p (payload_length_in bytes - 0)) read
    ∙ ap (back packet.source packet.destination zero4 w seen) sent
    ∙ ap (λ p. written p (To4.upper_to_4 next ends quoted.sent there)) (protocol-back packet.protocol good.no_icmp6)
    ∙ ap (written packet.protocol) payload

-- FRAGMENTS

-- a quoted fragment that rules accept on both ways; no fragment of ICMP is accepted
pub record IsFragmentQuote (quoted : QuotedIpv4) : Type 0 where
  pub fragment : is_whole (quoted_fragment4 quoted) ≡ false
  pub tos : quoted.packet.tos < 256
  pub id : quoted.packet.id < 65536
  pub mf : quoted.packet.mf < 2
  pub offset : quoted.packet.offset < 8192
  pub bytes : AreBytes quoted.packet.payload
  pub there : length quoted.packet.payload ≤ quoted.sent
  pub sent : 8 + quoted.sent < 65536
  pub no_icmp : quoted.packet.protocol ≡ 1 → ⊥
  pub no_icmp6 : quoted.packet.protocol ≡ 58 → ⊥

abbrev upper6 : (source destination : ℕ) → QuotedIpv4 → List ℕ
upper6 source destination quoted =
    if quoted.packet.offset == 0 then To6.upper_to_6 quoted.packet.protocol (ends_of source destination quoted.packet) quoted.sent quoted.packet.payload
    else quoted.packet.payload

abbrev middle_fragment : (source destination : ℕ) → (tos_zero : Bool) → QuotedIpv4 → List ℕ → Ipv6Packet
middle_fragment source destination tos_zero quoted upper = record {
  class = written_class tos_zero quoted.packet.tos;
  flow = 0;
  hop = quoted.packet.ttl;
  source = source;
  destination = destination;
  next = 44;
  body = fragment6 quoted ++ upper;
}

fragment-six-is : (source destination k : ℕ) (tos_zero : Bool) (quoted : QuotedIpv4) → is_whole (quoted_fragment4 quoted) ≡ false
    → take (48 + k) (quote_to_6 source destination tos_zero quoted)
    ≡ ipv6_bytes_as (8 + quoted.sent) (middle_fragment source destination tos_zero quoted (take k (upper6 source destination quoted)))
unfolding quote_to_6
fragment-six-is source destination k tos_zero quoted cut =
    let upper : List ℕ = upper6 source destination quoted in
    let plain : Ipv6Packet = middle_fragment source destination tos_zero quoted upper in
    let sum : 48 + k ≡ 40 + (8 + k) = omega arith in
    ap (take (48 + k)) (ap (λ w. written6 source destination tos_zero quoted (false || not w) (quoted.packet.offset == 0)) cut)
    ∙ ap (λ n. take n (ipv6_bytes_as (8 + quoted.sent) plain)) sum
    ∙ cut-read (8 + quoted.sent) (8 + k) plain
    ∙ ap (λ (b : List ℕ). ipv6_bytes_as (8 + quoted.sent) (record plain { body = b })) (take-append-add (fragment6 quoted) upper k)

mf-back : (mf : ℕ) → mf < 2 → flag_bit (mf == 1) ≡ mf
mf-back mf small = grind (arith, nat_tests)

-- a choice whose parts are changed alike
if-both : (first : Bool) (a b c d : List ℕ) → (first ≡ true → a ≡ c) → (first ≡ false → b ≡ d) → (if first then a else b) ≡ (if first then c else d)
if-both true a b c d one two = one refl
if-both false a b c d one two = two refl

chosen : (first : Bool) (made : List ℕ → List ℕ) (a b : List ℕ) → made (if first then a else b) ≡ (if first then made a else made b)
chosen true made a b = refl
chosen false made a b = refl

upper6-length : (source destination : ℕ) (quoted : QuotedIpv4) → length (upper6 source destination quoted) ≡ length quoted.packet.payload
upper6-length source destination quoted =
    length-if (quoted.packet.offset == 0) _ quoted.packet.payload (length quoted.packet.payload)
    (λ (_ : (quoted.packet.offset == 0) ≡ true). upper-length quoted.packet.protocol (ends_of source destination quoted.packet) quoted.sent quoted.packet.payload) refl

if-is : (first : Bool) (a b : List ℕ) → first ≡ true → (if first then a else b) ≡ a
if-is first a b is = rw is refl

if-not : (first : Bool) (a b : List ℕ) → first ≡ false → (if first then a else b) ≡ b
if-not first a b is = rw is refl

-- what is read behind the Fragment header
fragment-read : (source destination k n : ℕ) (tos_zero : Bool) (quoted : QuotedIpv4) → IsFragmentQuote quoted → source < 2 ^ 128 → destination < 2 ^ 128
    → ipv6_fields (ipv6_bytes_as (8 + quoted.sent) (middle_fragment source destination tos_zero quoted (take k (upper6 source destination quoted) ++ replicate n 0)))
    ≡ middle_fragment source destination tos_zero quoted (take quoted.sent (take k (upper6 source destination quoted) ++ replicate n 0))
fragment-read source destination k n tos_zero quoted good small_source small_destination =
    let there : List ℕ = take k (upper6 source destination quoted) ++ replicate n 0 in
    let mid : Ipv6Packet = middle_fragment source destination tos_zero quoted there in
    let good_mid : IsHeader6 mid = record { class = class-small tos_zero quoted.packet.tos good.tos; flow = omega arith; source = small_source; destination = small_destination } in
    fields-there (8 + quoted.sent) mid good_mid good.sent
    ∙ ap (λ (b : List ℕ). record mid { body = b }) (take-append-add (fragment6 quoted) there quoted.sent)

fragment-zeros : (source destination k n : ℕ) (tos_zero : Bool) (quoted : QuotedIpv4) → is_whole (quoted_fragment4 quoted) ≡ false
    → take (48 + k) (quote_to_6 source destination tos_zero quoted) ++ replicate n 0
    ≡ ipv6_bytes_as (8 + quoted.sent) (middle_fragment source destination tos_zero quoted (take k (upper6 source destination quoted) ++ replicate n 0))
fragment-zeros source destination k n tos_zero quoted cut =
    ap (λ l. l ++ replicate n 0) (fragment-six-is source destination k tos_zero quoted cut)
    ∙ zeros-behind (8 + quoted.sent) n (middle_fragment source destination tos_zero quoted (take k (upper6 source destination quoted)))

fragment_back : (source destination k n : ℕ) (zero6 zero4 : Bool) (quoted : QuotedIpv4) → IsFragmentQuote quoted → IsPaddedWell n quoted
    → is_extension (To6.next_header_of quoted.packet.protocol) ≡ false → source < 2 ^ 128 → destination < 2 ^ 128 → 18 ≤ k →
    let six = take (48 + k) (quote_to_6 source destination zero6 quoted) ++ replicate n 0 in
    quote_by_walk (λ walked. quote_to_4 quoted.packet.source quoted.packet.destination zero4 (quoted6_fields walked six)) (To4.walk_in six)
    ≡ come_back_fragment (written_class zero4 (written_class zero6 quoted.packet.tos)) k n quoted
unfolding quote_to_4
fragment_back source destination k n zero6 zero4 quoted good padded may small_source small_destination enough =
    let packet : Ipv4Packet = quoted.packet in
    let first : Bool = packet.offset == 0 in
    let next : ℕ = To6.next_header_of packet.protocol in
    let ends : Ends = ends_of source destination packet in
    let zeros : List ℕ = replicate n 0 in
    let moved : List ℕ = To6.upper_to_6 packet.protocol ends quoted.sent packet.payload in
    let size = upper-length packet.protocol ends quoted.sent packet.payload in
    let upper : List ℕ = upper6 source destination quoted in
    let there : List ℕ = take quoted.sent (take k upper ++ zeros) in
    let seen : Ipv6Packet = middle_fragment source destination zero6 quoted there in
    let bytes : List ℕ = ipv6_bytes_as (8 + quoted.sent) (middle_fragment source destination zero6 quoted (take k upper ++ zeros)) in
    let translated = λ (b : List ℕ) (walked : Walked). quote_to_4 packet.source packet.destination zero4 (quoted6_fields walked b) in
    let read : ipv6_fields bytes ≡ seen = fragment-read source destination k n zero6 quoted good small_source small_destination in
    let w : Walked = record { upper = next; at = 8; fragment = Some (fields6 quoted); segments = None } in
    let walk : To4.walk_in bytes ≡ Ok w =
    ap (λ (p : Ipv6Packet). walk_of p.next p.body) read ∙ walk-fragment next (fields6 quoted) there may good.offset (omega (arith, good.id)) in
    let sent : payload_length_in bytes - 8 ≡ quoted.sent =
    omega (arith, payload_length-written (8 + quoted.sent) (middle_fragment source destination zero6 quoted (take k upper ++ zeros)) good.sent) in
    let payload : (if first then To4.upper_to_4 next ends quoted.sent there else there)
    ≡ take quoted.sent (take k (if first then spelled packet.protocol packet.payload else packet.payload) ++ zeros) =
    if-both first (To4.upper_to_4 next ends quoted.sent there) there (take quoted.sent (take k (spelled packet.protocol packet.payload) ++ zeros)) (take quoted.sent (take k packet.payload ++ zeros))
    (λ (is : first ≡ true).
    ap (λ (u : List ℕ). To4.upper_to_4 next ends quoted.sent (take quoted.sent (take k u ++ zeros))) (if-is first moved packet.payload is)
    ∙ read-padded (To4.upper_to_4 next ends quoted.sent) (upper-frontal next ends quoted.sent) k n quoted.sent moved enough (omega (arith, size, good.there))
    (of-length n (length packet.payload) (length moved) quoted.sent size padded)
    ∙ ap (λ (u : List ℕ). take quoted.sent (take k u ++ zeros))
    (upper-back packet.protocol ends quoted.sent packet.payload good.bytes good.no_icmp6 (λ icmp. absurd (good.no_icmp icmp))))
    (λ (is : first ≡ false). ap (λ (u : List ℕ). take quoted.sent (take k u ++ zeros)) (if-not first moved packet.payload is))
    ∙ sym (chosen first (λ (u : List ℕ). take quoted.sent (take k u ++ zeros)) (spelled packet.protocol packet.payload) packet.payload) in
    let written = λ (protocol id mf : ℕ) (body : List ℕ).
    ipv4_bytes_as (20 + quoted.sent)
    (record {
      tos = written_class zero4 (written_class zero6 packet.tos);
      id = id;
      df = 0;
      mf = mf;
      offset = packet.offset;
      ttl = packet.ttl;
      protocol = protocol;
      source = packet.source;
      destination = packet.destination;
      options = [];
      payload = body;
    }) in
    let body : List ℕ = if first then To4.upper_to_4 next ends quoted.sent there else there in
    let same_id : packet.id % 65536 ≡ packet.id = omega (arith, good.id) in
    ap (λ (b : List ℕ). quote_by_walk (translated b) (To4.walk_in b)) (fragment-zeros source destination k n zero6 quoted good.fragment)
    ∙ by-walk (translated bytes) (To4.walk_in bytes) w walk
    ∙ ap (λ (p : Ipv6Packet). back packet.source packet.destination zero4 w p (payload_length_in bytes - 8)) read
    ∙ ap (back packet.source packet.destination zero4 w seen) sent
    ∙ ap (λ p. written p (packet.id % 65536) (flag_bit (packet.mf == 1)) body) (protocol-back packet.protocol good.no_icmp6)
    ∙ ap (λ n. written packet.protocol n (flag_bit (packet.mf == 1)) body) same_id
    ∙ ap (λ n. written packet.protocol packet.id n body) (mf-back packet.mf good.mf)
    ∙ ap (written packet.protocol packet.id packet.mf) payload

-- FROM ACCEPTANCE

pub whole_comes_back : (source destination k n : ℕ) (zero6 zero4 : Bool) (bytes : List ℕ) → AreBytes bytes → quote_refusal4 bytes ≡ None
    → is_whole (quoted_fragment4 (quoted4_fields bytes)) ≡ true → source < 2 ^ 128 → destination < 2 ^ 128 → 18 ≤ k → MayBePadded n bytes →
    let quoted = quoted4_fields bytes in
    part_to_4 quoted.packet.source quoted.packet.destination zero4 (take (40 + k) (quote_to_6 source destination zero6 quoted) ++ replicate n 0)
    ≡ come_back_whole (written_class zero4 (written_class zero6 quoted.packet.tos)) k n quoted
whole_comes_back source destination k n zero6 zero4 bytes small is whole small_source small_destination enough may =
    whole_back source destination k n zero6 zero4 (quoted4_fields bytes) (whole-accepted bytes small is whole) (padded-well n bytes (accepted-quote bytes is) may) small_source small_destination enough

fragment-accepted : (bytes : List ℕ) → AreBytes bytes → quote_refusal4 bytes ≡ None → is_whole (quoted_fragment4 (quoted4_fields bytes)) ≡ false → IsFragmentQuote (quoted4_fields bytes)
fragment-accepted bytes small is cut =
    let type = accepted-type bytes is in
    let range = ranges bytes small in
    let has : HasQuote4 bytes = accepted-quote bytes is in
    record {
      fragment = cut;
      tos = range.tos;
      id = range.id;
      mf = range.mf;
      offset = range.offset;
      bytes = range.bytes;
      there = range.there;
      sent = omega (arith, total-small bytes small, has.least, has.ordered);
      no_icmp = λ one. absurd (cuts (is_whole (quoted_fragment4 (quoted4_fields bytes))) (type.whole one) cut);
      no_icmp6 = type.no_icmp6;
    }
  where
    cuts : (b : Bool) → b ≡ true → b ≡ false → ⊥
    cuts true one other = absurd (cc)
    cuts false one other = absurd (cc)

pub fragment_comes_back : (source destination k n : ℕ) (zero6 zero4 : Bool) (bytes : List ℕ) → AreBytes bytes → quote_refusal4 bytes ≡ None
    → is_whole (quoted_fragment4 (quoted4_fields bytes)) ≡ false → source < 2 ^ 128 → destination < 2 ^ 128 → 18 ≤ k → MayBePadded n bytes →
    let quoted = quoted4_fields bytes in
    let six = take (48 + k) (quote_to_6 source destination zero6 quoted) ++ replicate n 0 in
    quote_refusal6 six ≡ None
    → part_to_4 quoted.packet.source quoted.packet.destination zero4 six
    ≡ come_back_fragment (written_class zero4 (written_class zero6 quoted.packet.tos)) k n quoted
fragment_comes_back source destination k n zero6 zero4 bytes small is cut small_source small_destination enough may accepted =
    let quoted : QuotedIpv4 = quoted4_fields bytes in
    let good = fragment-accepted bytes small is cut in
    let there : List ℕ = take quoted.sent (take k (upper6 source destination quoted) ++ replicate n 0) in
    let acc = accepted6 (take (48 + k) (quote_to_6 source destination zero6 quoted) ++ replicate n 0) accepted in
    let walk : walk_of 44 (fragment6 quoted ++ there) ≡ Ok acc.walked =
    sym (ap To4.walk_in (fragment-zeros source destination k n zero6 quoted cut)
    ∙ ap (λ (p : Ipv6Packet). walk_of p.next p.body) (fragment-read source destination k n zero6 quoted good small_source small_destination)) ∙ acc.walk in
    fragment_back source destination k n zero6 zero4 quoted good (padded-well n bytes (accepted-quote bytes is) may)
    (no-extension (To6.next_header_of quoted.packet.protocol) (fields6 quoted) there acc.walked walk) small_source small_destination enough
