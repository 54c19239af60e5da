-- What no rule forbids of a datagram, from the packets that cover it.
use Rattle.std.proofs.Common.{◌≡◌, ℕ, ◌+◌, ◌*◌, ◌<◌, ◌≤◌, List, [], ◌∷◌, ◌++◌, length, take, map, get_or, All, Contains, Bool, true, false, not, ◌&&◌, ◌==◌, nat_lt, if◌then◌else◌, Option, Some, None, Result, Ok, Err, ◌∙◌, ap, sym, subst, refl, ⊎_elim, arith, ne_eqb, le-ltb, true≢false}
use Rattle.std.specs.List.{list_any}
use Rattle.std.proofs.lemmas.Bool.{and_left, and_right, and_parts, cases_eq, cond-false, eqb-true}
use Rattle.std.proofs.lemmas.List.Elements.{All-contains, All-head}
use Rattle.siit_model.specs.Bytes.{field16, part}
use Rattle.siit_model.specs.Checksum.{checksum_place}
use Rattle.siit_model.specs.Extensions.{Walked, Trouble, walk_of}
use Rattle.siit_model.specs.Fragments.{Common, Datagram, Fragment, datagram4, fragment4, fragment6, fragment_by, fragment_if, is_whole, plain_packet6, whole_of}
use Rattle.siit_model.specs.Ipv4.{Ipv4Packet, is_whole4}
use Rattle.siit_model.specs.Ipv6.{Ipv6Packet}
use Rattle.siit_rules.specs.declared.rule.Rule.TheVariants.{UpperShort4, IcmpFragment4, UdpZeroFragment4, UdpZero4, UdpLength4, IcmpType4, IcmpCode4, IcmpPointer4, QuoteShort4, QuoteBad4, NestedTwice4, QuoteType4, QuoteAddress4}
use Rattle.siit_fragments.specs.Covers.{Covers, Covers6, HoldsByte, IsFragmentOf, IsPart}
use Rattle.siit_fragments.proofs.Lists.{All-from_map, Any-from_map}
use Rattle.siit_fragments.proofs.Parts.{field16-take}
use Rattle.siit_fragments.proofs.Wholes.{WholeFields, whole-fields}
use Rattle.siit_roles.specs.declared.settings.Settings.{Settings}
use Rattle.siit_v4to6.specs.To6.{common_to_6, next_header_of}
use Rattle.siit_v4to6.proofs.Packets.{plain-packet}
use Rattle.siit_device.specs.Arrival4.{has_clash4, is_error4, is_upper_short4, lacks_checksum4}
use Rattle.siit_device.specs.Forward.{head6_for, is_cut6, packets_to_6, pieces6, translated6, upper_forward, whole6}
use Rattle.siit_device.specs.Rows.{first_of}
use Rattle.siit_device.specs.Rules4.{header_rows4, quote_rows4, upper_rows4}
use Rattle.siit_device.specs.Shapes.{least_upper}
use Rattle.siit_device.proofs.Rows.{none-at}
use Rattle.siit_cutting.specs.Laws.{IsTaken4, Numbered}
use Rattle.siit_cutting.proofs.Lists.{first-has_more, part-not_whole, whole-data, whole-is}
use Rattle.siit_pair.specs.Across.{between}
use Rattle.siit_pair.specs.Laws.{GoesAcross, IsErrorAccepted, arriving}
use Rattle.siit_pair.proofs.Conditions4.{HasUpper4, has-upper4}
use Rattle.siit_pair.proofs.Taken.{NoRule4, NoRule6}

-- a packet that entered
pub record Facts (first : Settings) (p : Ipv4Packet) : Type 0 where
  pub taken : IsTaken4 p
  pub none : NoRule4 first p

-- a packet between
pub record Facts6 (second : Settings) (x : Numbered) : Type 0 where
  pub alive : 2 ≤ x.0.hop
  pub walked : Walked
  pub walk : walk_of x.0.next x.0.body ≡ Ok walked
  pub none : NoRule6 second (record { packet = x.0; walked = walked })

-- THE HOP LIMIT

hop-of : (q : Ipv6Packet) (r : Result Walked Trouble) (g : Fragment) → fragment_if q r ≡ Some g → g.common.hop ≡ q.hop
hop-of q (Ok w) g is = let same : fragment_by q w ≡ g = cc in ap (λ (f : Fragment). f.common.hop) (sym same)
hop-of q (Err trouble) g is = cc

first-hop : (x : Numbered) (behind : List Numbered) (common : Common) (id : ℕ) (d : Datagram) (fragments : List Fragment)
    → map fragment6 (map (λ (y : Numbered). y.0) (x ∷ behind)) ≡ map (λ f. Some f) fragments → All (IsFragmentOf d id) fragments → x.0.hop ≡ d.common.hop
first-hop x behind common id d [] is parts = cc
first-hop x behind common id d (f ∷ fragments) is parts =
    let first : fragment6 x.0 ≡ Some f = cc in
    sym (hop-of x.0 (walk_of x.0.next x.0.body) f first) ∙ ap (λ (c : Common). c.hop) (All-head (IsFragmentOf d id) f fragments parts).shares

pub lives : (second : Settings) (e : Datagram) (between : List Numbered) → Covers6 e (map (λ x. x.0) between) → All (Facts6 second) between → 2 ≤ e.common.hop
lives second e [] c facts = absurd (none c.fragments c.walked c.covers.some)
  where
    none : (fragments : List Fragment) → map fragment6 [] ≡ map (λ f. Some f) fragments → 0 < length fragments → ⊥
    none [] is some = omega arith
    none (f ∷ fragments) is some = cc
lives second e (x ∷ rest) c facts =
    subst (λ n. 2 ≤ n) (first-hop x rest e.common c.covers.id e c.fragments c.walked c.covers.parts) (All-head (Facts6 second) x rest facts).alive

-- RULES THAT LOOK AT NO MORE THAN THE UPPER PART

abbrev plain : (protocol offset mf : ℕ) → (payload : List ℕ) → Ipv4Packet
plain protocol offset mf payload = record {
  tos = 0;
  id = 0;
  df = 0;
  mf = mf;
  offset = offset;
  ttl = 0;
  protocol = protocol;
  source = 0;
  destination = 0;
  options = [];
  payload = payload;
}

abbrev plain-of : Ipv4Packet → Ipv4Packet
plain-of p = plain p.protocol p.offset p.mf p.payload

upper-plain : (settings : Settings) (p : Ipv4Packet) → first_of (upper_rows4 settings) p ≡ first_of (upper_rows4 settings) (plain-of p)
unfolding upper_rows4
upper-plain settings p = refl

quote-plain : (settings : Settings) (p : Ipv4Packet) → first_of (quote_rows4 settings) p ≡ first_of (quote_rows4 settings) (plain-of p)
unfolding quote_rows4
quote-plain settings p = refl

error-plain : (p : Ipv4Packet) → is_error4 p ≡ is_error4 (plain-of p)
error-plain p = refl

-- two packets that these rules can't tell apart
pub record AreAlike (p d : Ipv4Packet) : Type 0 where
  pub protocol : p.protocol ≡ d.protocol
  pub offset : p.offset ≡ d.offset
  pub mf : p.mf ≡ d.mf
  pub payload : p.payload ≡ d.payload

same-plain : (p d : Ipv4Packet) → AreAlike p d → plain-of p ≡ plain-of d
same-plain p d alike =
    ap (λ n. plain n p.offset p.mf p.payload) alike.protocol
    ∙ ap (λ n. plain d.protocol n p.mf p.payload) alike.offset
    ∙ ap (λ n. plain d.protocol d.offset n p.payload) alike.mf
    ∙ ap (λ l. plain d.protocol d.offset d.mf l) alike.payload

upper-alike : (settings : Settings) (p d : Ipv4Packet) → AreAlike p d → first_of (upper_rows4 settings) p ≡ None → first_of (upper_rows4 settings) d ≡ None
upper-alike settings p d alike none =
    upper-plain settings d ∙ ap (λ q. first_of (upper_rows4 settings) q) (sym (same-plain p d alike)) ∙ sym (upper-plain settings p) ∙ none

quote-alike : (settings : Settings) (p d : Ipv4Packet) → AreAlike p d → first_of (quote_rows4 settings) p ≡ None → first_of (quote_rows4 settings) d ≡ None
quote-alike settings p d alike none =
    quote-plain settings d ∙ ap (λ q. first_of (quote_rows4 settings) q) (sym (same-plain p d alike)) ∙ sym (quote-plain settings p) ∙ none

error-alike : (p d : Ipv4Packet) → AreAlike p d → is_error4 d ≡ true → is_error4 p ≡ true
error-alike p d alike is = error-plain p ∙ ap is_error4 (same-plain p d alike) ∙ sym (error-plain d) ∙ is

clashes : ℕ → Bool
clashes protocol = list_any (λ n. protocol == n) (0 ∷ 43 ∷ 44 ∷ 58 ∷ 60 ∷ [])

clash-alike : (p d : Ipv4Packet) → p.protocol ≡ d.protocol → first_of header_rows4 p ≡ None → has_clash4 d ≡ false
unfolding header_rows4
clash-alike p d same none =
    ap (λ protocol. list_any (λ n. protocol == n) (0 ∷ 43 ∷ 44 ∷ 58 ∷ 60 ∷ [])) (sym same) ∙ none-at 6 header_rows4 p none

-- ONE WHOLE PACKET

no-more : (mf : ℕ) → mf < 2 → (mf == 1) ≡ false → mf ≡ 0
no-more mf small unset = grind (arith, unset)

inner : (v w : Walked) → (r : Result Walked Trouble) → r ≡ Ok v → r ≡ Ok w → v ≡ w
inner v w r is other = cc

module _ (first second : Settings) (d : Ipv4Packet) (whole : is_whole4 d ≡ true) (id : ℕ) (p : Ipv4Packet) (facts : Facts first p)
    (of : IsFragmentOf (datagram4 d) id (fragment4 p)) (one : is_whole (fragment4 p) ≡ true) where
  alike : AreAlike p d
  alike =
      let fields : WholeFields (fragment4 p) = whole-fields (fragment4 p) one in
      let both = and_parts (d.offset == 0) (d.mf == 0) whole in
      record {
        protocol = ap (λ (c : Common). c.protocol) of.shares;
        offset = fields.offset ∙ sym (eqb-true d.offset 0 both.0);
        mf = no-more p.mf facts.taken.good.mf fields.more ∙ sym (eqb-true d.mf 0 both.1);
        payload = whole-data (datagram4 d) id (fragment4 p) one of;
      }

  abbrev e : Datagram
  e = between first d

  -- the packet between
  between-is : whole6 first p ≡ plain_packet6 (whole_of e)
  between-is =
      let g : Fragment = translated6 first (fragment4 p) in
      let held : g.bytes ≡ e.payload = ap (λ h. upper_forward first h) (whole-is (datagram4 d) id (fragment4 p) one of) in
      let common : g.common ≡ e.common = ap (λ c. common_to_6 (head6_for first c) c) of.shares in
      plain-packet false g (ap not one)
      ∙ ap (λ c. plain_packet6 (record { common = c; id = 0; offset = 0; more = false; bytes = g.bytes })) common
      ∙ ap (λ l. plain_packet6 (record { common = e.common; id = 0; offset = 0; more = false; bytes = l })) held

  given-one : is_error4 d ≡ true → packets_to_6 first p ≡ whole6 first p ∷ []
  given-one error =
      cond-false (is_cut6 first p) (pieces6 first p) (whole6 first p ∷ [])
      (and_right (p.df == 0) _ (and_left (not (is_error4 p)) _ (ap not (error-alike p d alike error))))

  walk-is : d.protocol ≡ 1 → walk_of (plain_packet6 (whole_of e)).next (plain_packet6 (whole_of e)).body ≡ Ok (arriving e).walked
  walk-is icmp =
      let next : next_header_of d.protocol ≡ 58 = ap next_header_of icmp in
      ap (λ n. walk_of n e.payload) next
      ∙ ap (λ n. Ok (record { upper = n; at = 0; fragment = None; segments = None })) (sym next)

  accepted-by : (x : Numbered) → x.0 ≡ whole6 first p → d.protocol ≡ 1 → Facts6 second x → IsErrorAccepted second e
  accepted-by x is icmp known =
      let packet : x.0 ≡ plain_packet6 (whole_of e) = is ∙ between-is in
      let walk : walk_of (plain_packet6 (whole_of e)).next (plain_packet6 (whole_of e)).body ≡ Ok known.walked =
      ap (λ (q : Ipv6Packet). walk_of q.next q.body) (sym packet) ∙ known.walk in
      let same : known.walked ≡ (arriving e).walked = inner known.walked (arriving e).walked _ walk (walk-is icmp) in
      let none : NoRule6 second (arriving e) =
      subst (λ w. NoRule6 second (record { packet = plain_packet6 (whole_of e); walked = w })) same
      (subst (λ q. NoRule6 second (record { packet = q; walked = known.walked })) packet known.none) in
      record { upper = none.upper; quote = none.quote }

  error-accepted : (between : List Numbered) → map (λ x. x.0) between ≡ packets_to_6 first p ++ [] → All (Facts6 second) between → is_error4 d ≡ true → IsErrorAccepted second e
  error-accepted between given known error =
      let icmp : d.protocol ≡ 1 = eqb-true d.protocol 1 (and_parts (d.protocol == 1) (is_whole4 d) (and_parts ((d.protocol == 1) && is_whole4 d) _ error).0).0 in
      at between (given ∙ ap (λ l. l ++ []) (given-one error)) known icmp
    where
      at : (between : List Numbered) → map (λ x. x.0) between ≡ whole6 first p ∷ [] → All (Facts6 second) between → d.protocol ≡ 1 → IsErrorAccepted second e
      at [] given known icmp = cc
      at (x ∷ []) given known icmp = let is : x.0 ≡ whole6 first p = cc in accepted-by x is icmp (All-head (Facts6 second) x [] known)
      at (x ∷ y ∷ rest) given known icmp = cc

  pub goes-whole : 3 ≤ d.ttl → (between : List Numbered) → map (λ x. x.0) between ≡ packets_to_6 first p ++ [] → All (Facts6 second) between → GoesAcross first second d
  goes-whole alive between given known = record {
    alive = alive;
    no_clash = clash-alike p d alike.protocol facts.none.header;
    upper = upper-alike first p d alike facts.none.upper;
    quote = quote-alike first p d alike facts.none.quote;
    error = error-accepted between given known;
  }

-- PARTS

upper-none : (settings : Settings) (d : Ipv4Packet) → is_upper_short4 d ≡ false → (d.protocol == 1) ≡ false → lacks_checksum4 d ≡ false
    → first_of (upper_rows4 settings) d ≡ None
unfolding upper_rows4
upper-none settings d short icmp lacks = pick (is_upper_short4 d) (d.protocol == 1) (lacks_checksum4 d) _ _ _ _ _ _ _ _ short icmp lacks
  where
    pick : (short icmp lacks a b c f g h i j : Bool) → short ≡ false → icmp ≡ false → lacks ≡ false
        → (if short then Some UpperShort4 else if icmp && a then Some IcmpFragment4 else if lacks && b then Some UdpZeroFragment4
        else if lacks && c then Some UdpZero4 else if lacks && f then Some UdpLength4 else if icmp && g then Some IcmpType4
        else if icmp && h then Some IcmpCode4 else if icmp && i && j then Some IcmpPointer4 else None) ≡ None
    pick short icmp lacks a b c f g h i j s t u = rw (s, t, u) refl

quote-none : (settings : Settings) (d : Ipv4Packet) → is_error4 d ≡ false → first_of (quote_rows4 settings) d ≡ None
unfolding quote_rows4
quote-none settings d e = pick (is_error4 d) _ _ _ _ _ e
  where
    pick : (b x y z w v : Bool) → b ≡ false
        → (if b && x then Some QuoteShort4 else if b && y then Some QuoteBad4 else if b && z then Some NestedTwice4
        else if b && w then Some QuoteType4 else if b && v then Some QuoteAddress4 else None) ≡ None
    pick b x y z w v e = rw e refl

module _ (first second : Settings) (d : Ipv4Packet) (packets : List Ipv4Packet) (facts : All (Facts first) packets) (c : Covers (datagram4 d) (map fragment4 packets))
    (parts : All (IsPart (checksum_place d.protocol)) (map fragment4 packets)) where
  -- the packet that holds the first byte
  record Beginning : Type 0 where
    p : Ipv4Packet
    known : Facts first p
    of : IsFragmentOf (datagram4 d) c.id (fragment4 p)
    part : IsPart (checksum_place d.protocol) (fragment4 p)
    offset : p.offset ≡ 0

  beginning : Beginning
  beginning =
      let fragments : List Fragment = map fragment4 packets in
      let place : Option ℕ = checksum_place d.protocol in
      let one : Fragment = get_or fragments 0 (whole_of (datagram4 d)) in
      let one_inside = (c.parts 0 (whole_of (datagram4 d)) c.some).slice.inside in
      let one_some = (parts 0 (whole_of (datagram4 d)) c.some).payload in
      let any = Any-from_map (HoldsByte 0) fragment4 packets (c.every 0 (begun (length d.payload) one.offset (length one.bytes) one_inside one_some)) in
      let there : Contains packets any.1 = (any.0, any.2, any.3) in
      let start : 8 * any.1.offset ≤ 0 = any.4.0 in
      record {
        p = any.1;
        known = All-contains (Facts first) packets any.1 facts there;
        of = All-contains (λ q. IsFragmentOf (datagram4 d) c.id (fragment4 q)) packets any.1 (All-from_map (IsFragmentOf (datagram4 d) c.id) fragment4 packets c.parts) there;
        part = All-contains (λ q. IsPart place (fragment4 q)) packets any.1 (All-from_map (IsPart place) fragment4 packets parts) there;
        offset = at-zero any.1.offset start;
      }
    where
      begun : (n offset m : ℕ) → 8 * offset + m ≤ n → 0 < m → 0 < n
      begun n offset m inside some = omega arith

      at-zero : (n : ℕ) → 8 * n ≤ 0 → n ≡ 0
      at-zero n start = omega arith

  abbrev b : Beginning
  b = beginning

  protocol-is : b.p.protocol ≡ d.protocol
  protocol-is = ap (λ (x : Common). x.protocol) b.of.shares

  not-icmp : d.protocol ≡ 1 → ⊥
  not-icmp is = true≢false (sym (b.known.taken.unruled.icmp (protocol-is ∙ is)) ∙ part-not_whole (checksum_place d.protocol) (fragment4 b.p) b.part)

  inside : length b.p.payload ≤ length d.payload
  inside = within b.p.offset (length b.p.payload) (length d.payload) b.of.slice.inside
    where
      within : (offset m n : ℕ) → 8 * offset + m ≤ n → m ≤ n
      within offset m n is = omega arith

  long : least_upper 1 d.protocol ≤ length d.payload
  long =
      let upper : HasUpper4 first b.p = has-upper4 first b.p b.offset b.known.none.upper in
      grown (length b.p.payload) (length d.payload) (least_upper 1 d.protocol) (subst (λ n. least_upper 1 n ≤ length b.p.payload) protocol-is upper.long) inside
    where
      grown : (m n least : ℕ) → least ≤ m → m ≤ n → least ≤ n
      grown m n least is more = omega arith

  has-sum : d.protocol ≡ 17 → field16 d.payload 6 ≡ 0 → ⊥
  has-sum is none =
      let upper : HasUpper4 first b.p = has-upper4 first b.p b.offset b.known.none.upper in
      let least : 8 ≤ length b.p.payload = subst (λ n. least_upper 1 n ≤ length b.p.payload) (protocol-is ∙ is) upper.long in
      let front : b.p.payload ≡ take (length b.p.payload) d.payload =
      b.of.slice.bytes ∙ ap (λ o. part d.payload (8 * o) (length b.p.payload)) b.offset in
      let same : field16 b.p.payload 6 ≡ field16 d.payload 6 = ap (λ l. field16 l 6) front ∙ field16-take d.payload 6 (length b.p.payload) (omega (arith, least)) in
      let some : 0 < field16 b.p.payload 6 =
      b.known.taken.unruled.udp (protocol-is ∙ is) b.offset (first-has_more (checksum_place d.protocol) (fragment4 b.p) b.part b.offset) in
      above (field16 b.p.payload 6) some (same ∙ none)
    where
      above : (n : ℕ) → 0 < n → n ≡ 0 → ⊥
      above n some none = omega arith

  not-error : is_error4 d ≡ false
  not-error = and_left ((d.protocol == 1) && is_whole4 d) _ (and_left (d.protocol == 1) (is_whole4 d) (ne_eqb d.protocol 1 not-icmp))

  lacks : lacks_checksum4 d ≡ false
  lacks =
      ⊎_elim
      (λ (is : d.protocol ≡ 17). and_right ((d.protocol == 17) && (d.offset == 0)) (field16 d.payload 6 == 0) (ne_eqb (field16 d.payload 6) 0 (has-sum is)))
      (λ other. and_left ((d.protocol == 17) && (d.offset == 0)) (field16 d.payload 6 == 0) (and_left (d.protocol == 17) (d.offset == 0) (ne_eqb d.protocol 17 other)))
      (cases_eq d.protocol 17)

  pub goes-parts : 3 ≤ d.ttl → GoesAcross first second d
  goes-parts alive = record {
    alive = alive;
    no_clash = clash-alike b.p d protocol-is b.known.none.header;
    upper = upper-none first d
        (and_right (d.offset == 0) (nat_lt (length d.payload) (least_upper 1 d.protocol)) (le-ltb (length d.payload) (least_upper 1 d.protocol) long))
        (ne_eqb d.protocol 1 not-icmp) lacks;
    quote = quote-none first d not-error;
    error = λ error. absurd (true≢false (sym error ∙ not-error));
  }
