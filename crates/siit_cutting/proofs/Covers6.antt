-- What is given to IPv6 for the fragments of a datagram covers the translated datagram.
use Rattle.std.proofs.Common.{◌≡◌, ◌⊎◌, ℕ, ◌+◌, ◌*◌, ◌^◌, ◌<◌, ◌≤◌, List, [], ◌∷◌, ◌++◌, length, take, map, get_or, flat_map, All, Contains, true≢false, Bool, true, false, not, ◌==◌, nat_lt, if◌then◌else◌, Option, Some, None, ◌∙◌, ap, sym, subst, refl, inl, inr, ⊎_elim, arith}
use Rattle.std.proofs.lemmas.Bool.{cases_eq, cases_Bool, cond_both, ltb-true, eqb-true, not-true, and_parts}
use Rattle.std.proofs.lemmas.List.{map-append}
use Rattle.std.proofs.lemmas.List.Elements.{All-cons, All-nil, All-head, All-tail, All-map, All-contains}
use Rattle.siit_model.specs.Bytes.{part, field16}
use Rattle.siit_model.specs.Checksum.{checksum_place}
use Rattle.siit_model.specs.Fragments.{Common, Datagram, Fragment, datagram4, fragment4, fragment6, fragment_packet6, is_whole, whole_of}
use Rattle.siit_model.specs.Ipv4.{Ipv4Packet}
use Rattle.siit_model.specs.Ipv6.{Ipv6Packet}
use Rattle.siit_fragments.specs.Pieces.{blocks_of, pieces_of}
use Rattle.siit_fragments.specs.Covers.{end_of, IsFragmentOf, IsPart, IsOneWhole, Covers}
use Rattle.siit_fragments.specs.Laws.{with_checksum, HasChecksum, IsCut}
use Rattle.siit_fragments.proofs.Lists.{All-from_map}
use Rattle.siit_fragments.proofs.Parts.{field16-take}
use Rattle.siit_fragments.proofs.Pieces.{All-pieces}
use Rattle.siit_fragments.proofs.Cutting.{cut-covers}
use Rattle.siit_fragments.proofs.Translated.{translated-covers}
use Rattle.siit_fragments.proofs.Wholes.{whole-covers}
use Rattle.siit_roles.specs.Limits.{IsWithinLimits}
use Rattle.siit_roles.specs.declared.settings.Settings.{Settings}
use Rattle.siit_v4to6.specs.To6.{common_to_6, next_header_of, packet6}
use Rattle.siit_v4to6.proofs.Packets.{fragment-packet, plain-packet}
use Rattle.siit_device.specs.Arrival4.{is_error4}
use Rattle.siit_device.specs.Forward.{form6, head6_for, image6, is_cut6, is_error_fragment4, packets_to_6, translated6, upper_forward}
use Rattle.siit_arrival4.specs.Unruled.{IsUnruled}
use Rattle.siit_cutting.specs.Laws.{CuttingCommutesTo6, HasAddresses6, IsTaken4, IsWalked}
use Rattle.siit_cutting.proofs.Lists.{All-left, All-right, first-has_more, part-not_whole, whole-is}
use Rattle.siit_cutting.proofs.Reading.{fragment-read, map-read, plain-read}
use Rattle.siit_cutting.proofs.Upper6.{InRange6, error-same, tcp_to_6, udp_to_6, upper6-length, upper6-later, upper6-other, upper6-tcp, upper6-udp}

-- THE FRAGMENTS THAT ARE READ IN WHAT IS GIVEN

-- without a Fragment header nothing tells an identification
abbrev unnamed : Fragment → Fragment
unnamed f = record f { id = 0; offset = 0; more = false }

abbrev images6 : Settings → Ipv4Packet → List Fragment
images6 settings packet =
    let f = translated6 settings (fragment4 packet) in
    if is_cut6 settings packet then pieces_of (blocks_of 48 settings.lowest) f
    else if is_whole f then unnamed f ∷ []
    else f ∷ []

next-not : (protocol n : ℕ) → (protocol ≡ n → ⊥) → (58 ≡ n → ⊥) → next_header_of protocol ≡ n → ⊥
next-not protocol n not_it not58 = cond_both (protocol == 1) 58 protocol (λ x. x ≡ n → ⊥) (λ _. not58) (λ _. not_it)

-- the packet that is sent whole
sent-read : (f : Fragment) (whole : Bool) → is_whole f ≡ whole
    → (whole ≡ true → fragment6 (packet6 false f) ≡ Some (unnamed f))
    → (whole ≡ false → fragment6 (packet6 false f) ≡ Some f)
    → map fragment6 (packet6 false f ∷ []) ≡ map (λ g. Some g) (if whole then unnamed f ∷ [] else f ∷ [])
sent-read f true is at_whole at_part = ap (λ g. g ∷ []) (at_whole refl)
sent-read f false is at_whole at_part = ap (λ g. g ∷ []) (at_part refl)

by-test : (cut : Bool) (a b : List Ipv6Packet) (x y : List Fragment)
    → (cut ≡ true → All IsWalked a → map fragment6 a ≡ map (λ f. Some f) x)
    → (All IsWalked b → map fragment6 b ≡ map (λ f. Some f) y)
    → All IsWalked (if cut then a else b) → map fragment6 (if cut then a else b) ≡ map (λ f. Some f) (if cut then x else y)
by-test true a b x y at_cut at_one walked = at_cut refl walked
by-test false a b x y at_cut at_one walked = at_one walked

pieces-read : (blocks : ℕ) (f : Fragment) → 0 < blocks → All IsWalked (map fragment_packet6 (pieces_of blocks f))
    → ((k : ℕ) → 8 * (k * blocks) < length f.bytes → (f.offset + k * blocks < 8192) × (f.id < 2 ^ 32))
    → map fragment6 (map fragment_packet6 (pieces_of blocks f)) ≡ map (λ g. Some g) (pieces_of blocks f)
pieces-read blocks f some walked small =
    let walks = All-from_map IsWalked fragment_packet6 (pieces_of blocks f) walked in
    let ranges = All-pieces (λ g. (g.offset < 8192) × (g.id < 2 ^ 32)) blocks f some small in
    map-read (pieces_of blocks f) (λ k d within. fragment-read (get_or (pieces_of blocks f) k d) (ranges k d within).0 (ranges k d within).1 (walks k d within))

module _ (settings : Settings) (limits : IsWithinLimits settings) (packet : Ipv4Packet) (taken : IsTaken4 packet) where
  -- what is cut is no ICMP error, and longer than a piece
  uncut-error : is_cut6 settings packet ≡ true → is_error_fragment4 (fragment4 packet) ≡ false
  uncut-error cut =
      error-same packet taken.good.mf
      ∙ not-true (is_error4 packet) (and_parts (not (is_error4 packet)) _ (and_parts (packet.df == 0) _ cut).1).0

  pub long-enough : is_cut6 settings packet ≡ true
      → IsCut (translated6 settings (fragment4 packet)) (pieces_of (blocks_of 48 settings.lowest) (translated6 settings (fragment4 packet)))
  long-enough cut =
      let size = upper6-length settings (fragment4 packet) taken.unruled (uncut-error cut) in
      let over : settings.lowest < form6 (fragment4 packet) =
      ltb-true settings.lowest (form6 (fragment4 packet)) (and_parts (not (is_error4 packet)) _ (and_parts (packet.df == 0) _ cut).1).1 in
      let most : form6 (fragment4 packet) ≤ 48 + length packet.payload =
      cond_both (is_whole (fragment4 packet)) 40 48 (λ n. n + length packet.payload ≤ 48 + length packet.payload) (λ _. omega arith) (λ _. omega arith) in
      let lowest = limits.lowest in
      inr (blocks_of 48 settings.lowest, omega arith, omega (arith, size), refl)

  pub given-read : end_of (fragment4 packet) ≤ 65515 → All IsWalked (packets_to_6 settings packet)
      → map fragment6 (packets_to_6 settings packet) ≡ map (λ g. Some g) (images6 settings packet)
  given-read inside =
      let g : Fragment = translated6 settings (fragment4 packet) in
      let blocks : ℕ = blocks_of 48 settings.lowest in
      let end : 8 * packet.offset + length packet.payload ≤ 65515 = inside in
      let small_id : packet.id < 65536 = taken.unruled.id in
      let lowest = limits.lowest in
      by-test (is_cut6 settings packet) _ _ _ _
      (λ cut walked.
      let size = upper6-length settings (fragment4 packet) taken.unruled (uncut-error cut) in
      pieces-read blocks g (omega arith) walked (λ k begins. (omega (arith, size), omega arith)))
      (λ walked. sent-read g (is_whole g) refl
      (λ whole. ap (λ q. fragment6 q) (plain-packet false g (ap not whole))
      ∙ plain-read g (next-not packet.protocol 0 taken.unruled.clash0 (λ (e : 58 ≡ 0). omega arith)) (next-not packet.protocol 43 taken.unruled.clash43 (λ (e : 58 ≡ 43). omega arith))
      (next-not packet.protocol 60 taken.unruled.clash60 (λ (e : 58 ≡ 60). omega arith)) (next-not packet.protocol 44 taken.unruled.clash44 (λ (e : 58 ≡ 44). omega arith)))
      (λ part.
      let is : packet6 false g ≡ fragment_packet6 g = fragment-packet false g (ap not part) in
      ap (λ q. fragment6 q) is
      ∙ fragment-read g (omega arith) (omega arith) (subst IsWalked is (All-head IsWalked (packet6 false g) [] walked))))

all-read : (given : Ipv4Packet → List Ipv6Packet) (images : Ipv4Packet → List Fragment) (packets : List Ipv4Packet)
    → All (λ p. All IsWalked (given p) → map fragment6 (given p) ≡ map (λ f. Some f) (images p)) packets → All IsWalked (flat_map given packets)
    → map fragment6 (flat_map given packets) ≡ map (λ f. Some f) (flat_map images packets)
all-read given images [] each walked = refl
all-read given images (p ∷ packets) each walked =
    let P : Ipv4Packet → Type 0 = λ r. All IsWalked (given r) → map fragment6 (given r) ≡ map (λ f. Some f) (images r) in
    map-append fragment6 (given p) (flat_map given packets)
    ∙ ap (λ l. l ++ map fragment6 (flat_map given packets)) (All-head P p packets each (All-left IsWalked (given p) (flat_map given packets) walked))
    ∙ ap (λ l. map (λ f. Some f) (images p) ++ l) (all-read given images packets (All-tail P p packets each) (All-right IsWalked (given p) (flat_map given packets) walked))
    ∙ sym (map-append (λ f. Some f) (images p) (flat_map images packets))

-- PARTS

-- How the checksum of a datagram's first fragments changes, and that of the datagram.
record Change (settings : Settings) (d : Datagram) : Type 0 where
  place : Option ℕ
  new : ℕ → ℕ
  at : (place ≡ None) ⊎ (place ≡ checksum_place d.common.protocol)
  payload : upper_forward settings (whole_of d) ≡ with_checksum place new d.payload
  held : (f : Fragment) → IsUnruled f → f.common ≡ d.common → f.offset ≡ 0 → HasChecksum place f.bytes
  first : (f : Fragment) → IsUnruled f → f.common ≡ d.common → length f.bytes ≤ 65515 → f.more ≡ true → f.offset ≡ 0
      → upper_forward settings f ≡ with_checksum place new f.bytes

module _ (settings : Settings) (d : Datagram) (range : InRange6 settings d.common) (small : length d.payload ≤ 65515) where
  of-protocol : (f : Fragment) (n : ℕ) → f.common ≡ d.common → d.common.protocol ≡ n → f.common.protocol ≡ n
  of-protocol f n common is = ap (λ c. c.protocol) common ∙ is

  of-range : (f : Fragment) → f.common ≡ d.common → InRange6 settings f.common
  of-range f common = subst (λ c. InRange6 settings c) (sym common) range

  change-tcp : d.common.protocol ≡ 6 → Change settings d
  change-tcp six = record {
    place = Some 16;
    new = tcp_to_6 settings d.common (length d.payload);
    at = inr (sym (ap checksum_place six));
    payload = upper6-tcp settings (whole_of d) range (length d.payload) (omega arith) (omega arith) refl six;
    held = λ f unruled common first. subst (λ p. HasChecksum (checksum_place p) f.bytes) (of-protocol f 6 common six) (unruled.long first);
    first = λ f unruled common fits more first.
        upper6-tcp settings f (of-range f common) (length d.payload) (omega arith) (omega arith) first (of-protocol f 6 common six)
        ∙ ap (λ c. with_checksum (Some 16) (tcp_to_6 settings c (length d.payload)) f.bytes) common;
  }

  change-udp : d.common.protocol ≡ 17 → 0 < field16 d.payload 6 → Change settings d
  change-udp seventeen some = record {
    place = Some 6;
    new = udp_to_6 settings d.common (length d.payload);
    at = inr (sym (ap checksum_place seventeen));
    payload = upper6-udp settings (whole_of d) range (length d.payload) (omega arith) (omega arith) refl seventeen some;
    held = λ f unruled common first. subst (λ p. HasChecksum (checksum_place p) f.bytes) (of-protocol f 17 common seventeen) (unruled.long first);
    first = λ f unruled common fits more first.
        upper6-udp settings f (of-range f common) (length d.payload) (omega arith) (omega arith) first (of-protocol f 17 common seventeen)
        (unruled.udp (of-protocol f 17 common seventeen) first more)
        ∙ ap (λ c. with_checksum (Some 6) (udp_to_6 settings c (length d.payload)) f.bytes) common;
  }

  change-none : (d.common.protocol ≡ 6 → ⊥) → (d.common.protocol ≡ 17 → ⊥) → (d.common.protocol ≡ 1 → ⊥) → Change settings d
  change-none not6 not17 icmp = record {
    place = None;
    new = λ c. c;
    at = inl refl;
    payload = upper6-other settings (whole_of d) range (length d.payload) (omega arith) (omega arith) refl not6 not17 icmp;
    held = λ f unruled common first. tt;
    first = λ f unruled common fits more first.
        upper6-other settings f (of-range f common) (length d.payload) (omega arith) (omega arith) first
        (λ is. not6 (sym (ap (λ c. c.protocol) common) ∙ is)) (λ is. not17 (sym (ap (λ c. c.protocol) common) ∙ is)) (λ is. icmp (sym (ap (λ c. c.protocol) common) ∙ is));
  }

  change : (d.common.protocol ≡ 1 → ⊥) → (d.common.protocol ≡ 17 → 0 < field16 d.payload 6) → Change settings d
  change icmp udp =
      ⊎_elim change-tcp
      (λ not6. ⊎_elim (λ seventeen. change-udp seventeen (udp seventeen)) (λ not17. change-none not6 not17 icmp) (cases_eq d.common.protocol 17))
      (cases_eq d.common.protocol 6)

same-place : (protocol : ℕ) → checksum_place (next_header_of protocol) ≡ checksum_place protocol
same-place protocol =
    cond_both (protocol == 1) 58 protocol (λ x. checksum_place x ≡ checksum_place protocol)
    (λ (is : (protocol == 1) ≡ true). sym (ap checksum_place (eqb-true protocol 1 is))) (λ _. refl)

cut-unless : (cut whole : Bool) (f : Fragment) (pieces other : List Fragment) → (cut ≡ true → IsCut f pieces) → whole ≡ false
    → IsCut f (if cut then pieces else if whole then other else f ∷ [])
cut-unless true whole f pieces other is not_whole = is refl
cut-unless false true f pieces other is not_whole = absurd (true≢false not_whole)
cut-unless false false f pieces other is not_whole = inl refl

-- the fragment that holds the first byte
record Begins (d : Datagram) (f : Fragment) : Type 0 where
  unruled : IsUnruled f
  offset : f.offset ≡ 0
  shares : f.common ≡ d.common
  more : f.more ≡ true
  whole : is_whole f ≡ false
  checksum : d.common.protocol ≡ 17 → field16 f.bytes 6 ≡ field16 d.payload 6

module _ (settings : Settings) (limits : IsWithinLimits settings) (d : Datagram) (addresses : HasAddresses6 settings d.common) (small : length d.payload ≤ 65515)
    (packets : List Ipv4Packet) (taken : All IsTaken4 packets) (c : Covers d (map fragment4 packets)) where
  unruled : All IsUnruled (map fragment4 packets)
  unruled = All-map IsUnruled fragment4 packets (λ k e within. (taken k e within).unruled)

  begins : All (IsPart (checksum_place d.common.protocol)) (map fragment4 packets) → (f : Fragment) × Begins d f
  begins parts =
      let fragments : List Fragment = map fragment4 packets in
      let place : Option ℕ = checksum_place d.common.protocol in
      let one_of : IsFragmentOf d c.id (get_or fragments 0 (whole_of d)) = c.parts 0 (whole_of d) c.some in
      let one_part : IsPart place (get_or fragments 0 (whole_of d)) = parts 0 (whole_of d) c.some in
      let one_inside : 8 * (get_or fragments 0 (whole_of d)).offset + length (get_or fragments 0 (whole_of d)).bytes ≤ length d.payload = one_of.slice.inside in
      let one_some : 0 < length (get_or fragments 0 (whole_of d)).bytes = one_part.payload in
      let any = c.every 0 (omega arith) in
      let first : Fragment = any.1 in
      let there : Contains fragments first = (any.0, any.2, any.3) in
      let first_unruled : IsUnruled first = All-contains IsUnruled fragments first unruled there in
      let first_of : IsFragmentOf d c.id first = All-contains (IsFragmentOf d c.id) fragments first c.parts there in
      let first_part : IsPart place first = All-contains (IsPart place) fragments first parts there in
      let at_start : 8 * first.offset ≤ 0 = any.4.0 in
      let no_offset : first.offset ≡ 0 = omega arith in (
        first,
        record {
          unruled = first_unruled;
          offset = no_offset;
          shares = first_of.shares;
          more = first-has_more place first first_part no_offset;
          whole = part-not_whole place first first_part;
          checksum = λ is.
              let udp : first.common.protocol ≡ 17 = ap (λ x. x.protocol) first_of.shares ∙ is in
              let has : 6 + 2 ≤ length first.bytes = subst (λ p. HasChecksum (checksum_place p) first.bytes) udp (first_unruled.long no_offset) in
              let front : first.bytes ≡ take (length first.bytes) d.payload = first_of.slice.bytes ∙ ap (λ o. part d.payload (8 * o) (length first.bytes)) no_offset in
              ap (λ l. field16 l 6) front ∙ field16-take d.payload 6 (length first.bytes) (omega arith);
        },
      )

  change-by : (f : Fragment) → Begins d f → Change settings d
  change-by f first =
      let protocol : f.common.protocol ≡ d.common.protocol = ap (λ x. x.protocol) first.shares in
      change settings d
      (record {
        source = subst (λ x. x.source < 2 ^ 32) first.shares first.unruled.source;
        destination = subst (λ x. x.destination < 2 ^ 32) first.shares first.unruled.destination;
        source6 = addresses.source;
        destination6 = addresses.destination;
      }) small
      (λ is. true≢false (sym (first.unruled.icmp (protocol ∙ is)) ∙ first.whole))
      (λ is. subst (λ n. 0 < n) (first.checksum is) (first.unruled.udp (protocol ∙ is) first.offset first.more))

  covers-parts : All (IsPart (checksum_place d.common.protocol)) (map fragment4 packets) → Covers (image6 settings d) (flat_map (images6 settings) packets)
  covers-parts parts =
      let place : Option ℕ = checksum_place d.common.protocol in
      let of = All-from_map (IsFragmentOf d c.id) fragment4 packets c.parts in
      let part_of = All-from_map (IsPart place) fragment4 packets parts in
      let first = begins parts in
      let ch : Change settings d = change-by first.0 first.1 in
      cut-covers (λ p. translated6 settings (fragment4 p)) (images6 settings) (image6 settings d) packets
      (λ k e within. cut-unless (is_cut6 settings (get_or packets k e)) (is_whole (fragment4 (get_or packets k e))) (translated6 settings (fragment4 (get_or packets k e))) _ _
      (long-enough settings limits (get_or packets k e) (taken k e within)) (part-not_whole place (fragment4 (get_or packets k e)) (part_of k e within)))
      (translated-covers fragment4 (λ p. translated6 settings (fragment4 p)) packets ch.place ch.new c.id d (image6 settings d) ch.at (same-place d.common.protocol) ch.payload parts
      (λ k e within.
      let inside : 8 * (get_or packets k e).offset + length (get_or packets k e).payload ≤ length d.payload = (of k e within).slice.inside in
      record {
        shares = ap (λ x. common_to_6 (head6_for settings x) x) (of k e within).shares;
        identified = (of k e within).identified;
        offset = refl;
        more = refl;
        held = ch.held (fragment4 (get_or packets k e)) (taken k e within).unruled (of k e within).shares;
        first = λ at_first. ch.first (fragment4 (get_or packets k e)) (taken k e within).unruled (of k e within).shares (omega arith)
            (first-has_more place (fragment4 (get_or packets k e)) (part_of k e within) at_first) at_first;
        later = upper6-later settings (fragment4 (get_or packets k e));
      }) c)

-- ONE WHOLE PACKET

by-tests : (e : Datagram) (cut whole : Bool) (pieces : List Fragment) (f g : Fragment) → (cut ≡ true → Covers e (pieces ++ [])) → Covers e (f ∷ []) → Covers e (g ∷ [])
    → Covers e ((if cut then pieces else if whole then f ∷ [] else g ∷ []) ++ [])
by-tests e true whole pieces f g at_cut at_whole at_other = at_cut refl
by-tests e false true pieces f g at_cut at_whole at_other = at_whole
by-tests e false false pieces f g at_cut at_whole at_other = at_other

covers-whole : (settings : Settings) (limits : IsWithinLimits settings) (d : Datagram) (packets : List Ipv4Packet) → All IsTaken4 packets → Covers d (map fragment4 packets)
    → IsOneWhole (map fragment4 packets) → Covers (image6 settings d) (flat_map (images6 settings) packets)
covers-whole settings limits d [] taken c one = absurd one
covers-whole settings limits d (p ∷ q ∷ rest) taken c one = absurd one
covers-whole settings limits d (p ∷ []) taken c one =
    let f : Fragment = fragment4 p in
    let g : Fragment = translated6 settings f in
    let e : Datagram = image6 settings d in
    let pieces : List Fragment = pieces_of (blocks_of 48 settings.lowest) g in
    let of : IsFragmentOf d c.id f = All-head (IsFragmentOf d c.id) f [] c.parts in
    let held : upper_forward settings f ≡ upper_forward settings (whole_of d) = ap (λ h. upper_forward settings h) (whole-is d c.id f one of) in
    let common : common_to_6 (head6_for settings f.common) f.common ≡ common_to_6 (head6_for settings d.common) d.common = ap (λ x. common_to_6 (head6_for settings x) x) of.shares in
    let base : Covers e (g ∷ []) = whole-covers e g one common held in
    by-tests e (is_cut6 settings p) (is_whole g) pieces (unnamed g) g
    (λ cut. cut-covers (λ h. h) (λ h. pieces) e (g ∷ [])
    (All-cons (λ h. IsCut h pieces) g [] (long-enough settings limits p (All-head IsTaken4 p [] taken) cut) (All-nil (λ h. IsCut h pieces))) base)
    (whole-covers e (unnamed g) refl common held) base

pub cutting_commutes_to_6 : CuttingCommutesTo6
cutting_commutes_to_6 settings d packets limits addresses small c taken walked =
    let of = All-from_map (IsFragmentOf (datagram4 d) c.id) fragment4 packets c.parts in
    record {
      fragments = flat_map (images6 settings) packets;
      walked = all-read (packets_to_6 settings) (images6 settings) packets
          (λ k e within.
          let inside : 8 * (get_or packets k e).offset + length (get_or packets k e).payload ≤ length d.payload = (of k e within).slice.inside in
          given-read settings limits (get_or packets k e) (taken k e within) (omega arith)) walked;
      covers = ⊎_elim (λ one. covers-whole settings limits (datagram4 d) packets taken c one)
          (λ parts. covers-parts settings limits (datagram4 d) addresses small packets taken c parts) c.form;
    }
