-- What is given to IPv4 for the fragments of a datagram covers the translated datagram.
use Rattle.std.proofs.Common.{◌≡◌, ◌⊎◌, ℕ, zero, suc, ◌+◌, ◌*◌, ◌%◌, ◌^◌, ◌<◌, ◌≤◌, List, [], ◌∷◌, ◌++◌, length, take, map, get_or, flat_map, All, true≢false, Bool, true, false, ◌==◌, nat_le, if◌then◌else◌, Option, Some, None, unwrap_or, Result, Ok, Err, ◌∙◌, ap, sym, subst, refl, inl, inr, ⊎_elim, arith, append-nil}
use Rattle.std.proofs.lemmas.Bool.{cases_eq, cond_both, ltb-true, eqb-true, and_parts}
use Rattle.std.proofs.lemmas.List.{length-map}
use Rattle.std.proofs.lemmas.List.Elements.{All-cons, All-nil, All-head, All-map}
use Rattle.siit_model.specs.Bytes.{part, field16}
use Rattle.siit_model.specs.Checksum.{checksum_place}
use Rattle.siit_model.specs.Extensions.{FragmentFields, Walked, Trouble, walk_of}
use Rattle.siit_model.specs.Fragments.{Common, Datagram, Fragment, datagram4, fields_in, fragment4, fragment6, fragment_by, fragment_if, is_whole, packet4, whole_of}
use Rattle.siit_model.specs.Ipv4.{Ipv4Packet}
use Rattle.siit_model.specs.Ipv6.{Ipv6Packet}
use Rattle.siit_fragments.specs.Pieces.{blocks_of, pieces_of}
use Rattle.siit_fragments.specs.Covers.{IsSliceOf, IsFragmentOf, IsPart, IsOneWhole, Covers}
use Rattle.siit_fragments.specs.Laws.{with_checksum, HasChecksum, IsCut}
use Rattle.siit_fragments.proofs.Lists.{All-from_map}
use Rattle.siit_fragments.proofs.Parts.{field16-take}
use Rattle.siit_fragments.proofs.Pieces.{All-pieces}
use Rattle.siit_fragments.proofs.Cutting.{cut-covers}
use Rattle.siit_fragments.proofs.Translated.{translated-covers}
use Rattle.siit_fragments.proofs.Wholes.{WholeFields, whole-covers, whole-fields}
use Rattle.siit_roles.specs.Limits.{IsWithinLimits}
use Rattle.siit_roles.specs.declared.settings.Settings.{Settings}
use Rattle.siit_v6to4.specs.To4.{common_to_4, df_for, ends_to_4, identification, protocol_of}
use Rattle.siit_v6to4.proofs.Good.{to_4-length}
use Rattle.siit_v6to4.proofs.Packets.{fragment_is_read4}
use Rattle.siit_device.specs.Arrival6.{Arrived, arrived_fragment, is_error6}
use Rattle.siit_device.specs.Backward.{error_to_4, head4_for, image4, is_cut4, is_sent_cut4, packets_to_4, sent4, translated4, upper_backward}
use Rattle.siit_arrival6.specs.Unruled.{IsUnruled6}
use Rattle.siit_cutting.specs.Laws.{CuttingCommutesTo4, HasAddresses4, IsTaken6, Numbered, first_id, given_by, given_to_4}
use Rattle.siit_cutting.proofs.Lists.{first-has_more, map-flat_map, part-not_whole, whole-is}
use Rattle.siit_cutting.proofs.Upper4.{InRange4, head-is, no-error6, plain_head, tcp_to_4, udp_to_4, upper4-later, upper4-other, upper4-tcp, upper4-udp, upper4-udp_none}

-- A PACKET THAT IS GIVEN

read4-all : (df : ℕ) (fragments : List Fragment) → map fragment4 (map (packet4 df) fragments) ≡ fragments
read4-all df [] = refl
read4-all df (f ∷ rest) = ap (λ g. g ∷ map fragment4 (map (packet4 df) rest)) (fragment_is_read4 df f) ∙ ap (λ l. f ∷ l) (read4-all df rest)

-- the translated fragment of a packet, by its walk
abbrev image_by : Settings → Fragment → Ipv6Packet → ℕ → Result Walked Trouble → Fragment
image_by settings other packet number (Err trouble) = other
image_by settings other packet number (Ok walked) = sent4 settings (record { packet = packet; walked = walked }) number

-- the translated upper part of an ICMPv6 error hangs on no number, and that of all else is as long as it was
same-length : (error : Bool) (x y z : List ℕ) (n : ℕ) → length y ≡ n → length z ≡ n → length (if error then x else y) ≡ length (if error then x else z)
same-length true x y z n is_y is_z = refl
same-length false x y z n is_y is_z = is_y ∙ sym is_z

length-any_id : (settings : Settings) (id other : ℕ) (f : Fragment) → length (translated4 settings id f).bytes ≡ length (translated4 settings other f).bytes
length-any_id settings id other f =
    same-length (is_error6 f) (error_to_4 settings f.common f.bytes) _ _ (length f.bytes)
    (to_4-length (ends_to_4 (head4_for settings id f) f.common) (length f.bytes) f) (to_4-length (ends_to_4 (head4_for settings other f) f.common) (length f.bytes) f)

long-enough : (settings : Settings) (arrived : Arrived) (number : ℕ) → 68 ≤ settings.mtu4 → is_sent_cut4 settings arrived ≡ true
    → IsCut (sent4 settings arrived number) (pieces_of (blocks_of 20 settings.mtu4) (sent4 settings arrived number))
long-enough settings arrived number big cut =
    let over : settings.mtu4 < 20 + length (sent4 settings arrived 0).bytes =
    ltb-true settings.mtu4 (20 + length (sent4 settings arrived 0).bytes) (and_parts (nat_le (40 + length arrived.packet.body) 1280) _ cut).1 in
    let same = length-any_id settings (identification arrived.walked.fragment 0) (identification arrived.walked.fragment number) (arrived_fragment arrived) in
    inr (blocks_of 20 settings.mtu4, omega arith, omega (arith, same), refl)

cut-or_not : (cut : Bool) (df : ℕ) (f : Fragment) (pieces : List Fragment) → (cut ≡ true → IsCut f pieces)
    → IsCut f (map fragment4 (if cut then map (packet4 0) pieces else packet4 df f ∷ []))
cut-or_not true df f pieces is = subst (λ l. IsCut f l) (sym (read4-all 0 pieces)) (is refl)
cut-or_not false df f pieces is = inl (ap (λ g. g ∷ []) (fragment_is_read4 df f))

cut-by : (settings : Settings) (other : Fragment) (packet : Ipv6Packet) (number : ℕ) (result : Result Walked Trouble) (f : Fragment) → 68 ≤ settings.mtu4
    → fragment_if packet result ≡ Some f → IsCut (image_by settings other packet number result) (map fragment4 (given_by settings packet number result))
cut-by settings other packet number (Err trouble) f big is = absurd cc
cut-by settings other packet number (Ok walked) f big is =
    let arrived : Arrived = record { packet = packet; walked = walked } in
    let g : Fragment = sent4 settings arrived number in
    cut-or_not (is_sent_cut4 settings arrived) (df_for walked.fragment (20 + length g.bytes)) g (pieces_of (blocks_of 20 settings.mtu4) g) (long-enough settings arrived number big)

-- the identification of a part is that of its Fragment header
identified-part : (fields : Option FragmentFields) (number : ℕ) → (0 < (fields_in fields).offset) ⊎ ((fields_in fields).more ≡ true)
    → identification fields number ≡ (fields_in fields).id % 65536
identified-part None number cut = ⊎_elim (λ (later : 0 < 0). absurd (omega arith)) (λ (more : false ≡ true). absurd (true≢false (sym more))) cut
identified-part (Some fields) number cut = refl

-- what is known of the image of a fragment
record IsImage (settings : Settings) (f g : Fragment) : Type 0 where
  shares : g.common ≡ common_to_4 (head4_for settings g.id f) f.common
  offset : g.offset ≡ f.offset
  more : g.more ≡ f.more
  held : g.bytes ≡ upper_backward settings (head4_for settings g.id f) f
  identified : (0 < f.offset) ⊎ (f.more ≡ true) → g.id ≡ f.id % 65536

image-is : (settings : Settings) (other : Fragment) (packet : Ipv6Packet) (number : ℕ) (result : Result Walked Trouble) (f : Fragment)
    → fragment_if packet result ≡ Some f → IsImage settings f (image_by settings other packet number result)
image-is settings other packet number (Err trouble) f is = absurd cc
image-is settings other packet number (Ok walked) f is =
    let same : fragment_by packet walked ≡ f = cc in
    subst (λ g. IsImage settings g (image_by settings other packet number (Ok walked))) same
    (record { shares = refl; offset = refl; more = refl; held = refl; identified = identified-part walked.fragment number })

-- the identification of all packets given for one
ids-of : (cut : Bool) (blocks df : ℕ) (g : Fragment) → (cut ≡ true → 0 < blocks)
    → All (λ (p : Ipv4Packet). p.id ≡ g.id) (if cut then map (packet4 0) (pieces_of blocks g) else packet4 df g ∷ [])
ids-of true blocks df g some =
    All-map (λ (p : Ipv4Packet). p.id ≡ g.id) (packet4 0) (pieces_of blocks g) (All-pieces (λ h. h.id ≡ g.id) blocks g (some refl) (λ k begins. refl))
ids-of false blocks df g some =
    All-cons (λ (p : Ipv4Packet). p.id ≡ g.id) (packet4 df g) [] refl (All-nil (λ (p : Ipv4Packet). p.id ≡ g.id))

ids-by : (settings : Settings) (other : Fragment) (packet : Ipv6Packet) (number : ℕ) (result : Result Walked Trouble) → 68 ≤ settings.mtu4
    → All (λ (p : Ipv4Packet). p.id ≡ (image_by settings other packet number result).id) (given_by settings packet number result)
ids-by settings other packet number (Err trouble) big = All-nil (λ (p : Ipv4Packet). p.id ≡ other.id)
ids-by settings other packet number (Ok walked) big =
    let arrived : Arrived = record { packet = packet; walked = walked } in
    let g : Fragment = sent4 settings arrived number in
    ids-of (is_sent_cut4 settings arrived) (blocks_of 20 settings.mtu4) (df_for walked.fragment (20 + length g.bytes)) g (λ cut. omega arith)

first-of_all : (n : ℕ) (packets : List Ipv4Packet) → 0 < length packets → All (λ (p : Ipv4Packet). p.id ≡ n) packets → first_id packets ≡ n
first-of_all n [] some each = absurd (omega (arith, some))
first-of_all n (p ∷ rest) some each = All-head (λ (q : Ipv4Packet). q.id ≡ n) p rest each

-- CHECKSUMS

-- How the checksum of a datagram's first fragments changes, and that of the datagram.
record Change (settings : Settings) (e : Datagram) : Type 0 where
  place : Option ℕ
  new : ℕ → ℕ
  at : (place ≡ None) ⊎ (place ≡ checksum_place e.common.protocol)
  payload : (id : ℕ) → upper_backward settings (head4_for settings id (whole_of e)) (whole_of e) ≡ with_checksum place new e.payload
  held : (f : Fragment) → IsUnruled6 f → f.common ≡ e.common → f.offset ≡ 0 → HasChecksum place f.bytes
  first : (id : ℕ) (f : Fragment) → IsUnruled6 f → f.common ≡ e.common → IsSliceOf e.payload f → f.offset ≡ 0
      → upper_backward settings (head4_for settings id f) f ≡ with_checksum place new f.bytes

zero-or-more : (n : ℕ) → (n ≡ 0) ⊎ (0 < n)
zero-or-more zero = inl refl
zero-or-more (suc n) = inr (omega arith)

module _ (settings : Settings) (e : Datagram) (range : InRange4 settings e.common) (small : length e.payload ≤ 65535) where
  of-protocol : (f : Fragment) (n : ℕ) → f.common ≡ e.common → e.common.protocol ≡ n → f.common.protocol ≡ n
  of-protocol f n common is = ap (λ c. c.protocol) common ∙ is

  of-range : (f : Fragment) → f.common ≡ e.common → InRange4 settings f.common
  of-range f common = subst (λ c. InRange4 settings c) (sym common) range

  -- the checksum of a first fragment is the datagram's
  same-field : (f : Fragment) → IsUnruled6 f → f.common ≡ e.common → IsSliceOf e.payload f → f.offset ≡ 0 → e.common.protocol ≡ 17 → field16 f.bytes 6 ≡ field16 e.payload 6
  same-field f unruled common slice first is =
      let has : 6 + 2 ≤ length f.bytes = subst (λ p. HasChecksum (checksum_place p) f.bytes) (of-protocol f 17 common is) (unruled.long first) in
      let front : f.bytes ≡ take (length f.bytes) e.payload = slice.bytes ∙ ap (λ o. part e.payload (8 * o) (length f.bytes)) first in
      ap (λ l. field16 l 6) front ∙ field16-take e.payload 6 (length f.bytes) (omega arith)

  short : (f : Fragment) → IsSliceOf e.payload f → length f.bytes < 65536
  short f slice = let inside : 8 * f.offset + length f.bytes ≤ length e.payload = slice.inside in omega arith

  change-tcp : e.common.protocol ≡ 6 → Change settings e
  change-tcp six = record {
    place = Some 16;
    new = tcp_to_4 settings e.common (length e.payload);
    at = inr (sym (ap checksum_place six));
    payload = λ id. upper4-tcp settings id (whole_of e) range (length e.payload) (omega arith) (omega arith) refl six;
    held = λ f unruled common first. subst (λ p. HasChecksum (checksum_place p) f.bytes) (of-protocol f 6 common six) (unruled.long first);
    first = λ id f unruled common slice first.
        upper4-tcp settings id f (of-range f common) (length e.payload) (short f slice) (omega arith) first (of-protocol f 6 common six)
        ∙ ap (λ c. with_checksum (Some 16) (tcp_to_4 settings c (length e.payload)) f.bytes) common;
  }

  change-udp : e.common.protocol ≡ 17 → 0 < field16 e.payload 6 → Change settings e
  change-udp seventeen some = record {
    place = Some 6;
    new = udp_to_4 settings e.common (length e.payload);
    at = inr (sym (ap checksum_place seventeen));
    payload = λ id. upper4-udp settings id (whole_of e) range (length e.payload) (omega arith) (omega arith) refl seventeen some;
    held = λ f unruled common first. subst (λ p. HasChecksum (checksum_place p) f.bytes) (of-protocol f 17 common seventeen) (unruled.long first);
    first = λ id f unruled common slice first.
        upper4-udp settings id f (of-range f common) (length e.payload) (short f slice) (omega arith) first (of-protocol f 17 common seventeen)
        (subst (λ n. 0 < n) (sym (same-field f unruled common slice first seventeen)) some)
        ∙ ap (λ c. with_checksum (Some 6) (udp_to_4 settings c (length e.payload)) f.bytes) common;
  }

  change-none : ((id : ℕ) → upper_backward settings (head4_for settings id (whole_of e)) (whole_of e) ≡ e.payload)
      → ((id : ℕ) (f : Fragment) → IsUnruled6 f → f.common ≡ e.common → IsSliceOf e.payload f → f.offset ≡ 0 → upper_backward settings (head4_for settings id f) f ≡ f.bytes)
      → Change settings e
  change-none payload each = record { place = None; new = λ c. c; at = inl refl; payload = payload; held = λ f unruled common first. tt; first = each }

  change-udp_none : e.common.protocol ≡ 17 → field16 e.payload 6 ≡ 0 → Change settings e
  change-udp_none seventeen none =
      change-none (λ id. upper4-udp_none settings id (whole_of e) range (length e.payload) (omega arith) (omega arith) refl seventeen none)
      (λ id f unruled common slice first.
      upper4-udp_none settings id f (of-range f common) (length e.payload) (short f slice) (omega arith) first (of-protocol f 17 common seventeen)
      (same-field f unruled common slice first seventeen ∙ none))

  change-other : (e.common.protocol ≡ 6 → ⊥) → (e.common.protocol ≡ 17 → ⊥) → (e.common.protocol ≡ 58 → ⊥) → Change settings e
  change-other not6 not17 icmp =
      change-none
      (λ id. upper4-other settings id (whole_of e) range (length e.payload) (omega arith) (omega arith) refl not6 not17 icmp)
      (λ id f unruled common slice first.
      upper4-other settings id f (of-range f common) (length e.payload) (short f slice) (omega arith) first
      (λ is. not6 (sym (ap (λ c. c.protocol) common) ∙ is)) (λ is. not17 (sym (ap (λ c. c.protocol) common) ∙ is)) (λ is. icmp (sym (ap (λ c. c.protocol) common) ∙ is)))

  change : (e.common.protocol ≡ 58 → ⊥) → Change settings e
  change icmp =
      ⊎_elim change-tcp
      (λ not6. ⊎_elim
      (λ seventeen. ⊎_elim (change-udp_none seventeen) (change-udp seventeen) (zero-or-more (field16 e.payload 6)))
      (λ not17. change-other not6 not17 icmp) (cases_eq e.common.protocol 17))
      (cases_eq e.common.protocol 6)

same-place : (protocol : ℕ) → checksum_place (protocol_of protocol) ≡ checksum_place protocol
same-place protocol =
    cond_both (protocol == 58) 1 protocol (λ x. checksum_place x ≡ checksum_place protocol)
    (λ (is : (protocol == 58) ≡ true). sym (ap checksum_place (eqb-true protocol 58 is))) (λ _. refl)

-- what the fragments of a datagram share afterwards, whatever their identifications are
plain-common : (settings : Settings) (id other : ℕ) (f : Fragment) (common : Common) → (common.protocol ≡ 58 → ⊥) → f.common ≡ common
    → common_to_4 (head4_for settings id f) f.common ≡ common_to_4 (plain_head settings other common) common
plain-common settings id other f common icmp is =
    ap (λ h. common_to_4 h f.common) (head-is settings id f (no-error6 f (λ icmp6. icmp (sym (ap (λ c. c.protocol) is) ∙ icmp6))))
    ∙ ap (λ c. common_to_4 (plain_head settings other c) c) is

-- PACKETS THAT ARE READ ONE BY ONE

abbrev seen : Datagram → Numbered → Fragment
seen e x = unwrap_or (fragment6 x.0) (whole_of e)

abbrev image : Settings → Datagram → Numbered → Fragment
image settings e x = image_by settings (whole_of e) x.0 x.1 (walk_of x.0.next x.0.body)

abbrev given : Settings → Numbered → List Fragment
given settings x = map fragment4 (given_to_4 settings x)

record Reads (e : Datagram) (packets : List Numbered) (fragments : List Fragment) : Type 0 where
  as_seen : map (seen e) packets ≡ fragments
  each : All (λ x. fragment6 x.0 ≡ Some (seen e x)) packets

reads : (e : Datagram) (packets : List Numbered) (fragments : List Fragment) → map fragment6 (map (λ x. x.0) packets) ≡ map (λ f. Some f) fragments
    → Reads e packets fragments
reads e [] [] is = record { as_seen = refl; each = All-nil (λ (x : Numbered). fragment6 x.0 ≡ Some (seen e x)) }
reads e [] (f ∷ fragments) is = absurd cc
reads e (x ∷ packets) [] is = absurd cc
reads e (x ∷ packets) (f ∷ fragments) is =
    let first : fragment6 x.0 ≡ Some f = cc in
    let behind : map fragment6 (map (λ y. y.0) packets) ≡ map (λ g. Some g) fragments = cc in
    let rest : Reads e packets fragments = reads e packets fragments behind in
    let same : seen e x ≡ f = ap (λ o. unwrap_or o (whole_of e)) first in
    record {
      as_seen = ap (λ g. g ∷ map (seen e) packets) same ∙ ap (λ l. f ∷ l) rest.as_seen;
      each = All-cons (λ (y : Numbered). fragment6 y.0 ≡ Some (seen e y)) x packets (first ∙ ap (λ g. Some g) (sym same)) rest.each;
    }

seen-unruled : (e : Datagram) (x : Numbered) → fragment6 x.0 ≡ Some (seen e x) → IsTaken6 x → IsUnruled6 (seen e x)
seen-unruled e x read taken = let same : taken.fragment ≡ seen e x = ap (λ o. unwrap_or o (whole_of e)) (sym taken.read) in subst IsUnruled6 same taken.unruled

module _ (settings : Settings) (limits : IsWithinLimits settings) (e : Datagram) where
  all-cut : (packets : List Numbered) → All (λ x. fragment6 x.0 ≡ Some (seen e x)) packets → All (λ x. IsCut (image settings e x) (given settings x)) packets
  all-cut packets each = λ k d within.
      cut-by settings (whole_of e) (get_or packets k d).0 (get_or packets k d).1 (walk_of (get_or packets k d).0.next (get_or packets k d).0.body) (seen e (get_or packets k d))
      limits.mtu4 (each k d within)

  image-at : (x : Numbered) → fragment6 x.0 ≡ Some (seen e x) → IsImage settings (seen e x) (image settings e x)
  image-at x is = image-is settings (whole_of e) x.0 x.1 (walk_of x.0.next x.0.body) (seen e x) is

  covers-parts : (id : ℕ) (packets : List Numbered) → HasAddresses4 settings e.common → length e.payload ≤ 65535
      → All (λ x. fragment6 x.0 ≡ Some (seen e x)) packets → All (λ x. IsUnruled6 (seen e x)) packets
      → Covers e (map (seen e) packets) → All (IsPart (checksum_place e.common.protocol)) (map (seen e) packets)
      → Covers (datagram4 (image4 settings e id)) (flat_map (given settings) packets)
  covers-parts id packets addresses small each unruled c parts =
      let place : Option ℕ = checksum_place e.common.protocol in
      let of = All-from_map (IsFragmentOf e c.id) (seen e) packets c.parts in
      let part_of = All-from_map (IsPart place) (seen e) packets parts in
      let one : Fragment = get_or (map (seen e) packets) 0 (whole_of e) in
      let one_of : IsFragmentOf e c.id one = c.parts 0 (whole_of e) c.some in
      let one_part : IsPart place one = parts 0 (whole_of e) c.some in
      let one_unruled : IsUnruled6 one = All-map IsUnruled6 (seen e) packets unruled 0 (whole_of e) c.some in
      let protocol : one.common.protocol ≡ e.common.protocol = ap (λ x. x.protocol) one_of.shares in
      let icmp = λ (is : e.common.protocol ≡ 58). true≢false (sym (one_unruled.icmp (protocol ∙ is)) ∙ part-not_whole place one one_part) in
      let range : InRange4 settings e.common = record {
        source = subst (λ x. x.source < 2 ^ 128) one_of.shares one_unruled.source;
        destination = subst (λ x. x.destination < 2 ^ 128) one_of.shares one_unruled.destination;
        source4 = addresses.source;
        destination4 = addresses.destination;
      } in
      let ch : Change settings e = change settings e range small icmp in
      cut-covers (image settings e) (given settings) (datagram4 (image4 settings e id)) packets (all-cut packets each)
      (translated-covers (seen e) (image settings e) packets ch.place ch.new (c.id % 65536) e (datagram4 (image4 settings e id)) ch.at (same-place e.common.protocol) (ch.payload id) parts
      (λ k d within.
      let x : Numbered = get_or packets k d in
      let is : IsImage settings (seen e x) (image settings e x) = image-at x (each k d within) in
      record {
        shares = is.shares ∙ plain-common settings (image settings e x).id 0 (seen e x) e.common icmp (of k d within).shares
            ∙ sym (plain-common settings id 0 (whole_of e) e.common icmp refl);
        identified = is.identified (part_of k d within).cut ∙ ap (λ n. n % 65536) (of k d within).identified;
        offset = is.offset;
        more = is.more;
        held = ch.held (seen e x) (unruled k d within) (of k d within).shares;
        first = λ first. is.held ∙ ch.first (image settings e x).id (seen e x) (unruled k d within) (of k d within).shares (of k d within).slice first;
        later = λ later. is.held ∙ upper4-later settings (image settings e x).id (seen e x) later;
      }) c)

  -- a whole packet's image has its own identification
  covers-whole : (packets : List Numbered) → All (λ x. fragment6 x.0 ≡ Some (seen e x)) packets
      → Covers e (map (seen e) packets) → IsOneWhole (map (seen e) packets)
      → Covers (datagram4 (image4 settings e (first_id (flat_map (given_to_4 settings) packets)))) (flat_map (given settings) packets)
  covers-whole [] each c one = absurd one
  covers-whole (x ∷ y ∷ rest) each c one = absurd one
  covers-whole (x ∷ []) each c one =
      let f : Fragment = seen e x in
      let g : Fragment = image settings e x in
      let is : IsImage settings f g = image-at x (All-head (λ y. fragment6 y.0 ≡ Some (seen e y)) x [] each) in
      let of : IsFragmentOf e c.id f = All-head (IsFragmentOf e c.id) f [] c.parts in
      let fields : WholeFields f = whole-fields f one in
      let whole = whole-is e c.id f one of in
      let d : Datagram = datagram4 (image4 settings e g.id) in
      let covers : Covers d (given settings x ++ []) = cut-covers (image settings e) (given settings) d (x ∷ []) (all-cut (x ∷ []) each)
      (whole-covers d g (whole-by g (is.offset ∙ fields.offset) (is.more ∙ fields.more))
      (is.shares ∙ ap (λ h. common_to_4 (head4_for settings g.id h) h.common) whole) (is.held ∙ ap (λ h. upper_backward settings (head4_for settings g.id h) h) whole)) in
      let some : 0 < length (given_to_4 settings x) = subst (λ n. 0 < n) (ap length (append-nil (given settings x)) ∙ length-map (given_to_4 settings x) fragment4) covers.some in
      let first : first_id (given_to_4 settings x ++ []) ≡ g.id =
      ap first_id (append-nil (given_to_4 settings x))
      ∙ first-of_all g.id (given_to_4 settings x) some (ids-by settings (whole_of e) x.0 x.1 (walk_of x.0.next x.0.body) limits.mtu4) in
      subst (λ i. Covers (datagram4 (image4 settings e i)) (given settings x ++ [])) (sym first) covers
    where
      whole-by : (h : Fragment) → h.offset ≡ 0 → h.more ≡ false → is_whole h ≡ true
      whole-by h offset more = rw (offset, more) refl

pub cutting_commutes_to_4 : CuttingCommutesTo4
cutting_commutes_to_4 settings e packets limits addresses small covered taken =
    let r : Reads e packets covered.fragments = reads e packets covered.fragments covered.walked in
    let c : Covers e (map (seen e) packets) = subst (λ l. Covers e l) (sym r.as_seen) covered.covers in
    let id : ℕ = first_id (flat_map (given_to_4 settings) packets) in
    subst (λ l. Covers (datagram4 (image4 settings e id)) l) (sym (map-flat_map fragment4 (given_to_4 settings) packets))
    (⊎_elim (λ one. covers-whole settings limits e packets r.each c one)
    (λ parts. covers-parts settings limits e id packets addresses small r.each
    (λ k d within. seen-unruled e (get_or packets k d) (r.each k d within) (taken k d within)) c parts) c.form)
