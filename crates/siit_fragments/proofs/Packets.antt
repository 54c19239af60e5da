-- Packets that are cut again.
use Rattle.std.proofs.Common.{◌≡◌, ℕ, ◌+◌, ◌*◌, ◌^◌, ◌<◌, ◌≤◌, List, [], ◌∷◌, ◌++◌, length, drop, map, get_or, flat_map, All, Bool, true, false, ◌==◌, Option, Some, None, ◌∙◌, ap, sym, subst, refl, inl, inr, ⊎_elim, arith}
use Rattle.std.proofs.lemmas.List.{map-append}
use Rattle.std.proofs.lemmas.List.Elements.{All-cons, All-nil, All-head, All-tail}
use Rattle.siit_model.specs.Bytes.{flag_bit}
use Rattle.siit_model.specs.Extensions.{is_extension}
use Rattle.siit_model.specs.Fragments.{Datagram, Fragment, datagram4, fragment4, packet4, fragment6, fragment_packet6, whole_of}
use Rattle.siit_model.specs.Ipv4.{Ipv4Packet}
use Rattle.siit_model.specs.Ipv6.{Ipv6Packet}
use Rattle.siit_fragments.specs.Pieces.{piece_of, pieces_of, pieces4}
use Rattle.siit_fragments.specs.Covers.{IsFragmentOf, Covers, Covers4, Covers6}
use Rattle.siit_fragments.specs.Laws.{IsCut, IsCut4, IsPieces6, IsCut6}
use Rattle.siit_fragments.proofs.Lists.{All-flat_map, All-from_map}
use Rattle.siit_fragments.proofs.Pieces.{All-pieces}
use Rattle.siit_fragments.proofs.Cutting.{cut-covers}
use Rattle.siit_upper.proofs.Read.{fragment_is_read6}

map-back : {X Y : Type 0} (there : X → Y) (back : Y → X) (xs : List X) → ((x : X) → back (there x) ≡ x) → map back (map there xs) ≡ xs
map-back there back [] each = refl
map-back there back (x ∷ xs) each = ap (λ y. y ∷ map back (map there xs)) (each x) ∙ ap (λ l. x ∷ l) (map-back there back xs each)

map-flat_map : {X Y Z : Type 0} (f : Y → Z) (g : X → List Y) (xs : List X) → map f (flat_map g xs) ≡ flat_map (λ x. map f (g x)) xs
map-flat_map f g [] = refl
map-flat_map f g (x ∷ xs) = map-append f (g x) (flat_map g xs) ∙ ap (λ l. map f (g x) ++ l) (map-flat_map f g xs)

-- the fragment that is read in an IPv4 packet that is made of it
flag-read : (more : Bool) → (flag_bit more == 1) ≡ more
flag-read true = refl
flag-read false = refl

fragment4-read : (df : ℕ) (f : Fragment) → fragment4 (packet4 df f) ≡ f
fragment4-read df f = ap (λ more. record f { more = more }) (flag-read f.more)

cut4 : (packet : Ipv4Packet) (pieces : List Ipv4Packet) → IsCut4 packet pieces → IsCut (fragment4 packet) (map fragment4 pieces)
cut4 packet pieces is =
    ⊎_elim (λ (same : pieces ≡ packet ∷ []). inl (ap (map fragment4) same))
    (λ (cut : (blocks : ℕ) × (3 ≤ blocks) × (8 * blocks < length packet.payload) × (pieces ≡ pieces4 blocks packet)).
    inr (
      cut.0,
      cut.1,
      cut.2,
      ap (map fragment4) cut.3
          ∙ map-back (packet4 packet.df) fragment4 (pieces_of cut.0 (fragment4 packet)) (λ f. fragment4-read packet.df f),
    ))
    is

pub cut-covers4 : (d : Ipv4Packet) (packets : List Ipv4Packet) (cut : Ipv4Packet → List Ipv4Packet) → All (λ p. IsCut4 p (cut p)) packets
    → Covers4 d packets → Covers4 d (flat_map cut packets)
cut-covers4 d packets cut cuts covers =
    subst (λ l. Covers (datagram4 d) l) (sym (map-flat_map fragment4 cut packets))
    (cut-covers fragment4 (λ p. map fragment4 (cut p)) (datagram4 d) packets
    (λ k e within. cut4 (get_or packets k e) (cut (get_or packets k e)) (cuts k e within)) covers)

-- the fragment that is read in a packet, or one without a meaning
abbrev fragment_or : Option Fragment → Fragment
fragment_or (Some f) = f
fragment_or None = whole_of (record { common = record { class = 0; hop = 0; protocol = 0; source = 0; destination = 0 }; payload = [] })

abbrev seen6 : Ipv6Packet → Fragment
seen6 packet = fragment_or (fragment6 packet)

abbrev IsRead : Ipv6Packet → Type 0
IsRead packet = fragment6 packet ≡ Some (seen6 packet)

is-read : (packet : Ipv6Packet) (f : Fragment) → fragment6 packet ≡ Some f → IsRead packet
is-read packet f read = read ∙ ap (λ g. Some g) (sym (ap fragment_or read))

-- packets that were read one by one
each-read : (packets : List Ipv6Packet) (fragments : List Fragment) → map fragment6 packets ≡ map (λ f. Some f) fragments → All IsRead packets
each-read [] fragments walked = All-nil IsRead
each-read (q ∷ packets) [] walked = absurd (omega (arith, ap length walked))
each-read (q ∷ packets) (f ∷ fragments) walked =
    All-cons IsRead q packets (is-read q f (ap (λ l. get_or l 0 None) walked)) (each-read packets fragments (ap (λ l. drop 1 l) walked))

seen-same : (packets : List Ipv6Packet) (fragments : List Fragment) → map fragment6 packets ≡ map (λ f. Some f) fragments → map seen6 packets ≡ fragments
seen-same [] [] walked = refl
seen-same [] (f ∷ fragments) walked = absurd (omega (arith, ap length walked))
seen-same (q ∷ packets) [] walked = absurd (omega (arith, ap length walked))
seen-same (q ∷ packets) (f ∷ fragments) walked =
    ap (λ g. g ∷ map seen6 packets) (ap (λ l. fragment_or (get_or l 0 None)) walked)
    ∙ ap (λ l. f ∷ l) (seen-same packets fragments (ap (λ l. drop 1 l) walked))

map-read : (packets : List Ipv6Packet) → All IsRead packets → map fragment6 packets ≡ map (λ f. Some f) (map seen6 packets)
map-read [] each = refl
map-read (q ∷ packets) each =
    ap (λ x. x ∷ map fragment6 packets) (All-head IsRead q packets each) ∙ ap (λ l. Some (seen6 q) ∷ l) (map-read packets (All-tail IsRead q packets each))

module _ (d : Datagram) (id : ℕ) (may : is_extension d.common.protocol ≡ false) (most : length d.payload ≤ 65535) where
  -- a piece is read in its packet
  piece-read : (blocks : ℕ) (f : Fragment) (k : ℕ) → IsFragmentOf d id f → f.id < 2 ^ 32 → 8 * (k * blocks) < length f.bytes
      → fragment6 (fragment_packet6 (piece_of blocks f k)) ≡ Some (piece_of blocks f k)
  piece-read blocks f k of small begins =
      let inside : 8 * f.offset + length f.bytes ≤ length d.payload = of.slice.inside in
      fragment_is_read6 (piece_of blocks f k) (omega arith) small (ap (λ c. is_extension c.protocol) of.shares ∙ may)

  pieces-read : (blocks : ℕ) (f : Fragment) → 0 < blocks → IsFragmentOf d id f → f.id < 2 ^ 32
      → All (λ g. fragment6 (fragment_packet6 g) ≡ Some g) (pieces_of blocks f)
  pieces-read blocks f some of small =
      All-pieces (λ g. fragment6 (fragment_packet6 g) ≡ Some g) blocks f some (λ k begins. piece-read blocks f k of small begins)

  made-read : (fragments : List Fragment) → All (λ g. fragment6 (fragment_packet6 g) ≡ Some g) fragments → All IsRead (map fragment_packet6 fragments)
  made-read [] each = All-nil IsRead
  made-read (f ∷ fragments) each =
      All-cons IsRead (fragment_packet6 f) (map fragment_packet6 fragments)
      (is-read (fragment_packet6 f) f (All-head (λ g. fragment6 (fragment_packet6 g) ≡ Some g) f fragments each))
      (made-read fragments (All-tail (λ g. fragment6 (fragment_packet6 g) ≡ Some g) f fragments each))

  made-seen : (fragments : List Fragment) → All (λ g. fragment6 (fragment_packet6 g) ≡ Some g) fragments → map seen6 (map fragment_packet6 fragments) ≡ fragments
  made-seen [] each = refl
  made-seen (f ∷ fragments) each =
      ap (λ g. g ∷ map seen6 (map fragment_packet6 fragments)) (ap fragment_or (All-head (λ g. fragment6 (fragment_packet6 g) ≡ Some g) f fragments each))
      ∙ ap (λ l. f ∷ l) (made-seen fragments (All-tail (λ g. fragment6 (fragment_packet6 g) ≡ Some g) f fragments each))

  -- the pieces of a packet that is read as this fragment of the datagram
  of-pieces : (q : Ipv6Packet) (pieces : List Ipv6Packet) (is : IsPieces6 q pieces) → IsFragmentOf d id (seen6 q)
      → All (λ g. fragment6 (fragment_packet6 g) ≡ Some g) (pieces_of is.blocks is.fragment)
  of-pieces q pieces is of =
      let big = is.big in
      pieces-read is.blocks is.fragment (omega arith) (subst (λ g. IsFragmentOf d id g) (ap fragment_or is.read) of) is.id

  cut6 : (q : Ipv6Packet) (pieces : List Ipv6Packet) → IsCut6 q pieces → IsFragmentOf d id (seen6 q) → IsCut (seen6 q) (map seen6 pieces)
  cut6 q pieces is of =
      ⊎_elim (λ (same : pieces ≡ q ∷ []). inl (ap (map seen6) same))
      (λ (cut : IsPieces6 q pieces).
      let seen : seen6 q ≡ cut.fragment = ap fragment_or cut.read in
      subst (λ g. IsCut g (map seen6 pieces)) (sym seen)
      (inr (cut.blocks, cut.big, cut.long, ap (map seen6) cut.are ∙ made-seen (pieces_of cut.blocks cut.fragment) (of-pieces q pieces cut of))))
      is

  cut-read : (q : Ipv6Packet) (pieces : List Ipv6Packet) → IsCut6 q pieces → IsFragmentOf d id (seen6 q) → IsRead q → All IsRead pieces
  cut-read q pieces is of read =
      ⊎_elim (λ (same : pieces ≡ q ∷ []). subst (λ l. All IsRead l) (sym same) (All-cons IsRead q [] read (All-nil IsRead)))
      (λ (cut : IsPieces6 q pieces).
      subst (λ l. All IsRead l) (sym cut.are) (made-read (pieces_of cut.blocks cut.fragment) (of-pieces q pieces cut of)))
      is

pub cut-covers6 : (d : Datagram) (packets : List Ipv6Packet) (cut : Ipv6Packet → List Ipv6Packet) → is_extension d.common.protocol ≡ false
    → length d.payload ≤ 65535 → All (λ q. IsCut6 q (cut q)) packets → Covers6 d packets → Covers6 d (flat_map cut packets)
cut-covers6 d packets cut may most cuts c =
    let covers : Covers d (map seen6 packets) = subst (λ l. Covers d l) (sym (seen-same packets c.fragments c.walked)) c.covers in
    let of = All-from_map (IsFragmentOf d covers.id) seen6 packets covers.parts in
    let read = each-read packets c.fragments c.walked in
    record {
      fragments = map seen6 (flat_map cut packets);
      walked = map-read (flat_map cut packets) (All-flat_map IsRead cut packets (λ k e within.
          cut-read d covers.id may most (get_or packets k e) (cut (get_or packets k e)) (cuts k e within) (of k e within) (read k e within)));
      covers = subst (λ l. Covers d l) (sym (map-flat_map seen6 cut packets))
          (cut-covers seen6 (λ q. map seen6 (cut q)) d packets
          (λ k e within. cut6 d covers.id may most (get_or packets k e) (cut (get_or packets k e)) (cuts k e within) (of k e within)) covers);
    }
