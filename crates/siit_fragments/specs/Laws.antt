-- Laws of pieces and covers (RFC 791 section 3.2, RFC 8200 section 4.5).
use Rattle.std.specs.Prelude.{◌≡◌, ◌⊎◌, ℕ, ◌+◌, ◌*◌, ◌^◌, ◌<◌, ◌≤◌, List, [], ◌∷◌, length, map, true, false, if◌then◌else◌, Option, Some, None}
use Rattle.std.specs.List.{All, flat_map}
use Rattle.siit_model.specs.Bytes.{field16, with_field16}
use Rattle.siit_model.specs.Checksum.{checksum_place}
use Rattle.siit_model.specs.Upper.{has_field16}
use Rattle.siit_model.specs.Extensions.{is_extension}
use Rattle.siit_model.specs.Fragments.{Common, Datagram, Fragment, is_whole, fragment6, fragment_packet6}
use Rattle.siit_model.specs.Ipv4.{Ipv4Packet}
use Rattle.siit_model.specs.Ipv6.{Ipv6Packet}
use Rattle.siit_fragments.specs.Pieces.{pieces_of, pieces4}
use Rattle.siit_fragments.specs.Covers.{IsPart, Covers, Covers4, Covers6}

-- The pieces of a whole packet cover its datagram.
abbrev pub PiecesCover : Type 0
PiecesCover =
    (d : Datagram) (f : Fragment) (blocks : ℕ)
    → is_whole f ≡ true → f.common ≡ d.common → f.bytes ≡ d.payload → 3 ≤ blocks → 8 * blocks < length d.payload
    → Covers d (pieces_of blocks f)

-- A fragment that is left as it is, or is cut into more than one piece, of at least 24 bytes but for the last. So no
-- checksum comes to lie in a later piece: TCP's ends at 18.
abbrev pub IsCut : Fragment → List Fragment → Type 0
IsCut f pieces =
    (pieces ≡ f ∷ [])
    ⊎ ((blocks : ℕ) × (3 ≤ blocks) × (8 * blocks < length f.bytes) × (pieces ≡ pieces_of blocks f))

-- Cut fragments cover what the fragments covered.
abbrev pub CutFragmentsCover : Type 0
CutFragmentsCover =
    (d : Datagram) (fragments : List Fragment) (cut : Fragment → List Fragment) → All (λ f. IsCut f (cut f)) fragments
    → Covers d fragments → Covers d (flat_map cut fragments)

-- An IPv4 packet without options that is left as it is, or is cut likewise.
abbrev pub IsCut4 : Ipv4Packet → List Ipv4Packet → Type 0
IsCut4 packet pieces =
    (pieces ≡ packet ∷ [])
    ⊎ ((blocks : ℕ) × (3 ≤ blocks) × (8 * blocks < length packet.payload) × (pieces ≡ pieces4 blocks packet))

-- Cut IPv4 packets cover what the packets covered.
abbrev pub CutPackets4Cover : Type 0
CutPackets4Cover =
    (d : Ipv4Packet) (packets : List Ipv4Packet) (cut : Ipv4Packet → List Ipv4Packet)
    → All (λ p. IsCut4 p (cut p)) packets → Covers4 d packets → Covers4 d (flat_map cut packets)

-- The pieces of an IPv6 packet, each behind a Fragment header. The identification is the packet's own, of 32 bits.
pub record IsPieces6 (packet : Ipv6Packet) (pieces : List Ipv6Packet) : Type 0 where
  pub fragment : Fragment
  pub read : fragment6 packet ≡ Some fragment
  pub id : fragment.id < 2 ^ 32
  pub blocks : ℕ
  pub big : 3 ≤ blocks
  pub long : 8 * blocks < length fragment.bytes
  pub are : pieces ≡ map fragment_packet6 (pieces_of blocks fragment)

-- an IPv6 packet that is left as it is, or is cut
abbrev pub IsCut6 : Ipv6Packet → List Ipv6Packet → Type 0
IsCut6 packet pieces = (pieces ≡ packet ∷ []) ⊎ IsPieces6 packet pieces

-- Cut IPv6 packets cover what the packets covered, where the upper protocol may follow a Fragment header and every
-- offset has its 13 bits.
abbrev pub CutPackets6Cover : Type 0
CutPackets6Cover =
    (d : Datagram) (packets : List Ipv6Packet) (cut : Ipv6Packet → List Ipv6Packet)
    → is_extension d.common.protocol ≡ false → length d.payload ≤ 65535 → All (λ q. IsCut6 q (cut q)) packets
    → Covers6 d packets → Covers6 d (flat_map cut packets)

-- A checksum that becomes a function of itself, where both of its bytes are there.
abbrev pub with_checksum : Option ℕ → (ℕ → ℕ) → List ℕ → List ℕ
with_checksum None new bytes = bytes
with_checksum (Some place) new bytes =
    if has_field16 bytes place then with_field16 bytes place (new (field16 bytes place)) else bytes

abbrev pub HasChecksum : Option ℕ → List ℕ → Type 0
HasChecksum None bytes = Unit {0}
HasChecksum (Some place) bytes = place + 2 ≤ length bytes

-- A fragment in another's place, with the checksum changed in a first fragment, and nothing in a later one.
pub record IsTranslated (place : Option ℕ) (new : ℕ → ℕ) (common : Common) (id : ℕ) (f g : Fragment) : Type 0 where
  pub shares : g.common ≡ common
  pub identified : g.id ≡ id
  pub offset : g.offset ≡ f.offset
  pub more : g.more ≡ f.more
  pub held : f.offset ≡ 0 → HasChecksum place f.bytes
  pub first : f.offset ≡ 0 → g.bytes ≡ with_checksum place new f.bytes
  pub later : 0 < f.offset → g.bytes ≡ f.bytes

-- Parts of a datagram, each translated, cover the datagram whose checksum is changed in the same way.
abbrev pub TranslatedFragmentsCover : Type 0
TranslatedFragmentsCover =
    (image : Fragment → Fragment) (fragments : List Fragment) (place : Option ℕ) (new : ℕ → ℕ) (id : ℕ) (d e : Datagram)
    → (place ≡ None) ⊎ (place ≡ checksum_place d.common.protocol)
    → checksum_place e.common.protocol ≡ checksum_place d.common.protocol
    → e.payload ≡ with_checksum place new d.payload
    → All (IsPart (checksum_place d.common.protocol)) fragments
    → All (λ f. IsTranslated place new e.common id f (image f)) fragments
    → Covers d fragments → Covers e (map image fragments)
