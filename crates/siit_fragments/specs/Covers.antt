-- When fragments, in any order, repeated or overlapping, join to a datagram (RFC 791 section 3.2, RFC 8200 4.5).
use Rattle.std.specs.Prelude.{◌≡◌, ◌⊎◌, ℕ, ◌+◌, ◌*◌, ◌<◌, ◌≤◌, List, [], ◌∷◌, length, map, true, nat_lt, Option, Some, None}
use Rattle.std.specs.List.{All, Any}
use Rattle.siit_model.specs.Bytes.{part}
use Rattle.siit_model.specs.Checksum.{checksum_place}
use Rattle.siit_model.specs.Fragments.{Datagram, Fragment, is_whole, datagram4, fragment4, fragment6}
use Rattle.siit_model.specs.Ipv4.{Ipv4Packet}
use Rattle.siit_model.specs.Ipv6.{Ipv6Packet}

-- where its bytes begin and end in the datagram's payload
abbrev pub start_of : Fragment → ℕ
start_of f = 8 * f.offset

abbrev pub end_of : Fragment → ℕ
end_of f = 8 * f.offset + length f.bytes

-- It holds the bytes of its place, and More says whether further bytes follow.
pub record IsSliceOf (payload : List ℕ) (f : Fragment) : Type 0 where
  pub inside : end_of f ≤ length payload
  pub bytes : f.bytes ≡ part payload (start_of f) (length f.bytes)
  pub more : f.more ≡ nat_lt (end_of f) (length payload)

-- a fragment of this datagram, by the identification of all of them
pub record IsFragmentOf (d : Datagram) (id : ℕ) (f : Fragment) : Type 0 where
  pub shares : f.common ≡ d.common
  pub identified : f.id ≡ id
  pub slice : IsSliceOf d.payload f

-- it holds the byte of this place
abbrev pub HoldsByte : ℕ → Fragment → Type 0
HoldsByte place f = (start_of f ≤ place) × (place < end_of f)

-- one packet, which is no fragment
abbrev pub IsOneWhole : List Fragment → Type 0
IsOneWhole [] = ⊥
IsOneWhole (f ∷ []) = is_whole f ≡ true
IsOneWhole (f ∷ g ∷ rest) = ⊥

-- A later fragment holds neither of the checksum's two bytes.
abbrev pub LeavesChecksum : Option ℕ → Fragment → Type 0
LeavesChecksum None f = Unit {0}
LeavesChecksum (Some place) f = (f.offset ≡ 0) ⊎ ((end_of f ≤ place) ⊎ (place + 2 ≤ start_of f))

-- a fragment with payload, which leaves the checksum
pub record IsPart (checksum : Option ℕ) (f : Fragment) : Type 0 where
  pub cut : (0 < f.offset) ⊎ (f.more ≡ true)
  pub payload : 0 < length f.bytes
  pub leaves : LeavesChecksum checksum f

-- The fragments join to the datagram, by one identification for all of them: there is one, each is a slice of the
-- payload, every byte is in some, and they are one whole packet or parts with payload.
pub record Covers (d : Datagram) (fragments : List Fragment) : Type 0 where
  pub id : ℕ
  pub some : 0 < length fragments
  pub parts : All (IsFragmentOf d id) fragments
  pub every : (place : ℕ) → place < length d.payload → Any (HoldsByte place) fragments
  pub form : IsOneWhole fragments ⊎ All (IsPart (checksum_place d.common.protocol)) fragments

-- joined, the packets are this whole one; its identification isn't looked at
abbrev pub Covers4 : Ipv4Packet → List Ipv4Packet → Type 0
Covers4 d packets = Covers (datagram4 d) (map fragment4 packets)

-- no walk over the packets' extension headers has a trouble, and joined they are this datagram
pub record Covers6 (d : Datagram) (packets : List Ipv6Packet) : Type 0 where
  pub fragments : List Fragment
  pub walked : map fragment6 packets ≡ map (λ f. Some f) fragments
  pub covers : Covers d fragments
