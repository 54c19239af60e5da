-- The Internet checksum: residues of bytes (RFC 1071), and checksums that are moved by a difference (RFC 1624).
use Rattle.std.specs.Prelude.{◌≡◌, ℕ, ◌+◌, ◌*◌, ◌-◌, ◌%◌, List, [], ◌∷◌, ◌++◌, if◌then◌else◌, ◌==◌, Option, Some, None}
use Rattle.siit_model.specs.Bytes.{bytes16, bytes32, bytes128, field16, with_field16}

-- the sum of the 16-bit words, an odd last byte being padded with zero
abbrev pub words_sum : List ℕ → ℕ
words_sum [] = 0
words_sum (high ∷ []) = high * 256
words_sum (high ∷ low ∷ rest) = high * 256 + low + words_sum rest

-- that sum in the arithmetic of the checksum, where 65535 is 0
abbrev pub residue : List ℕ → ℕ
residue bytes = words_sum bytes % 65535

-- bytes that hold their own checksum are right (RFC 1071 section 1)
abbrev pub IsRightChecksum : List ℕ → Type 0
IsRightChecksum bytes = residue bytes ≡ 0

-- The checksum of bytes whose own checksum field is counted as zero, by their residue. It is below 65535.
abbrev pub checksum_of : ℕ → ℕ
checksum_of sum = (65535 - sum) % 65535

-- A checksum moved from data of residue `old` to data of residue `new`: the number below 65535 whose sum with
-- `new` is what the sum with `old` was. A checksum that was wrong stays wrong by as much. `new` is at most 65535.
abbrev pub moved : ℕ → ℕ → ℕ → ℕ
moved checksum old new = (checksum + old + (65535 - new)) % 65535

-- A UDP checksum is never written as 0, which says that there is none (RFC 768): 65535 stands in its place.
abbrev pub without_zero : ℕ → ℕ
without_zero checksum = if checksum == 0 then 65535 else checksum

abbrev pub moved_udp : ℕ → ℕ → ℕ → ℕ
moved_udp checksum old new = without_zero (moved checksum old new)

-- The checksum at a place of bytes that come in place of others (RFC 1624): the residue of pseudo-header and bytes,
-- their checksum among them, is the same before and after. The pseudo-headers are told by their residues, and the field
-- itself is counted as zero.
abbrev pub moved_between : (place old_pseudo new_pseudo : ℕ) → (old new : List ℕ) → ℕ
moved_between place old_pseudo new_pseudo old new =
    moved (field16 old place)
    ((old_pseudo + residue (with_field16 old place 0)) % 65535) ((new_pseudo + residue (with_field16 new place 0)) % 65535)

-- The residue of the pseudo-header of IPv4 (RFC 793 section 3.1): addresses, protocol, length of the upper part. ICMPv4
-- has none, so that this isn't asked for protocol 1.
abbrev pub pseudo4 : (source destination protocol upper_length : ℕ) → ℕ
pseudo4 source destination protocol upper_length =
    residue (bytes32 source ++ bytes32 destination ++ 0 ∷ protocol ∷ bytes16 upper_length)

-- the residue of the pseudo-header of IPv6 (RFC 8200 section 8.1)
abbrev pub pseudo6 : (source destination protocol upper_length : ℕ) → ℕ
pseudo6 source destination protocol upper_length =
    residue (bytes128 source ++ bytes128 destination ++ bytes32 upper_length ++ 0 ∷ 0 ∷ 0 ∷ protocol ∷ [])

-- Where the checksum stands in the upper part, by the protocol: ICMP (RFC 792), TCP (RFC 793), UDP (RFC 768) and ICMPv6
-- (RFC 4443). Other protocols have none that depends on addresses.
abbrev pub checksum_place : ℕ → Option ℕ
checksum_place protocol =
    if protocol == 1 then Some 2
    else if protocol == 6 then Some 16
    else if protocol == 17 then Some 6
    else if protocol == 58 then Some 2
    else None
