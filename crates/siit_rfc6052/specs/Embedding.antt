-- An IPv4 address inside an IPv6 address (RFC 6052 section 2.2). Addresses are numbers, their first octet the highest.
use Rattle.std.specs.Prelude.{◌≡◌, ℕ, ◌+◌, ◌*◌, ◌-◌, ◌/◌, ◌%◌, ◌^◌, ◌<◌, List, [], ◌∷◌, Bool, ◌==◌, ◌||◌, ◌&&◌, if◌then◌else◌, Option, Some, None, IsTrue}
use Rattle.siit_addr.specs.Addresses.{agree, is_clear_behind}
use Rattle.siit_addr.specs.declared.addr.Prefix6.{Prefix6}

-- the lengths that a prefix may have
abbrev pub is_embedding_length : ℕ → Bool
is_embedding_length len =
    (len == 32) || (len == 40) || (len == 48) || (len == 56) || (len == 64) || (len == 96)

-- The bytes that hold the four octets, by the prefix's length. Byte 8 (bits 64 to 71) holds none.
abbrev pub octet_places : ℕ → List ℕ
octet_places len =
    if len == 32 then 4 ∷ 5 ∷ 6 ∷ 7 ∷ []
    else if len == 40 then 5 ∷ 6 ∷ 7 ∷ 9 ∷ []
    else if len == 48 then 6 ∷ 7 ∷ 9 ∷ 10 ∷ []
    else if len == 56 then 7 ∷ 9 ∷ 10 ∷ 11 ∷ []
    else if len == 64 then 9 ∷ 10 ∷ 11 ∷ 12 ∷ []
    else if len == 96 then 12 ∷ 13 ∷ 14 ∷ 15 ∷ []
    else []

-- octet k of an IPv4 address, and the byte of an IPv6 address at a place
abbrev pub octet_of : ℕ → ℕ → ℕ
octet_of a k = a / 256 ^ (3 - k) % 256

abbrev pub byte_of : ℕ → ℕ → ℕ
byte_of x place = x / 256 ^ (15 - place) % 256

-- an accepted prefix: a length of these, no bit behind it set, and byte 8 zero
abbrev pub is_embedding_prefix : (len prefix : ℕ) → Bool
is_embedding_prefix len prefix =
    is_embedding_length len && is_clear_behind 128 len prefix && (byte_of prefix 8 == 0)

-- the address of the well-known prefix 64:ff9b::/96 (RFC 6052 section 2.1)
abbrev pub well_known : ℕ
well_known = 0x64ff9b * 2 ^ 96

abbrev pub is_well_known : Prefix6 → Bool
is_well_known prefix = (prefix.len == 96) && (prefix.addr.0 == well_known)

-- the octets of an IPv4 address from octet k on at their places, all other bytes zero
abbrev pub placed : List ℕ → (k a : ℕ) → ℕ
placed [] k a = 0
placed (place ∷ places) k a = octet_of a k * 256 ^ (15 - place) + placed places (k + 1) a

-- the number whose octets are the bytes at these places, behind the octets that were read before
abbrev pub gathered : List ℕ → (before x : ℕ) → ℕ
gathered [] before x = before
gathered (place ∷ places) before x = gathered places (before * 256 + byte_of x place) x

-- the IPv6 address of an IPv4 address under a prefix
abbrev pub embedded : (len prefix a : ℕ) → ℕ
embedded len prefix a = prefix + placed (octet_places len) 0 a

-- The IPv4 address inside an IPv6 address that the prefix holds. No other byte is read.
abbrev pub extracted : (len prefix x : ℕ) → Option ℕ
extracted len prefix x =
    if agree 128 len x prefix then Some (gathered (octet_places len) 0 x) else None

-- what was embedded is extracted again
abbrev pub ExtractsEmbedded : Type 0
ExtractsEmbedded =
    (len prefix a : ℕ) → IsTrue (is_embedding_prefix len prefix) → prefix < 2 ^ 128 → a < 2 ^ 32
    → extracted len prefix (embedded len prefix a) ≡ Some a
