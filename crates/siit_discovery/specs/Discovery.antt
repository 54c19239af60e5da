-- The prefixes that an answer about ipv4only.arpa shows (RFC 7050 section 3). Addresses are numbers, their first
-- octet the highest.
use Rattle.std.specs.Prelude.{ℕ, ◌*◌, ◌-◌, ◌/◌, ◌^◌, List, [], ◌∷◌, ◌++◌, length, map, flat_map, filter, filter_map, fold, Bool, false, not, ◌==◌, ◌&&◌, ◌||◌, if◌then◌else◌, Option, Some, None, Result, Ok, Err}
use Rattle.std.specs.List.{list_any}
use Rattle.siit_model.specs.Bytes.{field128}
use Rattle.siit_addr.specs.Addresses.{dotted}
use Rattle.siit_rfc6052.specs.Embedding.{byte_of, extracted}
use Rattle.siit_dns.specs.Names.{is_same_name}
use Rattle.siit_dns.specs.Messages.{DnsMessage, ResourceRecord, message_of}
use Rattle.siit_dns.specs.declared.fault.DnsFault.{DnsFault}
use Rattle.siit_dns.specs.declared.fault.DnsFault.TheVariants.{Bad, NotAnswer}

-- the lengths of prefixes (RFC 6052 section 2.2)
abbrev pub lengths : List ℕ
lengths = 32 ∷ 40 ∷ 48 ∷ 56 ∷ 64 ∷ 96 ∷ []

-- the addresses of ipv4only.arpa (RFC 7050 section 2.2)
abbrev pub is_known : ℕ → Bool
is_known address = (address == dotted 192 0 0 170) || (address == dotted 192 0 0 171)

-- a prefix that an address may be made under, and the IPv4 address that it holds then
pub record Candidate : Type 0 where
  pub len : ℕ
  pub prefix : ℕ
  pub address : ℕ

-- the first bits of an address, all others zero
abbrev pub cleared : (len : ℕ) → ℕ → ℕ
cleared len x = x / 2 ^ (128 - len) * 2 ^ (128 - len)

abbrev pub candidate_with : (len x : ℕ) → Option ℕ → Option Candidate
candidate_with len x None = None
candidate_with len x (Some address) =
    if is_known address then Some (record { len = len; prefix = cleared len x; address = address }) else None

-- The candidate of an IPv6 address with a prefix of this length: byte 8 (bits 64 to 71) is zero, and one of the two
-- known addresses is embedded.
abbrev pub candidate_at : (x len : ℕ) → Option Candidate
candidate_at x len = if byte_of x 8 == 0 then candidate_with len x (extracted len (cleared len x) x) else None

abbrev pub candidates : ℕ → List Candidate
candidates x = filter_map (candidate_at x) lengths

-- the same prefix with the other known address
abbrev pub is_partner : Candidate → Option Candidate → Bool
is_partner c None = false
is_partner c (Some d) = (d.prefix == c.prefix) && not (d.address == c.address)

abbrev pub has_partner : List ℕ → Candidate → Bool
has_partner addresses c = list_any (λ x. is_partner c (candidate_at x c.len)) addresses

-- A candidate counts where it is the only one of its address, or where another address has its partner.
abbrev pub counts : (alone : Bool) → List ℕ → Candidate → Bool
counts alone addresses c = alone || has_partner addresses c

abbrev pub counting : List ℕ → ℕ → List Candidate
counting addresses x = filter (counts (length (candidates x) == 1) addresses) (candidates x)

-- a prefix is among others
abbrev pub is_there : List (ℕ × ℕ) → ℕ × ℕ → Bool
is_there found prefix = list_any (λ other. (other.0 == prefix.0) && (other.1 == prefix.1)) found

-- a prefix behind those that were found, unless it is there
abbrev pub with_prefix : List (ℕ × ℕ) → ℕ × ℕ → List (ℕ × ℕ)
with_prefix found prefix = if is_there found prefix then found else found ++ prefix ∷ []

abbrev pub prefix_of : Candidate → ℕ × ℕ
prefix_of c = (c.prefix, c.len)

-- the prefixes of the candidates that count, by address and then by length, each once
abbrev pub prefixes_of : List ℕ → List (ℕ × ℕ)
prefixes_of addresses = fold with_prefix [] (map prefix_of (flat_map (counting addresses) addresses))

-- the name ipv4only.arpa
abbrev pub ipv4only : List ℕ
ipv4only = 8 ∷ 0x69 ∷ 0x70 ∷ 0x76 ∷ 0x34 ∷ 0x6f ∷ 0x6e ∷ 0x6c ∷ 0x79 ∷ 4 ∷ 0x61 ∷ 0x72 ∷ 0x70 ∷ 0x61 ∷ 0 ∷ []

-- an answer (QR 1) to the question for AAAA records (28) of ipv4only.arpa of class 1
abbrev pub is_answer : DnsMessage → Bool
is_answer message =
    (message.flags / 2 ^ 15 == 1) && is_same_name message.question.name ipv4only && (message.question.kind == 28)
    && (message.question.class == 1)

abbrev pub is_address : ResourceRecord → Bool
is_address r = (r.section == 0) && (r.kind == 28) && (r.class == 1)

-- the addresses of the AAAA records of class 1 in the answer section
abbrev pub addresses_of : List ResourceRecord → List ℕ
addresses_of records = map (λ r. field128 r.rdata 0) (filter is_address records)

abbrev pub found_in : Result DnsMessage ℕ → Result (List (ℕ × ℕ)) DnsFault
found_in (Err place) = Err (Bad place)
found_in (Ok message) = if is_answer message then Ok (prefixes_of (addresses_of message.records)) else Err NotAnswer

-- the prefixes that the bytes of an answer show, each an address and a length, or why it is refused
unfoldable pub found : List ℕ → Result (List (ℕ × ℕ)) DnsFault
found bytes = found_in (message_of bytes)
