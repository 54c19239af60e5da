-- The values that the texts of a configuration stand for.
use Rattle.std.specs.Prelude.{ℕ, ℤ, pos, negsuc, List, [], ◌∷◌, length, codes, Bool, true, false, not, ◌&&◌, ◌==◌, nat_le, if◌then◌else◌, Option, Some, None, option_and_then}
use Rattle.std.specs.Str.{bytes_eq}
use Rattle.siit_addr.specs.Addresses.{is_clear_behind, overlap}
use Rattle.siit_addr.specs.Prefixes.{addr4_of_text, prefix4_of_text, prefix6_of_text}
use Rattle.siit_addr.specs.Texts.{both_with}
use Rattle.siit_addr.specs.declared.addr.Addr4.{Addr4}
use Rattle.siit_addr.specs.declared.addr.Prefix4.{Prefix4}
use Rattle.siit_addr.specs.declared.addr.Prefix6.{Prefix6}
use Rattle.siit_rules.specs.declared.rule.Family.{Family}
use Rattle.siit_rules.specs.declared.rule.Family.TheVariants.{Four, Six}
use Rattle.siit_rfc6052.specs.Embedding.{is_embedding_prefix, is_well_known}
use Rattle.siit_eamt.specs.declared.entry.Eam.{Eam}
use Rattle.siit_roles.specs.declared.role.Role.{Role}
use Rattle.siit_roles.specs.declared.role.Role.TheVariants.{Plain, Border, Edge, Customer}

-- the value, if it passes
abbrev pub kept_if : {X : Type 0} → (X → Bool) → X → Option X
kept_if test x = if test x then Some x else None

-- what one of two names stands for, the first for false
abbrev pub either_name : List ℕ → List ℕ → List ℕ → Option Bool
either_name off on text =
    if bytes_eq text off then Some false
    else if bytes_eq text on then Some true
    else None

abbrev pub role_of : List ℕ → Option Role
role_of text =
    if bytes_eq text (codes "plain") then Some Plain
    else if bytes_eq text (codes "border") then Some Border
    else if bytes_eq text (codes "edge") then Some Edge
    else if bytes_eq text (codes "customer") then Some Customer
    else None

-- the family whose version this is
abbrev pub family_of : ℤ → Option Family
family_of (pos n) = if n == 4 then Some Four else if n == 6 then Some Six else None
family_of (negsuc n) = None

-- a number between two others, these included
abbrev pub number_within : (low high : ℕ) → ℤ → Option ℕ
number_within low high (pos n) = if nat_le low n && nat_le n high then Some n else None
number_within low high (negsuc n) = None

-- the addresses that all texts are, none where one of them is no address
abbrev pub addresses4_of : List (List ℕ) → Option (List Addr4)
addresses4_of [] = Some []
addresses4_of (text ∷ texts) = both_with (λ a rest. a ∷ rest) (addr4_of_text text) (addresses4_of texts)

-- a pool of 1 to 256 addresses
abbrev pub pool_of : List (List ℕ) → Option (List Addr4)
pool_of texts = if nat_le 1 (length texts) && nat_le (length texts) 256 then addresses4_of texts else None

-- an IPv4 prefix with no bit set behind its length
abbrev pub clean_prefix_of : List ℕ → Option Prefix4
clean_prefix_of text = option_and_then (kept_if (λ p. is_clear_behind 32 p.len p.addr.0)) (prefix4_of_text text)

-- a prefix under which addresses are embedded (RFC 6052 section 2.2)
abbrev pub embedding_of : List ℕ → Option Prefix6
embedding_of text = option_and_then (kept_if (λ p. is_embedding_prefix p.len p.addr.0)) (prefix6_of_text text)

-- a customer's prefix of local addresses, apart from the provider's
abbrev pub is_local_to : Prefix6 → Prefix6 → Bool
is_local_to provider p =
    not (is_well_known p) && not (overlap 128 p.len p.addr.0 provider.len provider.addr.0)

abbrev pub local_embedding_of : Prefix6 → List ℕ → Option Prefix6
local_embedding_of provider text = option_and_then (kept_if (is_local_to provider)) (embedding_of text)

-- an explicit mapping, from the texts of its two prefixes
abbrev pub mapping_entry_of : List ℕ × List ℕ → Option Eam
mapping_entry_of texts =
    both_with (λ p q. record { p4 = p; p6 = q }) (prefix4_of_text texts.0) (prefix6_of_text texts.1)
