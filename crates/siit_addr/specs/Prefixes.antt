-- The addresses and prefixes that texts stand for (RFC 4291 2.2 and 2.3, RFC 4632 3.1), as values of their types.
use Rattle.std.specs.Prelude.{◌≡◌, ℕ, List, Bool, true, false, nat_le, Option, Some, None, option_map, option_and_then}
use Rattle.std.proofs.Common.{leb-true, refl}
use Rattle.siit_addr.specs.declared.addr.Addr4.{Addr4}
use Rattle.siit_addr.specs.declared.addr.Addr6.{Addr6}
use Rattle.siit_addr.specs.declared.addr.Prefix4.{Prefix4}
use Rattle.siit_addr.specs.declared.addr.Prefix6.{Prefix6}
use Rattle.siit_addr.specs.Texts.{ipv4_of_text, ipv6_of_text, parts_at, prefix_of_parts, slash}

abbrev pub addr4_of_text : List ℕ → Option Addr4
addr4_of_text text = option_map (λ a. record { 0 = a }) (ipv4_of_text text)

abbrev pub addr6_of_text : List ℕ → Option Addr6
addr6_of_text text = option_map (λ a. record { 0 = a }) (ipv6_of_text text)

-- the prefixes of an address and a length, if it is in range
abbrev pub within4 : (a len : ℕ) (fits : Bool) → nat_le len 32 ≡ fits → Option Prefix4
within4 a len true h = Some (record { addr = record { 0 = a }; len = len; in_range = leb-true len 32 h })
within4 a len false h = None

abbrev pub within6 : (a len : ℕ) (fits : Bool) → nat_le len 128 ≡ fits → Option Prefix6
within6 a len true h = Some (record { addr = record { 0 = a }; len = len; in_range = leb-true len 128 h })
within6 a len false h = None

abbrev pub prefix4 : ℕ × ℕ → Option Prefix4
prefix4 parts = within4 parts.0 parts.1 (nat_le parts.1 32) refl

abbrev pub prefix6 : ℕ × ℕ → Option Prefix6
prefix6 parts = within6 parts.0 parts.1 (nat_le parts.1 128) refl

abbrev pub prefix4_of_text : List ℕ → Option Prefix4
prefix4_of_text text = option_and_then prefix4 (prefix_of_parts ipv4_of_text 32 (parts_at slash text))

abbrev pub prefix6_of_text : List ℕ → Option Prefix6
prefix6_of_text text = option_and_then prefix6 (prefix_of_parts ipv6_of_text 128 (parts_at slash text))
