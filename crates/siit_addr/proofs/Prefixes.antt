-- Prefixes made of their parts.
use Rattle.std.proofs.Common.{◌≡◌, ℕ, ◌≤◌, Bool, true, false, nat_le, le-leb, Option, Some, None, option_map, option_and_then, refl, sym, ap, leb-true}
use Rattle.std.proofs.Math.Bridge.{le_prop}
use Rattle.siit_addr.specs.declared.addr.Addr4.{Addr4}
use Rattle.siit_addr.specs.declared.addr.Addr6.{Addr6}
use Rattle.siit_addr.specs.declared.addr.Prefix4.{Prefix4}
use Rattle.siit_addr.specs.declared.addr.Prefix6.{Prefix6}
use Rattle.siit_addr.specs.Prefixes.{prefix4, prefix6, within4, within6}

-- a prefix is the one of its parts
within4_same : (p : Prefix4) (fits : Bool) (h : nat_le p.len 32 ≡ fits) → within4 p.addr.0 p.len fits h ≡ Some p
within4_same p true h =
    ap (λ (i : p.len ≤ 32). Some (record { addr = p.addr; len = p.len; in_range = i })) (le_prop (leb-true p.len 32 h) p.in_range)
within4_same p false h = let fits : nat_le p.len 32 ≡ true = le-leb p.len 32 p.in_range in cc

pub prefix4_from_parts : (r : Option Prefix4) (parts : Option (ℕ × ℕ)) → option_map (λ p. (p.addr.0, p.len)) r ≡ parts → r ≡ option_and_then prefix4 parts
prefix4_from_parts None parts e = rw (← e) refl
prefix4_from_parts (Some p) parts e = rw (← e) (sym (within4_same p _ refl))

pub within6_same : (p : Prefix6) (fits : Bool) (h : nat_le p.len 128 ≡ fits) → within6 p.addr.0 p.len fits h ≡ Some p
within6_same p true h =
    ap (λ (i : p.len ≤ 128). Some (record { addr = p.addr; len = p.len; in_range = i })) (le_prop (leb-true p.len 128 h) p.in_range)
within6_same p false h = let fits : nat_le p.len 128 ≡ true = le-leb p.len 128 p.in_range in cc

pub prefix6_from_parts : (r : Option Prefix6) (parts : Option (ℕ × ℕ)) → option_map (λ p. (p.addr.0, p.len)) r ≡ parts → r ≡ option_and_then prefix6 parts
prefix6_from_parts None parts e = rw (← e) refl
prefix6_from_parts (Some p) parts e = rw (← e) (sym (within6_same p _ refl))

-- the number of an address that was made of one
pub number4 : (r : Option Addr4) (number : Option ℕ) → r ≡ option_map (λ a. record { 0 = a }) number → option_map (λ a. a.0) r ≡ number
number4 None None h = refl
number4 None (Some n) h = absurd cc
number4 (Some a) None h = absurd cc
number4 (Some a) (Some n) h = ap (option_map (λ (a : Addr4). a.0)) h

pub number6 : (r : Option Addr6) (number : Option ℕ) → r ≡ option_map (λ a. record { 0 = a }) number → option_map (λ a. a.0) r ≡ number
number6 None None h = refl
number6 None (Some n) h = absurd cc
number6 (Some a) None h = absurd cc
number6 (Some a) (Some n) h = ap (option_map (λ (a : Addr6). a.0)) h
