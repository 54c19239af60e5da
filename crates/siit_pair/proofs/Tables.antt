-- Prefixes and tables that are compared field by field.
use Rattle.std.proofs.Common.{◌≡◌, ℕ, ◌<◌, ◌≤◌, List, [], ◌∷◌, length, get_or, Bool, true, ◌&&◌, ◌==◌, ◌∙◌, ap, refl, subst, arith}
use Rattle.std.proofs.Math.Bridge.{le_prop}
use Rattle.std.proofs.lemmas.Bool.{and_parts, and_from, eqb-true, eq-eqb}
use Rattle.siit_addr.specs.declared.addr.Addr4.{Addr4}
use Rattle.siit_addr.specs.declared.addr.Addr6.{Addr6}
use Rattle.siit_addr.specs.declared.addr.Prefix4.{Prefix4}
use Rattle.siit_addr.specs.declared.addr.Prefix6.{Prefix6}
use Rattle.siit_eamt.specs.declared.entry.Eam.{Eam}
use lib.Pointwise.{pointwise}

-- two prefixes of one address and one length are one
abbrev prefix4 : Addr4 → (n : ℕ) → n ≤ 32 → Prefix4
prefix4 a n p = record { addr = a; len = n; in_range = p }

abbrev prefix6 : Addr6 → (n : ℕ) → n ≤ 128 → Prefix6
prefix6 a n p = record { addr = a; len = n; in_range = p }

one-length4 : (a : Addr4) (n m : ℕ) (p : n ≤ 32) (q : m ≤ 32) → n ≡ m → prefix4 a n p ≡ prefix4 a m q
one-length4 a n m p q f = subst (λ k. (r : k ≤ 32) → prefix4 a n p ≡ prefix4 a k r) f (λ r. ap (λ (i : n ≤ 32). prefix4 a n i) (le_prop p r)) q

one-length6 : (a : Addr6) (n m : ℕ) (p : n ≤ 128) (q : m ≤ 128) → n ≡ m → prefix6 a n p ≡ prefix6 a m q
one-length6 a n m p q f = subst (λ k. (r : k ≤ 128) → prefix6 a n p ≡ prefix6 a k r) f (λ r. ap (λ (i : n ≤ 128). prefix6 a n i) (le_prop p r)) q

pub one-prefix4 : (a b : Prefix4) → a.addr.0 ≡ b.addr.0 → a.len ≡ b.len → a ≡ b
one-prefix4 a b e f =
    ap (λ (x : ℕ). prefix4 (record { 0 = x }) a.len a.in_range) e ∙ one-length4 b.addr a.len b.len a.in_range b.in_range f

pub one-prefix6 : (a b : Prefix6) → a.addr.0 ≡ b.addr.0 → a.len ≡ b.len → a ≡ b
one-prefix6 a b e f =
    ap (λ (x : ℕ). prefix6 (record { 0 = x }) a.len a.in_range) e ∙ one-length6 b.addr a.len b.len a.in_range b.in_range f

-- what the comparison of two prefixes tells
abbrev same4 : Prefix4 → Prefix4 → Bool
same4 a b = (a.addr.0 == b.addr.0) && (a.len == b.len)

abbrev pub same6 : Prefix6 → Prefix6 → Bool
same6 a b = (a.addr.0 == b.addr.0) && (a.len == b.len)

told4 : (a b : Prefix4) → same4 a b ≡ true → a ≡ b
told4 a b e = let both = and_parts (a.addr.0 == b.addr.0) (a.len == b.len) e in one-prefix4 a b (eqb-true a.addr.0 b.addr.0 both.0) (eqb-true a.len b.len both.1)

pub told6 : (a b : Prefix6) → same6 a b ≡ true → a ≡ b
told6 a b e = let both = and_parts (a.addr.0 == b.addr.0) (a.len == b.len) e in one-prefix6 a b (eqb-true a.addr.0 b.addr.0 both.0) (eqb-true a.len b.len both.1)

itself : (n : ℕ) → (n == n) ≡ true
itself n = eq-eqb n n refl

self4 : (a : Prefix4) → same4 a a ≡ true
self4 a = and_from (a.addr.0 == a.addr.0) (a.len == a.len) (itself a.addr.0) (itself a.len)

pub self6 : (a : Prefix6) → same6 a a ≡ true
self6 a = and_from (a.addr.0 == a.addr.0) (a.len == a.len) (itself a.addr.0) (itself a.len)

-- the same of entries and of tables
abbrev pub same_entry : Eam → Eam → Bool
same_entry a b = same4 a.p4 b.p4 && same6 a.p6 b.p6

told-entry : (a b : Eam) → same_entry a b ≡ true → a ≡ b
told-entry a b e =
    let both = and_parts (same4 a.p4 b.p4) (same6 a.p6 b.p6) e in
    ap (λ p. record a { p4 = p }) (told4 a.p4 b.p4 both.0) ∙ ap (λ p. record b { p6 = p }) (told6 a.p6 b.p6 both.1)

self-entry : (a : Eam) → same_entry a a ≡ true
self-entry a = and_from (same4 a.p4 a.p4) (same6 a.p6 a.p6) (self4 a.p4) (self6 a.p6)

pub told-entries : (a b : List Eam) → pointwise same_entry a b ≡ true → a ≡ b
told-entries [] [] e = refl
told-entries [] (y ∷ ys) e = cc
told-entries (x ∷ xs) [] e = cc
told-entries (x ∷ xs) (y ∷ ys) e =
    let both = and_parts (same_entry x y) (pointwise same_entry xs ys) e in
    ap (λ z. z ∷ xs) (told-entry x y both.0) ∙ ap (λ l. y ∷ l) (told-entries xs ys both.1)

pub self-entries : (a : List Eam) → pointwise same_entry a a ≡ true
self-entries [] = refl
self-entries (x ∷ xs) = and_from (same_entry x x) (pointwise same_entry xs xs) (self-entry x) (self-entries xs)

-- a list of two
pub two : {X : Type 0} (xs : List X) (a b : X) → 2 ≤ length xs → length xs < 3 → a ≡ get_or xs 0 a → b ≡ get_or xs 1 b → xs ≡ a ∷ b ∷ []
two [] a b least most first second = absurd (omega arith)
two (x ∷ []) a b least most first second = absurd (omega arith)
two (x ∷ y ∷ []) a b least most first second = rw (first, second) refl
two (x ∷ y ∷ z ∷ xs) a b least most first second = absurd (omega arith)
