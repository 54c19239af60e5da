-- A body that was joined is parted into the same parts.
use Rattle.std.proofs.Common.{◌≡◌, ℕ, ◌+◌, ◌-◌, ◌*◌, ◌/◌, ◌%◌, ◌≤◌, ◌⊎◌, inl, inr, List, ◌++◌, length, take, drop, replicate, max, Bool, true, false, nat_le, ◌==◌, ◌&&◌, if◌then◌else◌, eq-eqb, Some, None, Option, ◌∙◌, ap, sym, refl, arith, length-append}
use Rattle.std.proofs.lemmas.List.{take_at, drop_at, length-replicate, get_or-append-add}
use Rattle.std.proofs.lemmas.Bool.{le-leb, ne_eqb}
use Rattle.siit_model.specs.Bytes.{field8}
use Rattle.siit_quoted.specs.Bodies.{Body, padding, padded, joined, parted, has_extension}
use Rattle.siit_quoted.specs.Laws.{IsExtension}

abbrev pub IsUnit : ℕ → Type 0
IsUnit unit = (unit ≡ 4) ⊎ (unit ≡ 8)

-- whole units, at least as many as there are bytes
pub units-enough : (unit len : ℕ) → IsUnit unit → len ≤ (len + (unit - 1)) / unit * unit
units-enough unit len (inl four) = rw four (omega arith)
units-enough unit len (inr eight) = rw eight (omega arith)

units-whole : (unit k : ℕ) → IsUnit unit → max 128 (k * unit) / unit * unit ≡ max 128 (k * unit)
units-whole unit k (inl four) = rw four (omega arith)
units-whole unit k (inr eight) = rw eight (omega arith)

pub padded-length : (unit : ℕ) (quote : List ℕ) → IsUnit unit → length (padded unit quote) ≡ max 128 ((length quote + (unit - 1)) / unit * unit)
padded-length unit quote is_unit =
    length-append quote (replicate (padding unit (length quote)) 0) ∙ ap (λ n. length quote + n) (length-replicate (padding unit (length quote)) 0)
    ∙ omega (arith, units-enough unit (length quote) is_unit)

tests-hold : (a b c d : Bool) (extension : List ℕ) → a ≡ true → b ≡ true → c ≡ true → d ≡ true
    → (if a && b && c && d then Some extension else None) ≡ Some extension
tests-hold a b c d extension one two three four = rw (one, two, three, four) refl

pub parted-joined : (unit : ℕ) (quote extension : List ℕ) → IsUnit unit → IsExtension extension
    → parted unit (joined unit quote extension).octet (joined unit quote extension).bytes ≡ record { part = padded unit quote; extension = Some extension }
parted-joined unit quote extension is_unit good =
    let p : List ℕ = padded unit quote in
    let size = padded-length unit quote is_unit in
    let units : ℕ = length p / unit in
    let whole : units * unit ≡ length p =
    ap (λ n. n / unit * unit) size ∙ units-whole unit ((length quote + (unit - 1)) / unit) is_unit ∙ sym size in
    let first : take (units * unit) (p ++ extension) ≡ p = take_at p extension (units * unit) (sym whole) in
    let last : drop (units * unit) (p ++ extension) ≡ extension = drop_at p extension (units * unit) (sym whole) in
    let some : (units == 0) ≡ false = ne_eqb units 0 (λ none. let zero_units : units * unit ≡ 0 = ap (λ n. n * unit) none ∙ omega arith in omega (arith, whole, size, zero_units)) in
    let both : length (p ++ extension) ≡ length p + length extension = length-append p extension in
    let least : nat_le 128 (units * unit) ≡ true = le-leb 128 (units * unit) (omega (arith, whole, size)) in
    let more : nat_le (units * unit + 4) (length (p ++ extension)) ≡ true = le-leb (units * unit + 4) (length (p ++ extension)) (omega (arith, whole, both, good.least)) in
    let words : ((length (p ++ extension) - units * unit) % 4 == 0) ≡ true = eq-eqb _ 0 (omega (arith, whole, both, good.words)) in
    let here : units * unit ≡ length p + 0 = omega (arith, whole) in
    let version : (field8 (p ++ extension) (units * unit) / 16 == 2) ≡ true =
    ap (λ n. field8 (p ++ extension) n / 16 == 2) here ∙ ap (λ n. n / 16 == 2) (get_or-append-add p extension 0 0) ∙ good.version in
    ap (λ (x : List ℕ). let b : Body = record { part = x; extension = if has_extension unit units (p ++ extension) then Some (drop (units * unit) (p ++ extension)) else None } in b)
    (rw some first)
    ∙ ap (λ (x : Option (List ℕ)). let b : Body = record { part = p; extension = x } in b)
    (tests-hold _ _ _ _ (drop (units * unit) (p ++ extension)) least more words version ∙ ap (λ l. Some l) last)
