-- The head at the front of bytes, where more bytes follow.
use Rattle.std.proofs.Common.{◌≡◌, ℕ, ◌≤◌, ◌<◌, List, ◌++◌, length, Bool, true, false, cond, nat_lt, Option, Some, None, refl, ap, sym, subst, ◌∙◌, arith, length-append}
use Rattle.std.proofs.lemmas.Bool.Decides.{nat_tests}
use Rattle.std.proofs.lemmas.List.{drop-append-le}
use Rattle.siit_capture.specs.Fronts.{Front, bad, cut, done, whole}
use Rattle.siit_capture.specs.Heads.{head_by_link, head_by_magic, head_front, is_version, link_of, magic_of, number32}
use Rattle.siit_capture.specs.declared.form.CaptureFault.TheVariants.{BadVersion}
use Rattle.siit_capture.specs.declared.form.Endian.TheVariants.{Big, Little}
use Rattle.siit_capture.specs.declared.form.Form.{Form}
use Rattle.siit_capture.specs.declared.form.LinkType.{LinkType}
use Rattle.siit_capture.specs.declared.form.Magic.{Magic}
use Rattle.siit_capture.proofs.Numbers.{number16_more, number32_more}

pub at_least : (n len : ℕ) → nat_lt len n ≡ false → n ≤ len
at_least n len h = grind (arith, nat_tests)

pub not_below : (n len : ℕ) → n ≤ len → nat_lt len n ≡ false
not_below n len h = grind (arith, nat_tests)

pub below : (n len : ℕ) → nat_lt len n ≡ true → len < n
below n len h = grind (arith, nat_tests)

pub long_too : (n : ℕ) (xs more : List ℕ) → n ≤ length xs → nat_lt (length (xs ++ more)) n ≡ false
long_too n xs more h = not_below n (length (xs ++ more)) (omega (arith, length-append xs more))

pub magic_more : (xs more : List ℕ) → 4 ≤ length xs → magic_of (xs ++ more) ≡ magic_of xs
magic_more xs more h = rw (number32_more Big xs more 0 h, number32_more Little xs more 0 h)

version_more : (magic : Magic) (xs more : List ℕ) → 24 ≤ length xs → is_version magic.endian (xs ++ more) ≡ is_version magic.endian xs
version_more magic xs more h = rw (number16_more magic.endian xs more 4 (omega arith), number16_more magic.endian xs more 6 (omega arith))

-- a front that was told stays so, whatever follows
abbrev pub with_more : {Item : Type 0} → Front Item → List ℕ → Front Item
with_more done more = done
with_more cut more = cut
with_more (bad fault) more = bad fault
with_more (whole item behind) more = whole item (behind ++ more)

-- the front is told: a whole item, or a fault
abbrev pub IsTold : {Item : Type 0} → Front Item → Type 0
IsTold done = ⊥
IsTold cut = ⊥
IsTold (bad fault) = Unit {0}
IsTold (whole item behind) = Unit {0}

by_link_more : (magic : Magic) (link : Option LinkType) (xs more : List ℕ) → 24 ≤ length xs → head_by_link magic link (xs ++ more) ≡ with_more (head_by_link magic link xs) more
by_link_more magic None xs more h = refl
by_link_more magic (Some link) xs more h =
    let form : Form = record { magic = magic; link = link } in
    ap (whole form) (drop-append-le 24 xs more h)

by_version_more : (version : Bool) (magic : Magic) (link : Option LinkType) (xs more : List ℕ) → 24 ≤ length xs
    → cond version (head_by_link magic link (xs ++ more)) (bad BadVersion) ≡ with_more (cond version (head_by_link magic link xs) (bad BadVersion)) more
by_version_more true magic link xs more h = by_link_more magic link xs more h
by_version_more false magic link xs more h = refl

not_short : (short : Bool) (front : Front Form) → IsTold (cond short cut front) → short ≡ false
not_short true front h = absurd h
not_short false front h = refl

by_magic_more : (magic : Option Magic) (xs more : List ℕ) → IsTold (head_by_magic magic xs) → head_by_magic magic (xs ++ more) ≡ with_more (head_by_magic magic xs) more
by_magic_more None xs more told = refl
by_magic_more (Some magic) xs more told =
    let long : nat_lt (length xs) 24 ≡ false = not_short (nat_lt (length xs) 24) (cond (is_version magic.endian xs) (head_by_link magic (link_of (number32 magic.endian xs 20)) xs) (bad BadVersion)) told in
    let h : 24 ≤ length xs = at_least 24 (length xs) long in
    rw (long, long_too 24 xs more h, version_more magic xs more h, number32_more magic.endian xs more 20 (omega arith))
    (by_version_more (is_version magic.endian xs) magic (link_of (number32 magic.endian xs 20)) xs more h)

pub head_more : (xs more : List ℕ) → IsTold (head_front xs) → head_front (xs ++ more) ≡ with_more (head_front xs) more
head_more xs more told =
    let long : nat_lt (length xs) 4 ≡ false = not_short (nat_lt (length xs) 4) (head_by_magic (magic_of xs) xs) told in
    let h : 4 ≤ length xs = at_least 4 (length xs) long in
    ap (λ b. cond b cut (head_by_magic (magic_of (xs ++ more)) (xs ++ more))) (long_too 4 xs more h)
    ∙ ap (λ magic. head_by_magic magic (xs ++ more)) (magic_more xs more h)
    ∙ by_magic_more (magic_of xs) xs more (let P : Bool → Type 0 = λ b. IsTold (cond b cut (head_by_magic (magic_of xs) xs)) in subst P long told)
    ∙ ap (λ b. with_more (cond b cut (head_by_magic (magic_of xs) xs)) more) (sym long)
