-- A text begins with no number that is no byte.
use Rattle.std.proofs.Common.{◌≡◌, ◌≢◌, inl, inr, ℕ, ◌<◌, List, [], ◌∷◌, ◌++◌, get_or, true, false, IsUtf8, refl, ap, sym, ◌∙◌, arith, bytes_eq, ◌==◌}
use Rattle.std.proofs.lemmas.Bool.Decides.{nat_tests}
use Rattle.std.proofs.lemmas.Slice.Eq.{bytes_eq-Decides}
use lib.Utf8.{encode, encodes, scalar, scalars, scalar_cases}
use Rattle.siit_making.specs.Through.{capture, file, marked_sight, plain_sight}

first_of_char : (c : ℕ) (rest : List ℕ) → scalar c ≡ true → get_or (encode c ++ rest) 0 0 < 256
unfolding encode
first_of_char c rest is = elim (scalar_cases c is) [
  | inl low ↦ grind (arith, nat_tests)
  | inr high ↦ grind (arith, nat_tests)
]

first_byte : (cs : List ℕ) (first : ℕ) (rest : List ℕ) → scalars cs ≡ true → encodes cs ≡ first ∷ rest → first < 256
first_byte [] first rest scalar is = absurd (cc)
first_byte (c ∷ cs) first rest is spelled =
    let one : scalar c ≡ true = grind arith in
    let same : get_or (encode c ++ encodes cs) 0 0 ≡ first = ap (λ xs. get_or xs 0 0) spelled in
    omega (arith, same, first_of_char c (encodes cs) one)

pub text_begins : (first : ℕ) (rest : List ℕ) → IsUtf8 (first ∷ rest) → first < 256
text_begins first rest text = first_byte text.0 first rest text.1.0 text.1.1

isnt : (first mark : ℕ) → first < mark → (first == mark) ≡ false
isnt first mark below = grind (arith, nat_tests)

-- A text is no mark.
pub sight_of_text : (number : ℕ) (name q : List ℕ) → IsUtf8 q → marked_sight number name q ≡ plain_sight name q
sight_of_text number name [] text = refl
sight_of_text number name (first ∷ rest) text = rw (isnt first 256 (text_begins first rest text)) refl

-- what a text stands for, by whether it is that name
pub sight_of_other : (number : ℕ) (name q : List ℕ) → IsUtf8 q → bytes_eq q name ≡ false → marked_sight number name q ≡ file q
sight_of_other number name q text other = sight_of_text number name q text ∙ rw other refl

pub sight_of_name : (number : ℕ) (name q : List ℕ) → IsUtf8 q → bytes_eq q name ≡ true → marked_sight number name q ≡ capture
sight_of_name number name q text same = sight_of_text number name q text ∙ rw same refl

pub isnt_name : (name q : List ℕ) → bytes_eq q name ≡ false → name ≢ q
isnt_name name q other e =
    let same : bytes_eq q name ≡ true = (bytes_eq-Decides q name).1 (sym e) in
    cc
