-- Numbers written in digits are read again.
use Rattle.std.proofs.Common.{◌≡◌, ℕ, ◌+◌, ◌*◌, ◌/◌, ◌%◌, ◌<◌, ◌≤◌, Bool, true, false, inl, inr, List, [], ◌∷◌, Option, Some, None, refl, ap, ◌∙◌, arith, eqb}
use Rattle.std.specs.Prelude.{option_map}
use Rattle.std.proofs.lemmas.Bool.{cases_lt, lt-ltb, le-ltb, le-leb, eqb-true, agree_below_at}
use Rattle.std.proofs.Math.Nat.{div-div-eq-div-mul}
use Rattle.siit_addr.specs.Texts.{decimal_of, group_of, hex_digit_of, octet_of, at_most}
use Rattle.siit_addr.specs.Canonical.{digit_byte, decimal_text, group_text}
use Rattle.siit_addr.proofs.NumberIn.{number_on}

-- a number below 256 in decimal digits: each is tried
abbrev is_number : Option ℕ → ℕ → Bool
is_number None n = false
is_number (Some m) n = eqb m n

some_number : (o : Option ℕ) (n : ℕ) → is_number o n ≡ true → o ≡ Some n
some_number None n e = cc
some_number (Some m) n e = ap Some (eqb-true m n e)

pub decimal_of-decimal_text : (n : ℕ) → n < 256 → decimal_of (decimal_text n) ≡ Some n
decimal_of-decimal_text n h =
    some_number (decimal_of (decimal_text n)) n
    (agree_below_at (λ k. is_number (decimal_of (decimal_text k)) k) (λ k. true) 256 n refl h)

pub octet_of-decimal_text : (n : ℕ) → n < 256 → octet_of (decimal_text n) ≡ Some n
octet_of-decimal_text n h = ap (at_most 255) (decimal_of-decimal_text n h) ∙ rw (le-leb n 255 (omega arith)) refl

-- a hexadecimal digit
pub hex_digit_of-digit_byte : (d : ℕ) → d < 16 → hex_digit_of (digit_byte d) ≡ Some d
hex_digit_of-digit_byte d h =
    some_number (hex_digit_of (digit_byte d)) d
    (agree_below_at (λ k. is_number (hex_digit_of (digit_byte k)) k) (λ k. true) 16 d refl h)

-- one more digit of a number
one_more : (n d : ℕ) (digits : List ℕ) → d < 16 → number_on 16 hex_digit_of (Some n) (digit_byte d ∷ digits) ≡ number_on 16 hex_digit_of (Some (n * 16 + d)) digits
one_more n d digits h =
    ap (λ o. number_on 16 hex_digit_of (option_map (λ d. n * 16 + d) o) digits) (hex_digit_of-digit_byte d h)

first_digit : (d : ℕ) (digits : List ℕ) → d < 16 → number_on 16 hex_digit_of (Some 0) (digit_byte d ∷ digits) ≡ number_on 16 hex_digit_of (Some d) digits
first_digit d digits h = one_more 0 d digits h ∙ ap (λ n. number_on 16 hex_digit_of (Some n) digits) (omega arith)

-- a number below 65536 in hexadecimal digits, by how many it has
group_of-1 : (n : ℕ) → n < 16 → group_of (group_text n) ≡ Some n
group_of-1 n h =
    rw (lt-ltb n 4096 (omega arith), lt-ltb n 256 (omega arith), lt-ltb n 16 h)
    (first_digit (n % 16) [] (omega arith) ∙ ap Some (omega arith))

group_of-2 : (n : ℕ) → 16 ≤ n → n < 256 → group_of (group_text n) ≡ Some n
group_of-2 n l h =
    rw (lt-ltb n 4096 (omega arith), lt-ltb n 256 h, le-ltb n 16 l)
    (first_digit (n / 16 % 16) (digit_byte (n % 16) ∷ []) (omega arith)
    ∙ one_more (n / 16 % 16) (n % 16) [] (omega arith) ∙ ap Some (omega arith))

group_of-3 : (n : ℕ) → 256 ≤ n → n < 4096 → group_of (group_text n) ≡ Some n
group_of-3 n l h =
    rw (lt-ltb n 4096 h, le-ltb n 256 l, le-ltb n 16 (omega arith))
    (first_digit (n / 256 % 16) (digit_byte (n / 16 % 16) ∷ digit_byte (n % 16) ∷ []) (omega arith)
    ∙ one_more (n / 256 % 16) (n / 16 % 16) (digit_byte (n % 16) ∷ []) (omega arith)
    ∙ one_more ((n / 256 % 16) * 16 + n / 16 % 16) (n % 16) [] (omega arith)
    ∙ ap Some (omega (arith, div-div-eq-div-mul n 16 16)))

group_of-4 : (n : ℕ) → 4096 ≤ n → n < 65536 → group_of (group_text n) ≡ Some n
group_of-4 n l h =
    rw (le-ltb n 4096 l, le-ltb n 256 (omega arith), le-ltb n 16 (omega arith))
    (first_digit (n / 4096 % 16) (digit_byte (n / 256 % 16) ∷ digit_byte (n / 16 % 16) ∷ digit_byte (n % 16) ∷ []) (omega arith)
    ∙ one_more (n / 4096 % 16) (n / 256 % 16) (digit_byte (n / 16 % 16) ∷ digit_byte (n % 16) ∷ []) (omega arith)
    ∙ one_more ((n / 4096 % 16) * 16 + n / 256 % 16) (n / 16 % 16) (digit_byte (n % 16) ∷ []) (omega arith)
    ∙ one_more (((n / 4096 % 16) * 16 + n / 256 % 16) * 16 + n / 16 % 16) (n % 16) [] (omega arith)
    ∙ ap Some (omega (arith, div-div-eq-div-mul n 16 16, div-div-eq-div-mul n 256 16)))

pub group_of-group_text : (n : ℕ) → n < 65536 → group_of (group_text n) ≡ Some n
group_of-group_text n h =
    elim (cases_lt n 256) as (λ _. group_of (group_text n) ≡ Some n) [
      | inl below ↦ elim (cases_lt n 16) as (λ _. group_of (group_text n) ≡ Some n) [
        | inl one ↦ group_of-1 n one
        | inr two ↦ group_of-2 n two below
      ]
      | inr above ↦ elim (cases_lt n 4096) as (λ _. group_of (group_text n) ≡ Some n) [
        | inl three ↦ group_of-3 n above three
        | inr four ↦ group_of-4 n four h
      ]
    ]
