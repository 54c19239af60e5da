-- Decimal numbers, as std parses them and as the definition reads them.
use Rattle.std.proofs.Common.{rules, ◌≡◌, ◌≢◌, ℕ, ◌+◌, ◌*◌, ◌-◌, ◌^◌, ◌<◌, ◌&&◌, ◌||◌, ◌==◌, not, List, [], ◌∷◌, length, slice_index, Bool, true, false, nat_le, Option, Some, None, Result, Ok, Err, refl, arith}
use Rattle.std.proofs.lemmas.Bool.{leb-true, lt-leb, le-leb}
use Rattle.std.proofs.lemmas.Bool.Decides.{nat_tests}
use Rattle.std.specs.Prelude.{if◌then◌else◌}
use Rattle.std.specs.Result.{result_ok, OkIff}
use Rattle.std.specs.Str.{all_ascii_digits}
use Rattle.std.specs.Str.Parse.{ParsesUnsigned}
use Rattle.std.proofs.lemmas.Str.Parse.{IsNumeralModel, numerals_by_fold, parse_plain}
use Rattle.siit_addr.specs.Texts.{at_most, decimal_digit_of, has_leading_zero}
use Rattle.siit_addr.proofs.NumberIn.{number_on, number_on-none}
use Rattle.siit_command.specs.Words.{number_of_text}

-- the number that digits write behind another one
abbrev read_on : ℕ → List ℕ → ℕ
read_on n [] = n
read_on n (digit ∷ digits) = read_on (n * 10 + (digit - 48)) digits

decimals : IsNumeralModel (λ digits. all_ascii_digits digits ≡ true) (read_on 0)
decimals = numerals_by_fold _ (search rules) read_on (search rules)

number_on-decimals : (n : ℕ) (text : List ℕ) → number_on 10 decimal_digit_of (Some n) text ≡ (if all_ascii_digits text then Some (read_on n text) else None)
number_on-decimals n [] = refl
number_on-decimals n (byte ∷ text) = by_test (nat_le 48 byte && nat_le byte 57) refl (number_on-decimals (n * 10 + (byte - 48)) text)
  where
    by_test : (is_digit : Bool) → (nat_le 48 byte && nat_le byte 57) ≡ is_digit
        → number_on 10 decimal_digit_of (Some (n * 10 + (byte - 48))) text ≡ (if all_ascii_digits text then Some (read_on (n * 10 + (byte - 48)) text) else None)
        → number_on 10 decimal_digit_of (Some n) (byte ∷ text) ≡ (if all_ascii_digits (byte ∷ text) then Some (read_on n (byte ∷ text)) else None)
    by_test true h more = rw h more
    by_test false h more = rw h (number_on-none 10 decimal_digit_of text)

-- the number, by the tests of its text
abbrev tested : (some zero digits : Bool) → ℕ → Option ℕ
tested some zero digits n = if some && not zero then at_most (2 ^ 64 - 1) (if digits then Some n else None) else None

number_is : (text : List ℕ) → number_of_text text ≡ tested (nat_le 1 (length text)) (has_leading_zero text) (all_ascii_digits text) (read_on 0 text)
number_is text = rw (number_on-decimals 0 text) refl

no_digits : (some zero digits plus : Bool) (n : ℕ) → (plus || zero) ≡ true → (plus ≡ true → digits ≡ false) → None ≡ tested some zero digits n
no_digits false zero digits plus n h sign = refl
no_digits true true digits plus n h sign = refl
no_digits true false digits true n h sign = rw (sign refl) refl
no_digits true false digits false n h sign = cc

plus_first : (text : List ℕ) → (slice_index text 0 == 43) ≡ true → all_ascii_digits text ≡ false
plus_first [] h = cc
plus_first (byte ∷ text) h = let same : byte ≡ 43 = grind (arith, nat_tests) in rw same refl

-- a text with a sign or a leading zero is no number
pub number_marked : (text : List ℕ) → ((slice_index text 0 == 43) || has_leading_zero text) ≡ true → None ≡ number_of_text text
number_marked text h = rw (number_is text) (no_digits _ _ _ (slice_index text 0 == 43) (read_on 0 text) h (plus_first text))

accepted : (x n : ℕ) (some zero digits : Bool) → zero ≡ false → digits ≡ true → some ≡ true → n < 2 ^ 64 → x ≡ n → Some x ≡ tested some zero digits n
accepted x n some zero digits no_zero is_digits is_some within same = rw (no_zero, is_digits, is_some, le-leb n (2 ^ 64 - 1) (omega arith), same) refl

refused : (n : ℕ) (some zero digits : Bool) → (digits ≡ true → some ≡ true → n < 2 ^ 64 → ⊥) → None ≡ tested some zero digits n
refused n false zero digits none = refl
refused n true true digits none = refl
refused n true false false none = refl
refused n true false true none =
    let above : ¬ (n < 2 ^ 64) = none refl refl in
    rw (lt-leb n (2 ^ 64 - 1) (omega arith)) refl

-- any other is the number that is parsed
pub number_parsed : {E : Type 0} (text : List ℕ) (parsed : Result ℕ E) → ParsesUnsigned 64 10 text parsed
    → ((slice_index text 0 == 43) || has_leading_zero text) ≡ false → result_ok parsed ≡ number_of_text text
number_parsed {E = E} text parsed h unmarked =
    rw (number_is text) (by_result parsed (parse_plain decimals 64 text parsed h (no_plus _ _ (tests _ _ unmarked).0)))
  where
    tests : (a b : Bool) → (a || b) ≡ false → (a ≡ false) × (b ≡ false)
    tests true b e = cc
    tests false b e = (refl, e)

    no_plus : (a b : ℕ) → (a == b) ≡ false → a ≢ b
    no_plus a b e = grind (arith, nat_tests)

    by_result : (r : Result ℕ E) → OkIff r ((all_ascii_digits text ≡ true) × (0 < length text) × (read_on 0 text < 2 ^ 64)) (read_on 0 text)
        → result_ok r ≡ tested (nat_le 1 (length text)) (has_leading_zero text) (all_ascii_digits text) (read_on 0 text)
    by_result (Ok x) facts = accepted x _ _ _ _ (tests _ _ unmarked).1 facts.0.0 (le-leb 1 (length text) facts.0.1) facts.0.2 facts.1
    by_result (Err e) none = refused _ _ _ _ (λ digits some within. none (digits, leb-true 1 (length text) some, within))

pub ruleset number_read = (number_marked, number_parsed)
