-- Decimal digits that are written one by one.
use Rattle.std.proofs.Common.{◌≡◌, ℕ, ◌+◌, ◌/◌, ◌%◌, ◌^◌, ◌<◌, ◌≤◌, List, [], ◌∷◌, ◌++◌, length, ap, sym, ◌∙◌, arith, append_assoc, length-append}
use Rattle.std.specs.Fmt.{decimal}
use Rattle.std.proofs.lemmas.Fmt.{decimal_digit, decimal_step, length-decimal-le}

pub one_digit : (before after : List ℕ) (n : ℕ) → n < 10 → after ≡ before ++ (48 + n) ∷ [] → after ≡ before ++ decimal n
one_digit before after n h e = e ∙ ap (λ ds. before ++ ds) (sym (decimal_digit n h))

pub one_more_digit : (before mid after : List ℕ) (n : ℕ) → 10 ≤ n → n < 2 ^ 64 → mid ≡ before ++ decimal (n / 10) → after ≡ mid ++ (48 + n % 10) ∷ [] → after ≡ before ++ decimal n
one_more_digit before mid after n h small e more =
    more ∙ ap (λ ds. ds ++ (48 + n % 10) ∷ []) e ∙ append_assoc before (decimal (n / 10)) ((48 + n % 10) ∷ []) ∙ ap (λ ds. before ++ ds) (sym (decimal_step n h small))

pub number_length : (before after : List ℕ) (n : ℕ) → n < 2 ^ 64 → after ≡ before ++ decimal n → length after ≤ length before + 20
number_length before after n small e = omega (arith, ap length e, length-append before (decimal n), length-decimal-le 20 n (omega arith) (omega arith) small)

-- behind less than the whole number there is room for a digit
pub digit_room : (before mid : List ℕ) (n room : ℕ) → 10 ≤ n → n < 2 ^ 64 → mid ≡ before ++ decimal (n / 10) → length before + 20 ≤ room → length mid + 1 ≤ room
digit_room before mid n room h small e fits =
    omega (arith, ap length e, length-append before (decimal (n / 10)), length-append (decimal (n / 10)) ((48 + n % 10) ∷ []), ap length (decimal_step n h small), length-decimal-le 20 n (omega arith) (omega arith) small)

pub ruleset number_rules = (one_digit, one_more_digit, number_length, digit_room)
