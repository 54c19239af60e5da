-- Numbers that are read digit by digit.
use Rattle.std.proofs.Common.{◌≡◌, ℕ, suc, ◌+◌, ◌*◌, ◌<◌, List, [], ◌∷◌, length, get_or, drop, Option, Some, None, refl, ap, ◌∙◌}
use Rattle.std.specs.Prelude.{fold, option_map}
use Rattle.std.proofs.Math.Seq.{drop-cons}
use Rattle.siit_addr.specs.Texts.{both_with}

-- the number that more digits make of one that is read
abbrev pub number_on : {A : Type 0} → ℕ → (A → Option ℕ) → Option ℕ → List A → Option ℕ
number_on base digit_of number digits =
    fold (λ n digit. both_with (λ n d. n * base + d) n (digit_of digit)) number digits

pub number_on-none : {A : Type 0} (base : ℕ) (digit_of : A → Option ℕ) (digits : List A) → number_on base digit_of None digits ≡ None
number_on-none base digit_of [] = refl
number_on-none base digit_of (digit ∷ digits) = number_on-none base digit_of digits

-- one more digit, or the end at a byte that is none
pub number_on-digit : (base : ℕ) (digit_of : ℕ → Option ℕ) (n d i : ℕ) (text : List ℕ) → i < length text → digit_of (get_or text i 0) ≡ Some d → number_on base digit_of (Some n) (drop i text) ≡ number_on base digit_of (Some (n * base + d)) (drop (suc i) text)
number_on-digit base digit_of n d i text lt e = rw (drop-cons text i 0 lt) (ap (λ o. number_on base digit_of (option_map (λ d. n * base + d) o) (drop (suc i) text)) e)

pub number_on-no_digit : (base : ℕ) (digit_of : ℕ → Option ℕ) (n i : ℕ) (text : List ℕ) → i < length text → digit_of (get_or text i 0) ≡ None → number_on base digit_of (Some n) (drop i text) ≡ None
number_on-no_digit base digit_of n i text lt e = rw (drop-cons text i 0 lt) (ap (λ o. number_on base digit_of (option_map (λ d. n * base + d) o) (drop (suc i) text)) e ∙ number_on-none base digit_of (drop (suc i) text))

pub ruleset digit_by_digit = (number_on-none, number_on-digit, number_on-no_digit)
