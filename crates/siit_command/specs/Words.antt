-- What single words after a program's name are: names of files, numbers and addresses.
use Rattle.std.specs.Prelude.{ℕ, ◌-◌, ◌^◌, List, [], ◌∷◌, length, codes, Bool, false, not, ◌&&◌, ◌||◌, nat_le, if◌then◌else◌, Option, None, option_map}
use Rattle.std.specs.Str.{bytes_eq}
use Rattle.siit_addr.specs.Texts.{at_most, decimal_digit_of, has_leading_zero, ipv4_of_text, ipv6_of_text, number_in}
use Rattle.std.specs.Option.{option_or}

-- an address of either family
pub data Address : Type 0 where
  four : ℕ → Address
  six : ℕ → Address

-- the word is one of these
abbrev pub is_among : List ℕ → List (List ℕ) → Bool
is_among word [] = false
is_among word (other ∷ others) = bytes_eq word other || is_among word others

-- a name that an output may have beside the other names of files
abbrev pub is_output_name : (output : List ℕ) (others : List (List ℕ)) → Bool
is_output_name output others = not (bytes_eq output (codes "-")) && not (is_among output others)

-- a number below 2^64 in decimal digits, without sign or leading zeros
abbrev pub number_of_text : List ℕ → Option ℕ
number_of_text text =
    if nat_le 1 (length text) && not (has_leading_zero text)
    then at_most (2 ^ 64 - 1) (number_in 10 decimal_digit_of text)
    else None

abbrev pub address_of_text : List ℕ → Option Address
address_of_text text = option_or (option_map four (ipv4_of_text text)) (option_map six (ipv6_of_text text))
