-- The texts that are read as IPv4 and IPv6 addresses and prefixes (RFC 4291 2.2 and 2.3, RFC 4632 3.1). A text is the
-- list of its bytes.
use Rattle.std.specs.Prelude.{ℕ, ◌+◌, ◌*◌, ◌-◌, ◌/◌, ◌%◌, Bool, true, false, ◌&&◌, ◌==◌, nat_le, if◌then◌else◌, List, [], ◌∷◌, ◌++◌, length, replicate, fold, Option, Some, None, option_map, option_and_then}
use Rattle.std.specs.Option.{option_or}

-- the bytes of '.', '/' and ':'
abbrev pub point : ℕ
point = 46

abbrev pub slash : ℕ
slash = 47

abbrev pub colon : ℕ
colon = 58

-- what f makes of two values, if both are there
abbrev pub both_with : {A B C : Type 0} → (A → B → C) → Option A → Option B → Option C
both_with f None second = None
both_with f (Some a) second = option_map (f a) second

-- the number, if it is not above the limit
abbrev pub at_most : ℕ → Option ℕ → Option ℕ
at_most limit None = None
at_most limit (Some n) = if nat_le n limit then Some n else None

-- the parts with one more byte at the beginning of the first
abbrev pub with_byte : ℕ → List (List ℕ) → List (List ℕ)
with_byte byte [] = (byte ∷ []) ∷ []
with_byte byte (part ∷ parts) = (byte ∷ part) ∷ parts

-- the parts of a text between its separators, one more than it has separators
abbrev pub parts_at : ℕ → List ℕ → List (List ℕ)
parts_at separator [] = [] ∷ []
parts_at separator (byte ∷ text) =
    if byte == separator then [] ∷ parts_at separator text else with_byte byte (parts_at separator text)

-- the number that digits write in a base, the highest first
abbrev pub number_in : {A : Type 0} → ℕ → (A → Option ℕ) → List A → Option ℕ
number_in base digit_of digits =
    fold (λ number digit. both_with (λ n d. n * base + d) number (digit_of digit)) (Some 0) digits

-- the digit that a byte is: 0 to 9
abbrev pub decimal_digit_of : ℕ → Option ℕ
decimal_digit_of byte = if nat_le 48 byte && nat_le byte 57 then Some (byte - 48) else None

-- the digit that a byte is: 0 to 9, a to f or A to F
abbrev pub hex_digit_of : ℕ → Option ℕ
hex_digit_of byte =
    if nat_le 48 byte && nat_le byte 57 then Some (byte - 48)
    else if nat_le 97 byte && nat_le byte 102 then Some (byte - 87)
    else if nat_le 65 byte && nat_le byte 70 then Some (byte - 55)
    else None

-- whether a text begins with a 0 that does not stand alone
abbrev pub has_leading_zero : List ℕ → Bool
has_leading_zero [] = false
has_leading_zero (byte ∷ []) = false
has_leading_zero (byte ∷ next ∷ text) = byte == 48

-- one to three decimal digits with no leading zero
abbrev pub decimal_of : List ℕ → Option ℕ
decimal_of text =
    if has_leading_zero text then None
    else if nat_le 1 (length text) && nat_le (length text) 3 then number_in 10 decimal_digit_of text
    else None

-- one to four hexadecimal digits (RFC 4291 2.2, form 1)
abbrev pub group_of : List ℕ → Option ℕ
group_of text =
    if nat_le 1 (length text) && nat_le (length text) 4 then number_in 16 hex_digit_of text else None

-- an IPv4 address: four decimal numbers 0 to 255 between points
abbrev pub octet_of : List ℕ → Option ℕ
octet_of text = at_most 255 (decimal_of text)

abbrev pub ipv4_of_parts : List (List ℕ) → Option ℕ
ipv4_of_parts parts = if length parts == 4 then number_in 256 octet_of parts else None

abbrev pub ipv4_of_text : List ℕ → Option ℕ
ipv4_of_text text = ipv4_of_parts (parts_at point text)

-- the groups that a last part writes: one, or two as an IPv4 text where the address ends there (RFC 4291 2.2, form 3)
abbrev pub last_groups_of : Bool → List ℕ → Option (List ℕ)
last_groups_of false part = option_map (λ group. group ∷ []) (group_of part)
last_groups_of true part =
    option_or (option_map (λ group. group ∷ []) (group_of part))
    (option_map (λ a. (a / 65536) ∷ (a % 65536) ∷ []) (ipv4_of_text part))

abbrev pub groups_of_parts : Bool → List (List ℕ) → Option (List ℕ)
groups_of_parts at_end [] = Some []
groups_of_parts at_end (part ∷ []) = last_groups_of at_end part
groups_of_parts at_end (part ∷ next ∷ parts) =
    both_with (λ group groups. group ∷ groups) (group_of part) (groups_of_parts at_end (next ∷ parts))

-- the groups that a text writes between colons, none for an empty text; at_end says whether the address ends with this
-- text
abbrev pub groups_of : Bool → List ℕ → Option (List ℕ)
groups_of at_end [] = Some []
groups_of at_end (byte ∷ text) = groups_of_parts at_end (parts_at colon (byte ∷ text))

-- the text before the first "::" and the text behind it
abbrev pub around_gap : List ℕ → Option (List ℕ × List ℕ)
around_gap [] = None
around_gap (byte ∷ []) = None
around_gap (byte ∷ next ∷ text) =
    if byte == colon && next == colon then Some ([], text)
    else option_map (λ sides. (byte ∷ sides.0, sides.1)) (around_gap (next ∷ text))

-- "::" stands for one zero group and as many more as are missing from eight
abbrev pub with_gap : List ℕ → List ℕ → List ℕ
with_gap left right = left ++ (0 ∷ replicate (7 - (length left + length right)) 0) ++ right

-- the number of eight groups of 16 bits
abbrev pub number_of_groups : List ℕ → ℕ
number_of_groups groups = fold (λ number group. number * 65536 + group) 0 groups

abbrev pub ipv6_of_groups : List ℕ → Option ℕ
ipv6_of_groups groups = if length groups == 8 then Some (number_of_groups groups) else None

-- an IPv6 address: eight groups, or fewer groups round one "::" (RFC 4291 2.2)
abbrev pub ipv6_of_sides : List ℕ → Option (List ℕ × List ℕ) → Option ℕ
ipv6_of_sides text None = option_and_then ipv6_of_groups (groups_of true text)
ipv6_of_sides text (Some sides) =
    option_and_then ipv6_of_groups (both_with with_gap (groups_of false sides.0) (groups_of true sides.1))

abbrev pub ipv6_of_text : List ℕ → Option ℕ
ipv6_of_text text = ipv6_of_sides text (around_gap text)

-- the address and the length of a prefix: an address, a slash and a decimal length with a limit (RFC 4291 2.3); bits
-- behind the length may be set
abbrev pub prefix_of_parts : (List ℕ → Option ℕ) → ℕ → List (List ℕ) → Option (ℕ × ℕ)
prefix_of_parts address_of limit (address ∷ len ∷ []) =
    both_with (λ a l. (a, l)) (address_of address) (at_most limit (decimal_of len))
prefix_of_parts address_of limit _ = None
