-- The canonical texts of addresses and prefixes: decimal numbers between points, and RFC 5952 section 4.
use Rattle.std.specs.Prelude.{ℕ, ◌+◌, ◌/◌, ◌%◌, ◌^◌, ◌==◌, nat_lt, nat_le, max, if◌then◌else◌, List, [], ◌∷◌, ◌++◌, take, drop}
use Rattle.siit_addr.specs.Texts.{point, slash, colon}

-- the byte of a digit: 0 to 9, a to f (RFC 5952 4.3: lower case)
abbrev pub digit_byte : ℕ → ℕ
digit_byte digit = if nat_lt digit 10 then 48 + digit else 87 + digit

-- the digit of a unit, if the number reaches the unit (RFC 5952 4.1: no leading zeros)
abbrev pub digit_at : (base unit : ℕ) → ℕ → List ℕ
digit_at base unit n = if nat_lt n unit then [] else digit_byte (n / unit % base) ∷ []

-- a number below 1000 in decimal digits
abbrev pub decimal_text : ℕ → List ℕ
decimal_text n = digit_at 10 100 n ++ digit_at 10 10 n ++ digit_byte (n % 10) ∷ []

-- a group of 16 bits in hexadecimal digits
abbrev pub group_text : ℕ → List ℕ
group_text n = digit_at 16 4096 n ++ digit_at 16 256 n ++ digit_at 16 16 n ++ digit_byte (n % 16) ∷ []

abbrev pub ipv4_text : ℕ → List ℕ
ipv4_text a =
    decimal_text (a / 2 ^ 24 % 256) ++ point ∷ [] ++ decimal_text (a / 2 ^ 16 % 256) ++ point ∷ []
    ++ decimal_text (a / 2 ^ 8 % 256) ++ point ∷ [] ++ decimal_text (a % 256)

-- the eight groups of an address
abbrev pub groups_of_number : ℕ → List ℕ
groups_of_number a =
    (a / 2 ^ 112 % 65536) ∷ (a / 2 ^ 96 % 65536) ∷ (a / 2 ^ 80 % 65536) ∷ (a / 2 ^ 64 % 65536)
    ∷ (a / 2 ^ 48 % 65536) ∷ (a / 2 ^ 32 % 65536) ∷ (a / 2 ^ 16 % 65536) ∷ (a % 65536) ∷ []

-- groups with a colon before each
abbrev pub behind_colons : List ℕ → List ℕ
behind_colons [] = []
behind_colons (group ∷ groups) = colon ∷ (group_text group ++ behind_colons groups)

-- groups with a colon between them
abbrev pub joined : List ℕ → List ℕ
joined [] = []
joined (group ∷ groups) = group_text group ++ behind_colons groups

-- how many zero groups stand at the beginning
abbrev pub zeros_ahead : List ℕ → ℕ
zeros_ahead [] = 0
zeros_ahead (group ∷ groups) = if group == 0 then 1 + zeros_ahead groups else 0

-- the length of the longest run of zero groups
abbrev pub longest_run : List ℕ → ℕ
longest_run [] = 0
longest_run (group ∷ groups) = max (zeros_ahead (group ∷ groups)) (longest_run groups)

-- the first place from which on so many zero groups stand
abbrev pub first_run : ℕ → List ℕ → ℕ
first_run run [] = 0
first_run run (group ∷ groups) = if nat_le run (zeros_ahead (group ∷ groups)) then 0 else 1 + first_run run groups

-- Groups with "::" for the first of the longest runs of zero groups (RFC 5952 4.2.1, 4.2.3), unless that is shorter
-- than two (4.2.2)
abbrev pub groups_text : List ℕ → List ℕ
groups_text groups =
    let run = longest_run groups in
    let place = first_run run groups in
    if nat_lt run 2 then joined groups
    else joined (take place groups) ++ colon ∷ colon ∷ [] ++ joined (drop (place + run) groups)

abbrev pub ipv6_text : ℕ → List ℕ
ipv6_text a = groups_text (groups_of_number a)

abbrev pub prefix6_text : (address len : ℕ) → List ℕ
prefix6_text address len = ipv6_text address ++ slash ∷ [] ++ decimal_text len
