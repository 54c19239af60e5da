-- Addresses as numbers, prefixes by their leading bits, and the ranges that are not global.
use Rattle.std.specs.Prelude.{ℕ, ◌+◌, ◌*◌, ◌-◌, ◌/◌, ◌%◌, ◌^◌, Bool, ◌||◌, ◌==◌, min}

-- two addresses of so many bits agree in their first len bits
abbrev pub agree : (width len : ℕ) → ℕ → ℕ → Bool
agree width len a b = (a / 2 ^ (width - len)) == (b / 2 ^ (width - len))

-- some address begins with the bits of both prefixes, since they agree as far as the shorter one goes
abbrev pub overlap : (width len1 a1 len2 a2 : ℕ) → Bool
overlap width len1 a1 len2 a2 = agree width (min len1 len2) a1 a2

-- no bit of an address past its first len bits is set
abbrev pub is_clear_behind : (width len : ℕ) → ℕ → Bool
is_clear_behind width len a = (a % 2 ^ (width - len)) == 0

-- the number of a dotted address
abbrev pub dotted : ℕ → ℕ → ℕ → ℕ → ℕ
dotted a b c d = ((a * 256 + b) * 256 + c) * 256 + d

-- The ranges that are not global. The list is this project's own: it has this network (0.0.0.0/8), the private,
-- loopback and link-local ranges, the protocol assignments (192.0.0.0/24), the documentation, benchmarking, multicast
-- (224.0.0.0/4) and reserved ranges, and not the shared range 100.64.0.0/10.
abbrev pub is_non_global_number : ℕ → Bool
is_non_global_number a =
    agree 32 8 a (dotted 0 0 0 0)
    || agree 32 8 a (dotted 10 0 0 0)
    || agree 32 8 a (dotted 127 0 0 0)
    || agree 32 16 a (dotted 169 254 0 0)
    || agree 32 12 a (dotted 172 16 0 0)
    || agree 32 24 a (dotted 192 0 0 0)
    || agree 32 24 a (dotted 192 0 2 0)
    || agree 32 16 a (dotted 192 168 0 0)
    || agree 32 15 a (dotted 198 18 0 0)
    || agree 32 24 a (dotted 198 51 100 0)
    || agree 32 24 a (dotted 203 0 113 0)
    || agree 32 4 a (dotted 224 0 0 0)
    || agree 32 4 a (dotted 240 0 0 0)
