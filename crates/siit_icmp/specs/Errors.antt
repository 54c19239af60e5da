-- Which ICMP messages are errors.
use Rattle.std.specs.Prelude.{ℕ, Bool, ◌||◌, ◌==◌, nat_lt}

-- ICMPv4: Destination Unreachable, Source Quench, Redirect, Time Exceeded and Parameter Problem (RFC 1122 section
-- 3.2.2)
abbrev pub is_error_kind4 : ℕ → Bool
is_error_kind4 kind = (kind == 3) || (kind == 4) || (kind == 5) || (kind == 11) || (kind == 12)

-- ICMPv6: the types whose high bit is 0 (RFC 4443 section 2.1)
abbrev pub is_error_kind6 : ℕ → Bool
is_error_kind6 kind = nat_lt kind 128
