-- The pool of IPv4 addresses for ICMPv6 errors whose own source has no mapping (RFC 6791 section 3.2).
use Rattle.std.specs.Prelude.{ℕ, ◌%◌, List, length, Option}
use Rattle.std.specs.List.{slice_get}
use Rattle.siit_addr.specs.declared.addr.Addr4.{Addr4}

-- The source of such an error, by the identification of the IPv4 packet that it becomes; none only where the pool is
-- empty. That the identification picks the address is this project's own choice.
abbrev pub pool_source : List Addr4 → (identification : ℕ) → Option Addr4
pool_source pool identification = slice_get pool (identification % length pool)
