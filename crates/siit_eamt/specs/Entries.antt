-- Explicit address mappings (RFC 7757 section 3). Addresses are numbers, their first octet the highest.
use Rattle.std.specs.Prelude.{ℕ, ◌+◌, ◌*◌, ◌-◌, ◌/◌, ◌^◌, List, Bool, not, ◌&&◌, ◌||◌, nat_le, Option, option_map}
use Rattle.std.specs.List.{list_all, find, enumerate_from}
use Rattle.siit_addr.specs.Addresses.{agree, is_clear_behind}
use Rattle.siit_eamt.specs.declared.entry.Eam.{Eam}

abbrev pub holds4 : ℕ → Eam → Bool
holds4 a entry = agree 32 entry.p4.len a entry.p4.addr.0

abbrev pub holds6 : ℕ → Eam → Bool
holds6 x entry = agree 128 entry.p6.len x entry.p6.addr.0

abbrev pub length4 : Eam → ℕ
length4 entry = entry.p4.len

abbrev pub length6 : Eam → ℕ
length6 entry = entry.p6.len

-- how many IPv6 addresses stand for one IPv4 address
abbrev pub weight : Eam → ℕ
weight entry = 2 ^ (96 + length4 entry - length6 entry)

-- The IPv6 address of an IPv4 address that the entry holds: the bits behind the IPv4 prefix follow the IPv6 prefix, and
-- zeros fill the rest (RFC 7757 section 3.3.1).
abbrev pub up : Eam → ℕ → ℕ
up entry a = entry.p6.addr.0 + (a - entry.p4.addr.0) * weight entry

-- the IPv4 address of an IPv6 address that the entry holds, the bits past those being dropped (RFC 7757 section 3.3.2)
abbrev pub down : Eam → ℕ → ℕ
down entry x = entry.p4.addr.0 + (x - entry.p6.addr.0) / weight entry

-- no bit past a length is set
abbrev pub is_clean : Eam → Bool
is_clean entry =
    is_clear_behind 32 (length4 entry) entry.p4.addr.0 && is_clear_behind 128 (length6 entry) entry.p6.addr.0

-- the IPv4 suffix fits behind the IPv6 prefix (RFC 7757 section 3.2)
abbrev pub has_room : Eam → Bool
has_room entry = nat_le (length6 entry) (96 + length4 entry)

abbrev pub is_good : Eam → Bool
is_good entry = is_clean entry && has_room entry

-- the entry holds the address, and no entry that does so is longer
abbrev pub is_longest : (Eam → Bool) → (Eam → ℕ) → List Eam → Eam → Bool
is_longest holds len entries entry =
    holds entry && list_all (λ other. not (holds other) || nat_le (len other) (len entry)) entries

-- the first entry that is longest among all that hold the address, with its place
abbrev pub longest : (Eam → Bool) → (Eam → ℕ) → List Eam → Option (ℕ × Eam)
longest holds len entries = find (λ placed. is_longest holds len entries placed.1) (enumerate_from 0 entries)

-- the entry of an IPv4 address and that of an IPv6 address (RFC 7757 section 3.3)
abbrev pub best4 : List Eam → ℕ → Option (ℕ × Eam)
best4 entries a = longest (holds4 a) length4 entries

abbrev pub best6 : List Eam → ℕ → Option (ℕ × Eam)
best6 entries x = longest (holds6 x) length6 entries

-- where an address goes: the place of its entry, and the address of the other family
abbrev pub entry_to_6 : List Eam → ℕ → Option (ℕ × ℕ)
entry_to_6 entries a = option_map (λ best. (best.0, up best.1 a)) (best4 entries a)

abbrev pub entry_to_4 : List Eam → ℕ → Option (ℕ × ℕ)
entry_to_4 entries x = option_map (λ best. (best.0, down best.1 x)) (best6 entries x)
