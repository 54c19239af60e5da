-- Tables in which no prefix overlaps another.
use Rattle.std.specs.Prelude.{List, [], ◌∷◌, Bool, true, not, ◌&&◌}
use Rattle.std.specs.List.{list_all}
use Rattle.siit_addr.specs.Addresses.{overlap}
use Rattle.siit_addr.specs.declared.addr.Prefix6.{Prefix6}
use Rattle.siit_eamt.specs.declared.entry.Eam.{Eam}

abbrev pub overlap4 : Eam → Eam → Bool
overlap4 e f = overlap 32 e.p4.len e.p4.addr.0 f.p4.len f.p4.addr.0

abbrev pub overlap6 : Eam → Eam → Bool
overlap6 e f = overlap 128 e.p6.len e.p6.addr.0 f.p6.len f.p6.addr.0

-- no two entries overlap
abbrev pub are_apart : (Eam → Eam → Bool) → List Eam → Bool
are_apart overlaps [] = true
are_apart overlaps (entry ∷ entries) =
    list_all (λ other. not (overlaps entry other)) entries && are_apart overlaps entries

-- no two IPv4 prefixes overlap, no two IPv6 prefixes overlap, and none of the latter overlaps the translation prefix
abbrev pub is_disjoint : List Eam → Prefix6 → Bool
is_disjoint entries prefix =
    are_apart overlap4 entries && are_apart overlap6 entries
    && list_all (λ e. not (overlap 128 e.p6.len e.p6.addr.0 prefix.len prefix.addr.0)) entries
