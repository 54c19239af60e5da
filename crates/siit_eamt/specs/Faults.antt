-- Why a list of entries is no table. The limit and the order of the faults are this project's own.
use Rattle.std.specs.Prelude.{List, [], ◌∷◌, ◌++◌, length, Bool, not, ◌&&◌, ◌==◌, nat_lt, if◌then◌else◌, Option, Some, None, option_map, position}
use Rattle.std.specs.Option.{option_or}
use Rattle.siit_addr.specs.declared.addr.Prefix4.{Prefix4}
use Rattle.siit_addr.specs.declared.addr.Prefix6.{Prefix6}
use Rattle.siit_eamt.specs.declared.entry.Eam.{Eam}
use Rattle.siit_eamt.specs.declared.entry.EamFault.{EamFault}
use Rattle.siit_eamt.specs.declared.entry.EamFault.TheVariants.{TooMany, HostBits, SuffixTooLong, Twice4, Twice6}
use Rattle.siit_eamt.specs.Entries.{is_clean, has_room}

abbrev pub has_prefix4 : Prefix4 → Eam → Bool
has_prefix4 prefix entry = (entry.p4.addr.0 == prefix.addr.0) && (entry.p4.len == prefix.len)

abbrev pub has_prefix6 : Prefix6 → Eam → Bool
has_prefix6 prefix entry = (entry.p6.addr.0 == prefix.addr.0) && (entry.p6.len == prefix.len)

-- The fault of an entry behind others: a bit past a length, no room for the suffix, or a prefix that the least of the
-- places named beside it has already.
abbrev pub entry_fault : List Eam → Eam → Option EamFault
entry_fault before entry =
    if not (is_clean entry) then Some (HostBits (length before))
    else if not (has_room entry) then Some (SuffixTooLong (length before))
    else option_or
    (option_map (λ j. Twice4 (length before) j) (position (has_prefix4 entry.p4) before))
    (option_map (λ j. Twice6 (length before) j) (position (has_prefix6 entry.p6) before))

-- the fault of the first entry at fault among the rest
abbrev pub first_fault : List Eam → List Eam → Option EamFault
first_fault before [] = None
first_fault before (entry ∷ rest) = option_or (entry_fault before entry) (first_fault (before ++ entry ∷ []) rest)

abbrev pub table_fault : List Eam → Option EamFault
table_fault entries = if nat_lt 65536 (length entries) then Some TooMany else first_fault [] entries
