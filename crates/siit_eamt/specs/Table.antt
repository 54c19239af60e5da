-- What a table keeps beside its entries: intervals for look-ups, and ascending prefixes, so that neighbours decide
-- whether any overlap.
use Rattle.std.specs.Prelude.{◌≡◌, ◌^◌, List, map, None}
use Rattle.std.specs.List.Sorted.{IsPermutation, IsNonDecreasingBy}
use Rattle.siit_addr.specs.declared.addr.Prefix4.{Prefix4}
use Rattle.siit_addr.specs.declared.addr.Prefix6.{Prefix6}
use Rattle.siit_eamt.specs.declared.entry.Eam.{Eam}
use Rattle.siit_eamt.specs.declared.interval.Interval.{Interval}
use Rattle.siit_eamt.specs.Faults.{table_fault}
use Rattle.siit_eamt.specs.Intervals.{AnswerAs, place4, place6}

abbrev pub prefixes4 : List Eam → List Prefix4
prefixes4 entries = map (λ entry. entry.p4) entries

abbrev pub prefixes6 : List Eam → List Prefix6
prefixes6 entries = map (λ entry. entry.p6) entries

-- the entries have no fault, the intervals of each family give the places of its addresses' entries, and its prefixes
-- stand in ascending order
pub record IsTable (entries : List Eam) (intervals4 intervals6 : List Interval) (sorted4 : List Prefix4)
    (sorted6 : List Prefix6) : Type 0 where
  pub accepted : table_fault entries ≡ None
  pub four : AnswerAs (place4 entries) (2 ^ 32) intervals4
  pub six : AnswerAs (place6 entries) (2 ^ 128) intervals6
  pub all4 : IsPermutation (prefixes4 entries) sorted4
  pub ascending4 : IsNonDecreasingBy (λ prefix. prefix.addr.0) sorted4
  pub all6 : IsPermutation (prefixes6 entries) sorted6
  pub ascending6 : IsNonDecreasingBy (λ prefix. prefix.addr.0) sorted6
