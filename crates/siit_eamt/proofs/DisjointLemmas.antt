-- What a table's ascending prefixes decide.
use Rattle.std.proofs.Common.{◌≡◌, ℕ, ◌<◌, false, List, length, get_or, All}
use Rattle.std.specs.List.{AllAdjacentBelow}
use Rattle.std.proofs.lemmas.Option.{slice_get-get_or}
use Rattle.siit_addr.specs.declared.addr.Prefix4.{Prefix4}
use Rattle.siit_addr.specs.declared.addr.Prefix6.{Prefix6}
use Rattle.siit_eamt.specs.declared.entry.Eam.{Eam}
use Rattle.siit_eamt.specs.declared.interval.Interval.{Interval}
use Rattle.siit_addr.specs.Addresses.{overlap}
use Rattle.siit_eamt.proofs.Disjoint.{IsDisjoint}
use Rattle.siit_eamt.specs.Table.{IsTable}
use Rattle.siit_eamt.proofs.Neighbours.{pairs_from_neighbours, neighbours_from_entries}
use Rattle.siit_eamt.proofs.Ranges.{IsGoodEntry, IsGoodEntry-from_test}
use Rattle.siit_eamt.proofs.Accepted.{good_from_accepted}

abbrev pub NeighboursApart4 : List Prefix4 → Type 0
NeighboursApart4 sorted = AllAdjacentBelow (λ p q. overlap 32 p.len p.addr.0 q.len q.addr.0 ≡ false) sorted (length sorted)

abbrev pub NeighboursApart6 : List Prefix6 → Type 0
NeighboursApart6 sorted = AllAdjacentBelow (λ p q. overlap 128 p.len p.addr.0 q.len q.addr.0 ≡ false) sorted (length sorted)

abbrev pub AllClear : List Eam → Prefix6 → Type 0
AllClear entries prefix = All (λ e. overlap 128 e.p6.len e.p6.addr.0 prefix.len prefix.addr.0 ≡ false) entries

pub disjoint_from_neighbours : (entries : List Eam) (i4 i6 : List Interval) (s4 : List Prefix4) (s6 : List Prefix6) (prefix : Prefix6) → IsTable entries i4 i6 s4 s6
    → NeighboursApart4 s4 → NeighboursApart6 s6 → AllClear entries prefix → IsDisjoint entries prefix
disjoint_from_neighbours entries i4 i6 s4 s6 prefix table next4 next6 clear =
    let good : (k : ℕ) (d : Eam) → k < length entries → IsGoodEntry (get_or entries k d) =
    λ k d h. IsGoodEntry-from_test (get_or entries k d) (good_from_accepted entries table.accepted k (get_or entries k d) (slice_get-get_or entries k d h)) in
    record {
      apart4 = pairs_from_neighbours 32 (λ (p : Prefix4). p.len) (λ p. p.addr.0) (λ (e : Eam). e.p4) entries s4 table.all4
          (λ k d h. record { clean = (good k d h).clean4; in_range = (good k d h).len4 }) table.ascending4 next4;
      apart6 = pairs_from_neighbours 128 (λ (p : Prefix6). p.len) (λ p. p.addr.0) (λ (e : Eam). e.p6) entries s6 table.all6
          (λ k d h. record { clean = (good k d h).clean6; in_range = (good k d h).len6 }) table.ascending6 next6;
      clear = clear;
    }

pub neighbours4_from_disjoint : (entries : List Eam) (i4 i6 : List Interval) (s4 : List Prefix4) (s6 : List Prefix6) (prefix : Prefix6) → IsTable entries i4 i6 s4 s6
    → IsDisjoint entries prefix → NeighboursApart4 s4
neighbours4_from_disjoint entries i4 i6 s4 s6 prefix table d =
    neighbours_from_entries 32 (λ (p : Prefix4). p.len) (λ p. p.addr.0) (λ (e : Eam). e.p4) entries s4 table.all4 d.apart4

pub neighbours6_from_disjoint : (entries : List Eam) (i4 i6 : List Interval) (s4 : List Prefix4) (s6 : List Prefix6) (prefix : Prefix6) → IsTable entries i4 i6 s4 s6
    → IsDisjoint entries prefix → NeighboursApart6 s6
neighbours6_from_disjoint entries i4 i6 s4 s6 prefix table d =
    neighbours_from_entries 128 (λ (p : Prefix6). p.len) (λ p. p.addr.0) (λ (e : Eam). e.p6) entries s6 table.all6 d.apart6
