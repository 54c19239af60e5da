-- In which of some intervals an address lies.
use Rattle.std.proofs.Common.{◌≡◌, ℕ, zero, suc, ◌+◌, ◌-◌, ◌/◌, ◌^◌, ◌<◌, ◌≤◌, List, length, Some, None, sym, ap, subst, ◌∙◌, arith}
use Rattle.std.specs.List.{slice_get}
use Rattle.std.proofs.lemmas.Option.{same_Some, slice_get_within, slice_get_past}
use Rattle.siit_eamt.specs.declared.interval.Interval.{Interval}
use Rattle.siit_eamt.specs.Intervals.{HasBegun, IsAhead, LiesIn}

pub begun_at : (intervals : List Interval) (place address : ℕ) (interval : Interval) → slice_get intervals place ≡ Some interval
    → interval.first ≤ address → HasBegun intervals place address
begun_at intervals place address interval here begun other there =
    subst (λ (i : Interval). i.first ≤ address) (same_Some interval other (sym here ∙ there)) begun

pub ahead_at : (intervals : List Interval) (place address : ℕ) (interval : Interval) → slice_get intervals place ≡ Some interval
    → address < interval.first → IsAhead intervals place address
ahead_at intervals place address interval here ahead other there =
    subst (λ (i : Interval). address < i.first) (same_Some interval other (sym here ∙ there)) ahead

-- an interval that begins at an address or before it has begun by each address behind that
pub begun_later : (intervals : List Interval) (place address later : ℕ) → address ≤ later → HasBegun intervals place address → HasBegun intervals place later
begun_later intervals place address later le begun interval here = let first = begun interval here in omega arith

pub ahead_earlier : (intervals : List Interval) (place address earlier : ℕ) → earlier ≤ address → IsAhead intervals place address → IsAhead intervals place earlier
ahead_earlier intervals place address earlier le ahead interval here = let first = ahead interval here in omega arith

-- none is behind the last one
pub ahead_past : (intervals : List Interval) (place address : ℕ) → length intervals ≤ place → IsAhead intervals place address
ahead_past intervals place address past interval here = let within = slice_get_within intervals place interval here in absurd (omega arith)

-- an interval between those in which an address lies
module _ (intervals : List Interval) (low high address : ℕ) (lies : LiesIn intervals low high address) (middle : ℕ) (interval : Interval) (here : slice_get intervals middle ≡ Some interval) where
  pub lies_from : middle < high → interval.first ≤ address → LiesIn intervals middle high address
  lies_from less begun = record {
    some = less;
    within = lies.within;
    begun = begun_at intervals middle address interval here begun;
    ahead = lies.ahead;
  }

  pub lies_before : low < middle → address < interval.first → LiesIn intervals low middle address
  lies_before more ahead = record {
    some = more;
    within = let within = slice_get_within intervals middle interval here in omega arith;
    begun = lies.begun;
    ahead = ahead_at intervals middle address interval here ahead;
  }

-- how many more halvings so many intervals need at most
pub record NeedsHalvings (size left : ℕ) : Type 0 where
  pub enough : size ≤ 2 ^ left

pub needs_one_less : (size left : ℕ) → 2 ≤ size → NeedsHalvings size left
    → (less : ℕ) × (left ≡ less + 1) × NeedsHalvings (size - size / 2) less × NeedsHalvings (size / 2) less
needs_one_less size zero some needs = let enough = needs.enough in absurd (omega arith)
needs_one_less size (suc less) some needs =
    (less, omega arith, record { enough = let enough = needs.enough in omega arith }, record { enough = let enough = needs.enough in omega arith })
