-- The addresses of one family, cut into intervals. An interval begins at its first address and ends where the next one
-- begins, and the last one never ends.
use Rattle.std.specs.Prelude.{◌≡◌, ℕ, ◌+◌, ◌-◌, ◌/◌, ◌^◌, ◌<◌, ◌≤◌, List, length, Option, Some, min, option_map}
use Rattle.std.specs.List.{slice_get}
use Rattle.siit_eamt.specs.declared.entry.Eam.{Eam}
use Rattle.siit_eamt.specs.declared.buckets.Bucket.{Bucket}
use Rattle.siit_eamt.specs.declared.interval.Interval.{Interval}
use Rattle.siit_eamt.specs.declared.spacing.Spacing.{Spacing}
use Rattle.siit_eamt.specs.Entries.{best4, best6}

-- the interval at a place, if there is one, begins at an address or before it
abbrev pub HasBegun : List Interval → (place address : ℕ) → Type 0
HasBegun intervals place address =
    (interval : Interval) → slice_get intervals place ≡ Some interval → interval.first ≤ address

-- the interval at a place, if there is one, begins behind an address
abbrev pub IsAhead : List Interval → (place address : ℕ) → Type 0
IsAhead intervals place address =
    (interval : Interval) → slice_get intervals place ≡ Some interval → address < interval.first

-- an address lies in an interval from the place low on and before the place high
pub record LiesIn (intervals : List Interval) (low high address : ℕ) : Type 0 where
  pub some : low < high
  pub within : high ≤ length intervals
  pub begun : HasBegun intervals low address
  pub ahead : IsAhead intervals high address

-- the answer for an address is what its interval has
pub record IsAnswer (intervals : List Interval) (address : ℕ) (answer : Option ℕ) : Type 0 where
  pub place : ℕ
  pub interval : Interval
  pub lies : LiesIn intervals place (place + 1) address
  pub here : slice_get intervals place ≡ Some interval
  pub has : interval.place ≡ answer

-- intervals give what is wanted of each address below a bound
abbrev pub AnswerAs : (wanted : ℕ → Option ℕ) (bound : ℕ) → List Interval → Type 0
AnswerAs wanted bound intervals =
    (address : ℕ) (answer : Option ℕ) → address < bound → IsAnswer intervals address answer → answer ≡ wanted address

-- the place of the entry of an IPv4 address and that of an IPv6 address
abbrev pub place4 : List Eam → ℕ → Option ℕ
place4 entries a = option_map (λ best. best.0) (best4 entries a)

abbrev pub place6 : List Eam → ℕ → Option ℕ
place6 entries x = option_map (λ best. best.0) (best6 entries x)

-- The bucket of an address. Buckets have equally many addresses, but that the first one has all below them too, and the
-- last one all above them.
abbrev pub bucket_of : Spacing → ℕ → ℕ
bucket_of spacing address = min ((address - spacing.lowest) / 2 ^ spacing.shift) spacing.last

-- there are few intervals, and each address lies in one that its bucket names
pub record IsSearchable (intervals : List Interval) (spacing : Spacing) (buckets : List Bucket) : Type 0 where
  pub few : length intervals ≤ 2 ^ 18
  pub shift : spacing.shift < 128
  pub last : spacing.last < length buckets
  pub named : (address : ℕ) (bucket : Bucket) → address < 2 ^ 128
      → slice_get buckets (bucket_of spacing address) ≡ Some bucket → LiesIn intervals bucket.low bucket.high address
