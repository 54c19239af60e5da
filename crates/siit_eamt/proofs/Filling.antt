-- Buckets that are filled one after another.
use Rattle.std.proofs.Common.{◌≡◌, ℕ, ◌+◌, ◌^◌, ◌<◌, ◌≤◌, List, [], ◌∷◌, ◌++◌, length, Some, sym, ap, ◌∙◌, subst, arith, inl, inr}
use Rattle.std.specs.List.{slice_get}
use Rattle.siit_eamt.specs.declared.buckets.Bucket.{Bucket}
use Rattle.siit_eamt.specs.declared.interval.Interval.{Interval}
use Rattle.siit_eamt.specs.declared.spacing.Spacing.{Spacing}
use Rattle.siit_eamt.specs.Intervals.{HasBegun, IsAhead, LiesIn, bucket_of}
use Rattle.siit_eamt.proofs.Longest.{slice_get-push_cases}
use Rattle.siit_eamt.proofs.Lying.{ahead_earlier}

-- each bucket so far names the intervals of its addresses
pub record AreNamed (intervals : List Interval) (spacing : Spacing) (buckets : List Bucket) : Type 0 where
  pub lie : (number address : ℕ) (bucket : Bucket) → slice_get buckets number ≡ Some bucket → address < 2 ^ 128
      → bucket_of spacing address ≡ number → LiesIn intervals bucket.low bucket.high address

pub none_named : (intervals : List Interval) (spacing : Spacing) → AreNamed intervals spacing []
none_named intervals spacing = record { lie = λ number address bucket here below is. absurd cc }

-- one more, from the place of the interval of its first address to that of its last one
pub one_more_named : (intervals : List Interval) (spacing : Spacing) (buckets : List Bucket) (bucket : Bucket) (last : ℕ)
    → AreNamed intervals spacing buckets
    → ((address : ℕ) → length buckets ≤ bucket_of spacing address → HasBegun intervals bucket.low address)
    → ((address : ℕ) → address < 2 ^ 128 → bucket_of spacing address ≤ length buckets → address ≤ last)
    → bucket.low < bucket.high → bucket.high ≤ length intervals → IsAhead intervals bucket.high last
    → AreNamed intervals spacing (buckets ++ bucket ∷ [])
one_more_named intervals spacing buckets bucket last before begun until some within ahead = record {
  lie = λ number address other here below is. elim (slice_get-push_cases buckets bucket number other here) [
    | inl there ↦ before.lie number address other there below is
    | inr new ↦ subst (λ (b : Bucket). LiesIn intervals b.low b.high address) new.1 (record {
      some = some;
      within = within;
      begun = begun address (let place = new.0 in omega arith);
      ahead = ahead_earlier intervals bucket.high last address (until address below (let place = new.0 in omega arith)) ahead;
    })
  ];
}
