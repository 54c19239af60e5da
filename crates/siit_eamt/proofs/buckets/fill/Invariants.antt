use Rattle.std.proofs.Common.{◌≡◌, ℕ, ◌<◌, ◌≤◌, ◌^◌, length, Some}
use Rattle.std.specs.List.{slice_get}
use Rattle.siit_eamt.specs.Intervals.{HasBegun, bucket_of}
use Rattle.siit_eamt.proofs.Filling.{AreNamed}
use Rattle.siit_eamt.proofs.buckets.fill.Given as goal

abbrev pub invariant-loop-number : goal.invariant-loop-number
invariant-loop-number l =
    record {
      within : l.low < length l.intervals;
      begun : (address : ℕ) → l.number ≤ bucket_of l.spacing address → HasBegun l.intervals l.low address;
      filled : length l.buckets.items ≡ l.number;
      named : AreNamed l.intervals l.spacing l.buckets.items;
    }
