use Rattle.std.proofs.Common.{◌≡◌, ℕ, ◌+◌, ◌<◌, ◌≤◌, List, [], length, ap, sym, subst, ◌∙◌, arith}
use Rattle.siit_eamt.specs.declared.buckets.Bucket.{Bucket}
use Rattle.siit_eamt.specs.Intervals.{HasBegun, bucket_of}
use Rattle.siit_eamt.proofs.Filling.{AreNamed, none_named, one_more_named}
use Rattle.siit_eamt.proofs.Lying.{begun_later}
use Rattle.siit_eamt.proofs.buckets.fill.Goals as goal

pub loop-number-init : goal.loop-number-init
loop-number-init c = record {
  within = c.requires.some;
  begun = λ address le. c.requires.all address;
  filled = ap length c.new-buckets.ensures.items;
  named = subst (AreNamed c.args.intervals.now c.args.spacing) (sym c.new-buckets.ensures.items) (none_named c.args.intervals.now c.args.spacing);
}

pub place_of-low-requires-clause-begun : goal.place_of-low-requires-clause-begun
place_of-low-requires-clause-begun c =
    c.loop-number.invariant.begun c.first_in.result (let is = c.first_in.ensures.bucket in omega arith)

pub loop-number-preserved : goal.loop-number-preserved
loop-number-preserved c =
    let intervals = c.args.intervals.now in
    let spacing = c.args.spacing in
    let low = c.place_of-low.result in
    let filled : length c.loop-number.buckets.items ≡ c.loop-number.number = c.loop-number.invariant.filled in
    let begun : (address : ℕ) → c.loop-number.number ≤ bucket_of spacing address → HasBegun intervals low address =
    λ address le. begun_later intervals low c.first_in.result address (c.first_in.ensures.first address le) c.place_of-low.ensures.lies.begun in
    let bucket : Bucket = record { low = low; high = c.place_of-high.result + 1 } in
    record {
      within = let within = c.place_of-low.ensures.lies.within in omega arith;
      begun = λ address le. begun address (omega arith);
      filled = let len = c.in_ok-push.ensures.len in omega arith;
      named = subst (AreNamed intervals spacing) (sym c.in_ok-push.ensures.items)
          (one_more_named intervals spacing c.loop-number.buckets.items bucket c.last_in.result c.loop-number.invariant.named
          (λ address le. begun address (omega arith))
          (λ address below le. c.last_in.ensures.last address below (omega arith))
          (let behind = c.place_of-high.ensures.behind in omega arith) c.place_of-high.ensures.lies.within c.place_of-high.ensures.lies.ahead);
    }
