use Rattle.std.proofs.Common.{◌≡◌, ◌≤◌, length, take}
use Rattle.siit_generator.specs.Generated.{data_of}
use Rattle.siit_generator.proofs.generator.fill.Given as goal

abbrev pub invariant-loop-place : goal.invariant-loop-place
invariant-loop-place l = record {
  place : l.place ≤ length l.fn.room;
  len : length l.room ≡ length l.fn.room;
  room : take l.place l.room ≡ data_of l.number l.place;
}
