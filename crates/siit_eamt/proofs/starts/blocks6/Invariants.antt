use Rattle.std.proofs.Common.{◌≡◌, ◌^◌, ◌<◌, All, map, take}
use Rattle.siit_eamt.specs.Starts.{block6}
use Rattle.siit_eamt.proofs.starts.blocks6.Given as goal

abbrev pub invariant-loop-entry : goal.invariant-loop-entry
invariant-loop-entry l =
    record {
      blocks : l.blocks.items ≡ map block6 (take l.entry-index l.entries);
      within : All (λ block. block.first < 2 ^ 128) l.blocks.items;
    }
