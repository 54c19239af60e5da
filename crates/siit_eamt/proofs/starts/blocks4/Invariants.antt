use Rattle.std.proofs.Common.{◌≡◌, ◌^◌, ◌<◌, All, map, take}
use Rattle.siit_eamt.specs.Starts.{block4}
use Rattle.siit_eamt.proofs.starts.blocks4.Given as goal

abbrev pub invariant-loop-entry : goal.invariant-loop-entry
invariant-loop-entry l =
    record {
      blocks : l.blocks.items ≡ map block4 (take l.entry-index l.entries);
      within : All (λ block. block.first < 2 ^ 32) l.blocks.items;
    }
