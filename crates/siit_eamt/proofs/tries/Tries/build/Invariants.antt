use Rattle.std.proofs.Common.{◌≡◌, [], take, drop}
use Rattle.siit_eamt.specs.Faults.{first_fault}
use Rattle.siit_eamt.specs.Standing.{AreTriesOf}
use Rattle.siit_eamt.proofs.tries.Tries.build.Given as goal

abbrev pub invariant-loop-place : goal.invariant-loop-place
invariant-loop-place l =
    record {
      built : AreTriesOf (take l.place l.entries) l.tries.trie4.nodes.items l.tries.trie6.nodes.items;
      same : first_fault [] l.entries ≡ first_fault (take l.place l.entries) (drop l.place l.entries);
    }
