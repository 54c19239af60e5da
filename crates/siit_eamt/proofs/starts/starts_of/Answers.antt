use Rattle.std.proofs.Common.{◌≡◌, List, take, subst, arith}
use Rattle.std.proofs.lemmas.List.{take_all}
use Rattle.siit_eamt.specs.declared.starts.Block.{Block}
use Rattle.siit_eamt.specs.Starts.{AreStarts}
use Rattle.siit_eamt.proofs.StartsLemmas.{one_more_block, sorted_starts}
use Rattle.siit_eamt.proofs.starts.starts_of.Goals as goal

pub loop-block-preserved : goal.loop-block-preserved
loop-block-preserved c =
    one_more_block c.args.blocks.now c.loop-block.block-index (record { first = 0; bits = 0 }) c.args.highest c.loop-block.starts.items c.add.new.starts.items
    c.loop-block-test.true c.loop-block.invariant c.in_ok-add.ensures

pub returns : goal.returns
returns c =
    let all : take c.loop-block.block-index c.args.blocks.now ≡ c.args.blocks.now = take_all c.loop-block.block-index c.args.blocks.now (omega arith) in
    let are = subst (λ (blocks : List Block). AreStarts blocks c.args.highest c.loop-block.starts.items) all c.loop-block.invariant in
    record { starts = sorted_starts c.args.blocks.now c.args.highest c.loop-block.starts.items c.sort.new.self.items are c.sort.ensures.permutation c.in_ok-sort.ensures.sorted }
