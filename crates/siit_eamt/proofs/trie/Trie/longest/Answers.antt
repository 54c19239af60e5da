use Rattle.std.proofs.Common.{◌+◌, ap, sym, ◌∙◌, arith}
use Rattle.siit_eamt.specs.Trie.{child_of}
use Rattle.siit_eamt.proofs.Ways.{way_begins, way_within, way_goes_on, way_ends}
use Rattle.siit_eamt.proofs.trie.Trie.longest.Goals as goal

pub loop-behind-init : goal.loop-behind-init
loop-behind-init c =
    way_begins c.args.self.now.nodes.items c.args.bits.width c.args.bits.address c.read-node.result c.place-longest.result c.requires.address
    c.read-node.ensures c.place-longest.ensures

pub read-node-requires-in-loop-behind : goal.read-node-requires-in-loop-behind
read-node-requires-in-loop-behind c =
    way_within c.args.self.now.nodes.items c.args.bits.width c.args.bits.address c.loop-behind.behind (c.loop-behind.behind + 1) c.loop-behind.node c.loop-behind.longest
    c.loop-behind.invariant c.loop-behind-test.true (omega arith) c.requires.shape c.in-Some.child
    (sym c.in-Some.is ∙ c.child.ensures ∙ ap (λ b. child_of b c.loop-behind.node) c.bit.ensures)

pub loop-behind-preserved : goal.loop-behind-preserved
loop-behind-preserved c =
    way_goes_on c.args.self.now.nodes.items c.args.bits.width c.args.bits.address c.loop-behind.behind (c.loop-behind.behind + 1) c.loop-behind.node
    c.loop-behind.longest c.loop-behind.invariant c.loop-behind-test.true (omega arith) c.in-Some.child c.read-node-in-loop-behind.result c.or-longest.result
    (sym c.in-Some.is ∙ c.child.ensures ∙ ap (λ b. child_of b c.loop-behind.node) c.bit.ensures)
    c.read-node-in-loop-behind.ensures (cc)

pub returns-in_default : goal.returns-in_default
returns-in_default c =
    way_ends c.args.self.now.nodes.items c.args.bits.width c.args.bits.address c.loop-behind.behind (c.loop-behind.behind + 1) c.loop-behind.node c.loop-behind.longest
    c.loop-behind.invariant c.loop-behind-test.true (omega arith)
    (sym c.in_default.is ∙ c.child.ensures ∙ ap (λ b. child_of b c.loop-behind.node) c.bit.ensures)
