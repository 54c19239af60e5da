use Rattle.std.proofs.Common.{◌≡◌, ◌++◌, ◌∷◌, [], List, length, Some, subst, sym, slice_set, refl, rules}
use Rattle.std.specs.List.{slice_get}
use Rattle.std.proofs.lemmas.Option.{slice_get_read}
use Rattle.siit_eamt.specs.declared.trie.Node.{Node}
use Rattle.siit_eamt.specs.Trie.{IsGrown}
use Rattle.siit_eamt.proofs.Nodes.{grown_by_push}
use Rattle.siit_eamt.proofs.trie.Trie.add_child.Goals as goal

pub returns : goal.returns
returns c =
    let here : slice_get c.args.self.now.nodes.items c.args.at ≡ Some c.index-node.result.now =
    slice_get_read _ (length c.args.self.now.nodes.items) c.args.at _ refl c.requires.inside c.index-node.ensures in
    let last : c.len-child.result ≡ length c.args.self.now.nodes.items = search rules in
    let pushed : c.push.new.self.items ≡ c.args.self.now.nodes.items ++ c.new.result ∷ [] = c.in_ok-push.ensures.items in
    subst (λ (ns : List Node). IsGrown c.args.self.now.nodes.items (slice_set ns c.args.at c.with_child.result) c.args.at c.args.bit c.len-child.result) (sym pushed)
    (grown_by_push c.args.self.now.nodes.items c.args.at c.args.bit c.index-node.result.now c.new.result c.with_child.result c.len-child.result
    c.requires.inside here c.requires.none
    (record { zero = c.new.ensures.zero; one = c.new.ensures.one; place = c.new.ensures.place })
    last
    (record { added = c.with_child.ensures.child; other = c.with_child.ensures.other; place = c.with_child.ensures.place }))
