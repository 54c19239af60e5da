use Rattle.std.proofs.Common.{◌≡◌, ◌<◌, length, Some, refl, sym, ap, ◌∙◌, rules}
use Rattle.std.specs.List.{slice_get}
use Rattle.std.specs.Option.{option_and_then}
use Rattle.std.proofs.lemmas.Option.{slice_get_read}
use Rattle.siit_eamt.specs.Trie.{child_of, IsGrown, IsSameTrie}
use Rattle.siit_eamt.proofs.Results.{if_ok-map}
use Rattle.siit_eamt.proofs.Reach.{grown_is_same, reach_within}
use Rattle.siit_eamt.proofs.trie.Trie.child_or_new.Goals as goal

pub index-requires : goal.index-requires
index-requires c =
    let below : c.args.at < length c.args.self.now.nodes.items =
    reach_within c.args.self.now.nodes.items c.requires.shape c.requires.inside.0 c.requires.inside.1 c.args.at c.requires.inside.2 in
    search rules

pub add_child-requires-clause-inside : goal.add_child-requires-clause-inside
add_child-requires-clause-inside c =
    reach_within c.args.self.now.nodes.items c.requires.shape c.requires.inside.0 c.requires.inside.1 c.args.at c.requires.inside.2

pub add_child-requires-clause-none : goal.add_child-requires-clause-none
add_child-requires-clause-none c =
    let below = reach_within c.args.self.now.nodes.items c.requires.shape c.requires.inside.0 c.requires.inside.1 c.args.at c.requires.inside.2 in
    let here : slice_get c.args.self.now.nodes.items c.args.at ≡ Some c.index.result.now =
    slice_get_read _ (length c.args.self.now.nodes.items) c.args.at _ refl below c.index.ensures in
    ap (option_and_then (child_of c.args.bit)) here ∙ sym c.child.ensures ∙ c.in-None.is

pub returns-in-Some-clause-child : goal.returns-in-Some-clause-child
returns-in-Some-clause-child c =
    let below = reach_within c.args.self.now.nodes.items c.requires.shape c.requires.inside.0 c.requires.inside.1 c.args.at c.requires.inside.2 in
    let here : slice_get c.args.self.now.nodes.items c.args.at ≡ Some c.index.result.now =
    slice_get_read _ (length c.args.self.now.nodes.items) c.args.at _ refl below c.index.ensures in
    ap (option_and_then (child_of c.args.bit)) here ∙ sym c.child.ensures ∙ c.in-Some.is

pub returns-in-None-clause-same : goal.returns-in-None-clause-same
returns-in-None-clause-same c =
    if_ok-map (λ child. IsGrown c.args.self.now.nodes.items c.add_child.new.self.nodes.items c.args.at c.args.bit child)
    (λ _. IsSameTrie c.args.self.now.nodes.items c.add_child.new.self.nodes.items) c.add_child.result
    (λ child grown. grown_is_same c.args.self.now.nodes.items c.add_child.new.self.nodes.items c.args.at c.args.bit child grown c.requires.shape)
    c.add_child.ensures
