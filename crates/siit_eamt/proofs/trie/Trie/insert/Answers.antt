use Rattle.std.proofs.Common.{◌≡◌, ℕ, ◌+◌, ◌<◌, length, Some, refl, ap, sym, subst, ◌∙◌, arith, rules}
use Rattle.std.specs.List.{slice_get}
use Rattle.std.specs.Option.{option_and_then}
use Rattle.std.proofs.lemmas.Option.{slice_get_read}
use Rattle.siit_eamt.specs.declared.trie.Node.{Node}
use Rattle.siit_eamt.specs.Trie.{child_at, place_of, reach, first_bits}
use Rattle.siit_eamt.proofs.Reach.{reach_within}
use Rattle.siit_eamt.proofs.Marks.{put_by_mark, put_by_none, put_over, marked_by_set, with_place_children, number_in-below}
use Rattle.siit_eamt.proofs.Ways.{reach_begins, reach_more, place_of_reached}
use Rattle.siit_eamt.proofs.trie.Trie.insert.Goals as goal

pub loop-behind-init : goal.loop-behind-init
loop-behind-init c = record {
  shape = c.requires.shape;
  growth = omega arith;
  same = λ l v. refl;
  reached = reach_begins (child_at c.args.self.now.nodes.items) c.args.bits.width c.args.bits.address c.requires.address;
}

pub loop-behind-preserved : goal.loop-behind-preserved
loop-behind-preserved c = record {
  shape = c.in_ok-at.ensures.same.shape;
  growth = let more = c.in_ok-at.ensures.growth in let so_far = c.loop-behind.invariant.growth in omega arith;
  same = λ l v. c.in_ok-at.ensures.same.places l v ∙ c.loop-behind.invariant.same l v;
  reached = reach_more (child_at c.child_or_new.new.self.nodes.items) c.args.bits.width c.args.bits.address c.loop-behind.behind (c.loop-behind.behind + 1)
      c.loop-behind.at (Some c.in_ok-at.at) (omega arith) (let within = c.requires.within in omega arith)
      (c.in_ok-at.ensures.same.nodes c.loop-behind.behind _ c.loop-behind.at c.loop-behind.invariant.reached)
      (ap (child_at c.child_or_new.new.self.nodes.items c.loop-behind.at) (sym c.bit.ensures) ∙ c.in_ok-at.ensures.child);
}

pub index-node-requires : goal.index-node-requires
index-node-requires c =
    let below : c.loop-behind.at < length c.loop-behind.self.nodes.items =
    reach_within c.loop-behind.self.nodes.items c.loop-behind.invariant.shape c.loop-behind.behind _ c.loop-behind.at c.loop-behind.invariant.reached in
    search rules

pub index_mut-requires : goal.index_mut-requires
index_mut-requires c =
    let below : c.loop-behind.at < length c.loop-behind.self.nodes.items =
    reach_within c.loop-behind.self.nodes.items c.loop-behind.invariant.shape c.loop-behind.behind _ c.loop-behind.at c.loop-behind.invariant.reached in
    search rules

pub returns-in-Some : goal.returns-in-Some
returns-in-Some c =
    let nodes = c.loop-behind.self.nodes.items in
    let len_is : c.loop-behind.behind ≡ c.args.len = omega arith in
    let below = reach_within c.loop-behind.self.nodes.items c.loop-behind.invariant.shape c.loop-behind.behind _ c.loop-behind.at c.loop-behind.invariant.reached in
    let here : slice_get c.loop-behind.self.nodes.items c.loop-behind.at ≡ Some c.index-node.result.now =
    slice_get_read _ (length c.loop-behind.self.nodes.items) c.loop-behind.at _ refl below c.index-node.ensures in
    let reached : reach (child_at c.loop-behind.self.nodes.items) c.args.len (first_bits c.args.bits.width c.args.bits.address c.args.len) ≡ Some c.loop-behind.at =
    subst (λ (n : ℕ). reach (child_at c.loop-behind.self.nodes.items) n (first_bits c.args.bits.width c.args.bits.address n) ≡ Some c.loop-behind.at)
    len_is c.loop-behind.invariant.reached in
    record {
      shape = c.loop-behind.invariant.shape;
      growth = let so_far = c.loop-behind.invariant.growth in omega arith;
      before = sym c.in-Some.is ∙ c.place.ensures ∙ sym (place_of_reached _ c.args.len _ c.loop-behind.at _ reached here) ∙ c.loop-behind.invariant.same c.args.len _;
      inserted = put_over c.args.self.now.nodes.items c.loop-behind.self.nodes.items c.loop-behind.self.nodes.items c.args.len _ c.args.place c.loop-behind.invariant.same
          (put_by_none c.loop-behind.self.nodes.items c.loop-behind.at c.args.len _ c.args.place c.loop-behind.invariant.shape reached c.in-Some.before
          (ap (option_and_then place_of) here ∙ sym c.place.ensures ∙ c.in-Some.is));
    }

pub returns : goal.returns
returns c =
    let len_is : c.loop-behind.behind ≡ c.args.len = omega arith in
    let below = reach_within c.loop-behind.self.nodes.items c.loop-behind.invariant.shape c.loop-behind.behind _ c.loop-behind.at c.loop-behind.invariant.reached in
    let here : slice_get c.loop-behind.self.nodes.items c.loop-behind.at ≡ Some c.index-node.result.now =
    slice_get_read _ (length c.loop-behind.self.nodes.items) c.loop-behind.at _ refl below c.index-node.ensures in
    let reached : reach (child_at c.loop-behind.self.nodes.items) c.args.len (first_bits c.args.bits.width c.args.bits.address c.args.len) ≡ Some c.loop-behind.at =
    subst (λ (n : ℕ). reach (child_at c.loop-behind.self.nodes.items) n (first_bits c.args.bits.width c.args.bits.address n) ≡ Some c.loop-behind.at)
    len_is c.loop-behind.invariant.reached in
    let with : Node = record { zero = c.index-node.result.now.zero; one = c.index-node.result.now.one; place = c.args.place } in
    let marked = marked_by_set c.loop-behind.self.nodes.items c.loop-behind.at c.args.place c.index-node.result.now with below here
    (with_place_children c.index-node.result.now c.args.place) (number_in-below c.args.place c.requires.place) in
    let put = put_by_mark c.loop-behind.self.nodes.items c.loop-behind.at c.args.len _ c.args.place c.loop-behind.invariant.shape reached _ marked
    (ap (option_and_then place_of) here ∙ sym c.place.ensures ∙ c.in_default.is) in
    record {
      shape = put.shape;
      growth = let so_far = c.loop-behind.invariant.growth in let size = marked.size in omega arith;
      before = sym c.in_default.is ∙ c.place.ensures ∙ sym (place_of_reached _ c.args.len _ c.loop-behind.at _ reached here) ∙ c.loop-behind.invariant.same c.args.len _;
      inserted = put_over c.args.self.now.nodes.items c.loop-behind.self.nodes.items _ c.args.len _ c.args.place c.loop-behind.invariant.same put;
    }
