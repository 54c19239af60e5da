use Rattle.std.proofs.Common.{◌≡◌, ◌++◌, ◌∷◌, [], List, None, ap, sym, subst, ◌∙◌, length}
use Rattle.siit_eamt.specs.declared.trie.Node.{Node}
use Rattle.siit_eamt.specs.Trie.{place_under, IsTrie}
use Rattle.siit_eamt.proofs.Nodes.{empty_child}
use Rattle.siit_eamt.proofs.Reach.{alone_is_trie, alone_is_empty}
use Rattle.siit_eamt.proofs.trie.Trie.new.Goals as goal

pub returns : goal.returns
returns c =
    let no_child = empty_child c.new.result (record { zero = c.new.ensures.zero; one = c.new.ensures.one; place = c.new.ensures.place }) in
    let items : c.push.new.self.items ≡ c.new.result ∷ [] = c.in_ok-push.ensures.items ∙ ap (λ ns. ns ++ c.new.result ∷ []) c.new-nodes.ensures.items in
    record {
      shape = subst IsTrie (sym items) (alone_is_trie c.new.result no_child c.new.ensures.place);
      one = ap length items;
      empty = λ l v. subst (λ (ns : List Node). place_under ns l v ≡ None) (sym items) (alone_is_empty c.new.result no_child c.new.ensures.place l v);
    }
