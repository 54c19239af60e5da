-- A place that is put at a node.
use Rattle.std.proofs.Common.{◌≡◌, ℕ, ◌-◌, ◌^◌, ◌<◌, Bool, true, false, ◌&&◌, eqb, cond, List, length, slice_set, Option, Some, None, refl, sym, ap, ◌∙◌, subst, arith, inl, inr}
use Rattle.std.specs.List.{slice_get}
use Rattle.std.specs.Option.{option_or, option_and_then}
use Rattle.std.proofs.lemmas.Bool.{cases_Bool}
use Rattle.std.proofs.lemmas.Bool.Decides.{nat_tests}
use Rattle.std.proofs.lemmas.Option.{same_Some}
use Rattle.std.proofs.lemmas.List.{length-set}
use Rattle.siit_eamt.specs.declared.trie.Node.{Node}
use Rattle.siit_eamt.specs.Trie.{number_in, reach, child_at, child_of, place_at, place_of, place_under, with_place, IsTrie}
use Rattle.siit_eamt.proofs.Nodes.{read_set, read_kept}
use Rattle.siit_eamt.proofs.Reach.{reach_same, pointwise, some_not_none}

-- a node's place is another, and nothing else
pub record IsMarked (before after : List Node) (at place : ℕ) : Type 0 where
  pub children : (k : ℕ) (b : Bool) → child_at after k b ≡ child_at before k b
  pub places : (k : ℕ) → place_at after k ≡ cond (eqb k at) (Some place) (place_at before k)
  pub size : length after ≡ length before

-- what is known where a place was put
pub record IsPut (before after : List Node) (len value place : ℕ) : Type 0 where
  pub shape : IsTrie after
  pub places : (l v : ℕ) → place_under after l v ≡ with_place (place_under before) len value place l v

pub both_same : (m n a b : ℕ) → (eqb m n && eqb a b) ≡ true → (m ≡ n) × (a ≡ b)
both_same m n a b h = (grind (arith, nat_tests, h), grind (arith, nat_tests, h))

both_true : (m n a b : ℕ) → m ≡ n → a ≡ b → (eqb m n && eqb a b) ≡ true
both_true m n a b e f = grind (arith, nat_tests, e, f)

same_true : (m n : ℕ) → eqb m n ≡ true → m ≡ n
same_true m n h = grind (arith, nat_tests, h)

true_same : (m n : ℕ) → m ≡ n → eqb m n ≡ true
true_same m n h = grind (arith, nat_tests, h)

never : (t : Bool) → t ≡ true → t ≡ false → ⊥
never t h h' = cc

or_none : {X : Type 0} (o : Option X) → option_or o None ≡ o
or_none None = refl
or_none (Some x) = refl

module _ (before : List Node) (at len value place : ℕ) (trie : IsTrie before) (there : reach (child_at before) len value ≡ Some at) where
  -- the place shows at the node's prefix alone
  module _ (free : place_at before at ≡ None) where
    at_other : (l v k : ℕ) → reach (child_at before) l v ≡ Some k → eqb k at ≡ false → (eqb len l && eqb value v) ≡ false
    at_other l v k is apart =
        elim (cases_Bool (eqb len l && eqb value v)) [
          | inl t ↦
              let same = both_same len l value v t in
              let node : reach (child_at before) l v ≡ Some at =
              subst (λ (n : ℕ). reach (child_at before) n v ≡ Some at) same.0 (subst (λ (u : ℕ). reach (child_at before) len u ≡ Some at) same.1 there) in
              absurd (never (eqb k at) (true_same k at (same_Some k at (sym is ∙ node))) apart)
          | inr t ↦ t
        ]

    at_none : (l v : ℕ) → reach (child_at before) l v ≡ None → (eqb len l && eqb value v) ≡ false
    at_none l v is =
        elim (cases_Bool (eqb len l && eqb value v)) [
          | inl t ↦
              let same = both_same len l value v t in
              let node : reach (child_at before) l v ≡ Some at =
              subst (λ (n : ℕ). reach (child_at before) n v ≡ Some at) same.0 (subst (λ (u : ℕ). reach (child_at before) len u ≡ Some at) same.1 there) in
              absurd (some_not_none (reach (child_at before) l v) at node is)
          | inr t ↦ t
        ]

    at_same : (l v k : ℕ) → reach (child_at before) l v ≡ Some k → eqb k at ≡ true → (eqb len l && eqb value v) ≡ true
    at_same l v k is t =
        let same = trie.one_prefix at len value l v there (is ∙ ap Some (same_true k at t)) in
        both_true len l value v same.0 same.1

    free_at : (k : ℕ) → eqb k at ≡ true → place_at before k ≡ None
    free_at k t = ap (place_at before) (same_true k at t) ∙ free

    by_reach : (l v : ℕ) (o : Option ℕ) → reach (child_at before) l v ≡ o
        → option_and_then (λ k. cond (eqb k at) (Some place) (place_at before k)) o
        ≡ option_or (option_and_then (place_at before) o) (cond (eqb len l && eqb value v) (Some place) None)
    by_reach l v None is = ap (λ t. cond t (Some place) None) (sym (at_none l v is))
    by_reach l v (Some k) is =
        elim (cases_Bool (eqb k at)) [
          | inl t ↦
              ap (λ u. cond u (Some place) (place_at before k)) t
              ∙ ap (λ u. cond u (Some place) None) (sym (at_same l v k is t))
              ∙ ap (λ p. option_or p (cond (eqb len l && eqb value v) (Some place) None)) (sym (free_at k t))
          | inr t ↦
              ap (λ u. cond u (Some place) (place_at before k)) t
              ∙ sym (or_none (place_at before k))
              ∙ ap (λ u. option_or (place_at before k) (cond u (Some place) None)) (sym (at_other l v k is t))
        ]

  pub put_by_mark : (after : List Node) → IsMarked before after at place → place_at before at ≡ None → IsPut before after len value place
  put_by_mark after marked free =
      let same = reach_same (child_at after) (child_at before) marked.children in
      record {
        shape = record {
          first = let size = marked.size in let some = trie.first in omega arith;
          inside = λ k c b h. let size = marked.size in let below = trie.inside k c b (sym (marked.children k b) ∙ h) in omega arith;
          one_prefix = λ i l v l' v' h h'. trie.one_prefix i l v l' v' (sym (same l v) ∙ h) (sym (same l' v') ∙ h');
        };
        places = λ l v.
            ap (option_and_then (place_at after)) (same l v)
            ∙ pointwise (place_at after) (λ k. cond (eqb k at) (Some place) (place_at before k)) marked.places (reach (child_at before) l v)
            ∙ by_reach free l v (reach (child_at before) l v) refl;
      }

  -- where a place stands already nothing is put
  pub put_by_none : (p : ℕ) → place_at before at ≡ Some p → IsPut before before len value place
  put_by_none p full = record {
    shape = trie;
    places = λ l v.
        elim (cases_Bool (eqb len l && eqb value v)) [
          | inl t ↦
              let same = both_same len l value v t in
              let node : reach (child_at before) l v ≡ Some at =
              subst (λ (n : ℕ). reach (child_at before) n v ≡ Some at) same.0 (subst (λ (u : ℕ). reach (child_at before) len u ≡ Some at) same.1 there) in
              let here : place_under before l v ≡ Some p = ap (option_and_then (place_at before)) node ∙ full in
              here ∙ ap (λ o. option_or o (cond (eqb len l && eqb value v) (Some place) None)) (sym here)
          | inr t ↦
              sym (or_none (place_under before l v)) ∙ ap (λ u. option_or (place_under before l v) (cond u (Some place) None)) (sym t)
        ];
  }

pub marked_by_set : (nodes : List Node) (at place : ℕ) (node with : Node) → at < length nodes → slice_get nodes at ≡ Some node
    → ((b : Bool) → child_of b with ≡ child_of b node) → place_of with ≡ Some place → IsMarked nodes (slice_set nodes at with) at place
marked_by_set nodes at place node with in_at here same put = record {
  children = λ k b. read_kept (child_of b) nodes at with k in_at (ap (option_and_then (child_of b)) here ∙ sym (same b));
  places = λ k. read_set place_of nodes at with k in_at ∙ ap (λ o. cond (eqb k at) o (place_at nodes k)) put;
  size = length-set nodes at with;
}

-- over the trie as it was before nodes were added
pub put_over : (first before after : List Node) (len value place : ℕ) → ((l v : ℕ) → place_under before l v ≡ place_under first l v)
    → IsPut before after len value place → (l v : ℕ) → place_under after l v ≡ with_place (place_under first) len value place l v
put_over first before after len value place same put l v =
    put.places l v ∙ ap (λ o. option_or o (cond (eqb len l && eqb value v) (Some place) None)) (same l v)

pub number_in-below : (p : ℕ) → p < 2 ^ 32 - 1 → number_in p ≡ Some p
number_in-below p h = grind (arith, nat_tests, h)

pub with_place_children : (node : Node) (p : ℕ) (b : Bool) → child_of b (record { zero = node.zero; one = node.one; place = p }) ≡ child_of b node
with_place_children node p true = refl
with_place_children node p false = refl
