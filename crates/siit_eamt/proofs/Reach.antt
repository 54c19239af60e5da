-- Nodes and what stands at them, as a trie grows.
use Rattle.std.proofs.Common.{◌≡◌, ℕ, zero, suc, ◌/◌, ◌<◌, Bool, List, [], ◌∷◌, length, Option, Some, None, refl, sym, ap, ◌∙◌, arith, ◌⊎◌, inl, inr, lit<}
use Rattle.std.specs.Option.{option_and_then}
use Rattle.std.proofs.lemmas.Bool.Decides.{nat_tests}
use Rattle.std.proofs.lemmas.Option.{same_Some, option_and_then_some, slice_get_past}
use Rattle.siit_eamt.specs.declared.trie.Node.{Node}
use Rattle.siit_eamt.specs.Trie.{reach, child_at, child_of, place_at, place_of, place_under, is_odd, IsTrie, IsGrown, IsSameTrie}

abbrev pub Children : Type 0
Children = ℕ → Bool → Option ℕ

pub pointwise : {X Y : Type 0} (f g : X → Option Y) → ((x : X) → f x ≡ g x) → (o : Option X) → option_and_then f o ≡ option_and_then g o
pointwise f g same None = refl
pointwise f g same (Some x) = same x

-- a node's parent
pub reach_step : (f : Children) (l v i : ℕ) → reach f (suc l) v ≡ Some i → (j : ℕ) × (reach f l (v / 2) ≡ Some j) × (f j (is_odd v) ≡ Some i)
unfolding reach
reach_step f l v i h = option_and_then_some (λ at. f at (is_odd v)) (reach f l (v / 2)) i h (λ j there here. (j, there, here))

-- and its child
pub step_reach : (f : Children) (l v j : ℕ) (o : Option ℕ) → reach f l (v / 2) ≡ Some j → f j (is_odd v) ≡ o → reach f (suc l) v ≡ o
unfolding reach
step_reach f l v j o there here = ap (option_and_then (λ at. f at (is_odd v))) there ∙ here

pub none_reach : (f : Children) (l v : ℕ) → reach f l (v / 2) ≡ None → reach f (suc l) v ≡ None
unfolding reach
none_reach f l v there = ap (option_and_then (λ at. f at (is_odd v))) there

reach_first : (f : Children) (v i : ℕ) → reach f zero v ≡ Some i → (i ≡ 0) × (v ≡ 0)
unfolding reach
reach_first f zero i h = (sym (same_Some 0 i h), refl)
reach_first f (suc v) i h = absurd cc

pub first_reach : (f : Children) → reach f zero zero ≡ Some 0
unfolding reach
first_reach f = refl

same_first : (f g : Children) (v : ℕ) → reach f zero v ≡ reach g zero v
unfolding reach
same_first f g zero = refl
same_first f g (suc v) = refl

-- nodes are found by children alone
pub reach_same : (f g : Children) → ((at : ℕ) (bit : Bool) → f at bit ≡ g at bit) → (l v : ℕ) → reach f l v ≡ reach g l v
unfolding reach
reach_same f g same zero v = same_first f g v
reach_same f g same (suc l) v =
    ap (option_and_then (λ at. f at (is_odd v))) (reach_same f g same l (v / 2))
    ∙ pointwise (λ at. f at (is_odd v)) (λ at. g at (is_odd v)) (λ at. same at (is_odd v)) (reach g l (v / 2))

pub reach_within : (nodes : List Node) → IsTrie nodes → (l v i : ℕ) → reach (child_at nodes) l v ≡ Some i → i < length nodes
reach_within nodes trie zero v i h = let start = reach_first (child_at nodes) v i h in let some = trie.first in omega arith
reach_within nodes trie (suc l) v i h =
    let step = reach_step (child_at nodes) l v i h in
    trie.inside step.0 i (is_odd v) step.2

pub some_not_none : {X : Type 0} (o : Option X) (x : X) → o ≡ Some x → o ≡ None → ⊥
some_not_none o x some none = cc

-- ---- one node more
module _ (before after : List Node) (at : ℕ) (bit : Bool) (child : ℕ) (grown : IsGrown before after at bit child) (trie : IsTrie before) where
  -- each prefix has the node that it had
  node_kept : (l v i : ℕ) → reach (child_at before) l v ≡ Some i → reach (child_at after) l v ≡ Some i
  node_kept zero v i h = same_first (child_at after) (child_at before) v ∙ h
  node_kept (suc l) v i h =
      let step = reach_step (child_at before) l v i h in
      step_reach (child_at after) l v step.0 (Some i) (node_kept l (v / 2) step.0 step.1)
      (elim (grown.others step.0 (is_odd v)) [
        | inl same ↦ same ∙ step.2
        | inr here ↦ absurd (some_not_none (child_at before at bit) i
            (ap (λ k. child_at before k bit) (sym here.0) ∙ ap (child_at before step.0) (sym here.1) ∙ step.2) grown.none)
      ])

  -- the child's own prefix
  abbrev IsChild : (l v : ℕ) → Type 0
  IsChild l v = (k : ℕ) × (l ≡ suc k) × (reach (child_at before) k (v / 2) ≡ Some at) × (is_odd v ≡ bit)

  not_a_node : (l v : ℕ) → reach (child_at before) l v ≡ Some child → ⊥
  not_a_node l v h = let below = reach_within before trie l v child h in let last = grown.last in omega arith

  childless : (b : Bool) → child_at before child b ≡ None
  childless b = ap (option_and_then _) (slice_get_past before child (let last = grown.last in omega arith))

  -- a node below one that was there
  below_old : (l v i j : ℕ) → reach (child_at before) l (v / 2) ≡ Some j → child_at after j (is_odd v) ≡ Some i
      → (reach (child_at before) (suc l) v ≡ Some i) ⊎ ((i ≡ child) × IsChild (suc l) v)
  below_old l v i j there here =
      elim (grown.others j (is_odd v)) [
        | inl same ↦ inl (step_reach (child_at before) l v j (Some i) there (sym same ∙ here))
        | inr new ↦ inr (
          same_Some i child (sym here ∙ ap (λ k. child_at after k (is_odd v)) new.0 ∙ ap (child_at after at) new.1 ∙ grown.added),
          (l, refl, there ∙ ap Some new.0, new.1),
        )
      ]

  -- a node below the new one
  below_new : (v i j : ℕ) → j ≡ child → child_at after j (is_odd v) ≡ Some i → (l v' : ℕ) → reach (child_at before) l v' ≡ Some at → ⊥
  below_new v i j same here l v' there =
      elim (grown.others j (is_odd v)) [
        | inl old ↦ some_not_none (child_at before child (is_odd v)) i (ap (λ k. child_at before k (is_odd v)) (sym same) ∙ sym old ∙ here) (childless (is_odd v))
        | inr new ↦ not_a_node l v' (there ∙ ap Some (sym new.0 ∙ same))
      ]

  -- and has no other, but for the child
  node_before : (l v i : ℕ) → reach (child_at after) l v ≡ Some i → (reach (child_at before) l v ≡ Some i) ⊎ ((i ≡ child) × IsChild l v)
  node_before zero v i h = inl (same_first (child_at before) (child_at after) v ∙ h)
  node_before (suc l) v i h =
      let step = reach_step (child_at after) l v i h in
      elim (node_before l (v / 2) step.0 step.1) [
        | inl old ↦ below_old l v i step.0 old step.2
        | inr new ↦ absurd (below_new v i step.0 new.0 step.2 new.1.0 (v / 2 / 2) new.1.2)
      ]

  halves_same : (v v' : ℕ) → v / 2 ≡ v' / 2 → is_odd v ≡ is_odd v' → v ≡ v'
  halves_same v v' half odd = grind (arith, nat_tests, half, odd)

  one_child : (l v l' v' : ℕ) → IsChild l v → IsChild l' v' → (l ≡ l') × (v ≡ v')
  one_child l v l' v' h h' =
      let same = trie.one_prefix at h.0 (v / 2) h'.0 (v' / 2) h.2 h'.2 in
      (h.1 ∙ ap suc same.0 ∙ sym h'.1, halves_same v v' same.1 (h.3 ∙ sym h'.3))

  one_prefix_after : (i l v l' v' : ℕ) → reach (child_at after) l v ≡ Some i → reach (child_at after) l' v' ≡ Some i → (l ≡ l') × (v ≡ v')
  one_prefix_after i l v l' v' h h' =
      elim (node_before l v i h) [
        | inl old ↦ elim (node_before l' v' i h') [
          | inl old' ↦ trie.one_prefix i l v l' v' old old'
          | inr new' ↦ absurd (not_a_node l v (old ∙ ap Some new'.0))
        ]
        | inr new ↦ elim (node_before l' v' i h') [
          | inl old' ↦ absurd (not_a_node l' v' (old' ∙ ap Some new.0))
          | inr new' ↦ one_child l v l' v' new.1 new'.1
        ]
      ]

  inside_after : (k c : ℕ) (b : Bool) → child_at after k b ≡ Some c → c < length after
  inside_after k c b h =
      let more = grown.one_more in
      elim (grown.others k b) [
        | inl same ↦ let below = trie.inside k c b (sym same ∙ h) in omega arith
        | inr new ↦
            let is : c ≡ child = same_Some c child (sym h ∙ ap (λ k. child_at after k b) new.0 ∙ ap (child_at after at) new.1 ∙ grown.added) in
            let last = grown.last in
            omega arith
      ]

  place_of_none : place_at after child ≡ None
  place_of_none = grown.places child ∙ ap (option_and_then place_of) (slice_get_past before child (let last = grown.last in omega arith))

  by_node : (l v : ℕ) (o : Option ℕ) → reach (child_at after) l v ≡ o → (p : Option ℕ) → reach (child_at before) l v ≡ p
      → option_and_then (place_at after) o ≡ option_and_then (place_at before) p
  by_node l v o h (Some i) h' = ap (option_and_then (place_at after)) (sym h ∙ node_kept l v i h') ∙ grown.places i
  by_node l v None h None h' = refl
  by_node l v (Some i) h None h' =
      elim (node_before l v i h) [
        | inl old ↦ absurd (some_not_none (reach (child_at before) l v) i old h')
        | inr new ↦ ap (place_at after) new.0 ∙ place_of_none
      ]

  pub grown_is_same : IsSameTrie before after
  grown_is_same = record {
    shape = record {
      first = let more = grown.one_more in omega arith;
      inside = inside_after;
      one_prefix = one_prefix_after;
    };
    nodes = node_kept;
    places = λ l v. by_node l v _ refl _ refl;
  }

pub same_is_same : (nodes : List Node) → IsTrie nodes → IsSameTrie nodes nodes
same_is_same nodes trie = record { shape = trie; nodes = λ l v i h. h; places = λ l v. refl }

-- ---- a trie of one node, of no prefix and no place
module _ (node : Node) (no_child : (b : Bool) → child_of b node ≡ None) (no_place : place_of node ≡ None) where
  childless_alone : (k : ℕ) (b : Bool) → child_at (node ∷ []) k b ≡ None
  childless_alone zero b = no_child b
  childless_alone (suc k) b = refl

  placeless_alone : (k : ℕ) → place_at (node ∷ []) k ≡ None
  placeless_alone zero = no_place
  placeless_alone (suc k) = refl

  first_alone : (l v i : ℕ) → reach (child_at (node ∷ [])) l v ≡ Some i → (l ≡ 0) × (v ≡ 0)
  first_alone zero v i h = (refl, (reach_first (child_at (node ∷ [])) v i h).1)
  first_alone (suc l) v i h =
      let step = reach_step (child_at (node ∷ [])) l v i h in
      absurd (some_not_none (child_at (node ∷ []) step.0 (is_odd v)) i step.2 (childless_alone step.0 (is_odd v)))

  always_none : (o : Option ℕ) → option_and_then (place_at (node ∷ [])) o ≡ None
  always_none None = refl
  always_none (Some k) = placeless_alone k

  pub alone_is_trie : IsTrie (node ∷ [])
  alone_is_trie = record {
    first = lit< tt;
    inside = λ k c b h. absurd (some_not_none (child_at (node ∷ []) k b) c h (childless_alone k b));
    one_prefix = λ i l v l' v' h h'.
        let first = first_alone l v i h in
        let second = first_alone l' v' i h' in
        (first.0 ∙ sym second.0, first.1 ∙ sym second.1);
  }

  pub alone_is_empty : (l v : ℕ) → place_under (node ∷ []) l v ≡ None
  alone_is_empty l v = always_none (reach (child_at (node ∷ [])) l v)
