-- The list of nodes, once one was written or added.
use Rattle.std.proofs.Common.{◌≡◌, ◌≢◌, ℕ, zero, suc, ◌<◌, Bool, true, false, not, eqb, cond, List, [], ◌∷◌, ◌++◌, length, slice_set, Option, Some, None, refl, sym, ap, ◌∙◌, arith, ◌⊎◌, inl, inr}
use Rattle.std.specs.List.{slice_get}
use Rattle.std.specs.Option.{option_and_then}
use Rattle.std.proofs.lemmas.Bool.{cases_Bool}
use Rattle.std.proofs.lemmas.Bool.Decides.{nat_tests}
use Rattle.std.proofs.lemmas.Option.{slice_get_past}
use Rattle.std.proofs.lemmas.List.{length_push, length-set}
use Rattle.siit_eamt.specs.declared.trie.Node.{Node}
use Rattle.siit_eamt.specs.Trie.{child_at, child_of, place_of, IsGrown}

tests_same : (a b : ℕ) → eqb (suc a) (suc b) ≡ eqb a b
tests_same a b = grind (arith, nat_tests)

test_apart : (a : ℕ) → eqb zero (suc a) ≡ false
test_apart a = grind (arith, nat_tests)

test_apart' : (a : ℕ) → eqb (suc a) zero ≡ false
test_apart' a = grind (arith, nat_tests)

test_refl : (a : ℕ) → eqb a a ≡ true
test_refl a = grind (arith, nat_tests)

pub test_true : (a b : ℕ) → eqb a b ≡ true → a ≡ b
test_true a b h = grind (arith, nat_tests, h)

test_false : (a b : ℕ) → a ≢ b → eqb a b ≡ false
test_false a b h = grind (arith, nat_tests, h)

pub get_set : {X : Type 0} (xs : List X) (at : ℕ) (z : X) (k : ℕ) → at < length xs → slice_get (slice_set xs at z) k ≡ cond (eqb k at) (Some z) (slice_get xs k)
get_set [] at z k h = absurd (omega arith)
get_set (x ∷ xs) zero z zero h = refl
get_set (x ∷ xs) zero z (suc k) h = rw (test_apart' k) refl
get_set (x ∷ xs) (suc at) z zero h = rw (test_apart at) refl
get_set (x ∷ xs) (suc at) z (suc k) h = rw (tests_same k at) (get_set xs at z k (omega arith))

pub get_push : {X : Type 0} (xs : List X) (y : X) (k : ℕ) → slice_get (xs ++ y ∷ []) k ≡ cond (eqb k (length xs)) (Some y) (slice_get xs k)
get_push [] y zero = refl
get_push [] y (suc k) = rw (test_apart' k) refl
get_push (x ∷ xs) y zero = rw (test_apart (length xs)) refl
get_push (x ∷ xs) y (suc k) = rw (tests_same k (length xs)) (get_push xs y k)

-- a read by an option
by_cond : {X : Type 0} (f : X → Option ℕ) (t : Bool) (x : X) (o : Option X) → option_and_then f (cond t (Some x) o) ≡ cond t (f x) (option_and_then f o)
by_cond f true x o = refl
by_cond f false x o = refl

pub read_set : (f : Node → Option ℕ) (nodes : List Node) (at : ℕ) (node : Node) (k : ℕ) → at < length nodes
    → option_and_then f (slice_get (slice_set nodes at node) k) ≡ cond (eqb k at) (f node) (option_and_then f (slice_get nodes k))
read_set f nodes at node k h = ap (option_and_then f) (get_set nodes at node k h) ∙ by_cond f (eqb k at) node (slice_get nodes k)

-- a field that is kept
pub read_kept : (f : Node → Option ℕ) (nodes : List Node) (at : ℕ) (node : Node) (k : ℕ) → at < length nodes
    → option_and_then f (slice_get nodes at) ≡ f node → option_and_then f (slice_get (slice_set nodes at node) k) ≡ option_and_then f (slice_get nodes k)
read_kept f nodes at node k h same =
    read_set f nodes at node k h
    ∙ elim (cases_Bool (eqb k at)) [
      | inl t ↦ rw t (sym same ∙ ap (λ j. option_and_then f (slice_get nodes j)) (sym (test_true k at t)))
      | inr t ↦ rw t refl
    ]

-- a node with no field is as none
pub read_push : (f : Node → Option ℕ) (nodes : List Node) (node : Node) (k : ℕ) → f node ≡ None
    → option_and_then f (slice_get (nodes ++ node ∷ []) k) ≡ option_and_then f (slice_get nodes k)
read_push f nodes node k none =
    ap (option_and_then f) (get_push nodes node k) ∙ by_cond f (eqb k (length nodes)) node (slice_get nodes k)
    ∙ elim (cases_Bool (eqb k (length nodes))) [
      | inl t ↦ rw t (none ∙ ap (option_and_then f) (sym (slice_get_past nodes k (let e = test_true k (length nodes) t in omega arith))))
      | inr t ↦ rw t refl
    ]

get_pushed : {X : Type 0} (xs : List X) (y : X) (k : ℕ) → k < length xs → slice_get (xs ++ y ∷ []) k ≡ slice_get xs k
get_pushed xs y k h = get_push xs y k ∙ ap (λ t. cond t (Some y) (slice_get xs k)) (test_false k (length xs) (omega arith))

-- a new node, as it is made
pub record IsEmpty (node : Node) : Type 0 where
  pub zero : child_of false node ≡ None
  pub one : child_of true node ≡ None
  pub place : place_of node ≡ None

-- the node with a child
pub record IsWithChild (node with : Node) (bit : Bool) (child : ℕ) : Type 0 where
  pub added : child_of bit with ≡ Some child
  pub other : child_of (not bit) with ≡ child_of (not bit) node
  pub place : place_of with ≡ place_of node

same_or_other : (bit b : Bool) → (b ≡ bit) ⊎ (b ≡ not bit)
same_or_other true true = inl refl
same_or_other true false = inr refl
same_or_other false true = inr refl
same_or_other false false = inl refl

pub empty_child : (node : Node) → IsEmpty node → (b : Bool) → child_of b node ≡ None
empty_child node e true = e.one
empty_child node e false = e.zero

pub grown_by_push : (nodes : List Node) (at : ℕ) (bit : Bool) (node new with : Node) (child : ℕ) → at < length nodes → slice_get nodes at ≡ Some node
    → child_at nodes at bit ≡ None → IsEmpty new → child ≡ length nodes → IsWithChild node with bit child
    → IsGrown nodes (slice_set (nodes ++ new ∷ []) at with) at bit child
grown_by_push nodes at bit node new with child in_at here none empty last w =
    let longer = length_push nodes new in
    let in_pushed : at < length (nodes ++ new ∷ []) = omega arith in
    let same : slice_get (nodes ++ new ∷ []) at ≡ Some node = get_pushed nodes new at in_at ∙ here in
    record {
      last = last;
      one_more = length-set (nodes ++ new ∷ []) at with ∙ longer;
      none = none;
      added = read_set (child_of bit) (nodes ++ new ∷ []) at with at in_pushed ∙ ap (λ t. cond t (child_of bit with) (child_at (nodes ++ new ∷ []) at bit)) (test_refl at) ∙ w.added;
      others = λ k b. elim (cases_Bool (eqb k at)) [
        | inl t ↦ elim (same_or_other bit b) [
          | inl s ↦ inr (test_true k at t, s)
          | inr o ↦ inl (
              read_kept (child_of b) (nodes ++ new ∷ []) at with k in_pushed
              (ap (option_and_then (child_of b)) same ∙ ap (λ x. child_of x node) o ∙ sym w.other ∙ ap (λ x. child_of x with) (sym o))
              ∙ read_push (child_of b) nodes new k (empty_child new empty b)
              )
        ]
        | inr t ↦ inl (
            read_set (child_of b) (nodes ++ new ∷ []) at with k in_pushed
            ∙ ap (λ v. cond v (child_of b with) (child_at (nodes ++ new ∷ []) k b)) t
            ∙ read_push (child_of b) nodes new k (empty_child new empty b)
            )
      ];
      places = λ k. read_kept place_of (nodes ++ new ∷ []) at with k in_pushed (ap (option_and_then place_of) same ∙ sym w.place)
          ∙ read_push place_of nodes new k empty.place;
    }
