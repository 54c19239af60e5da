-- A binary trie. A prefix is a length and the number that its bits are, the first bit the highest. A node's number is
-- its place in the list of nodes.
use Rattle.std.specs.Prelude.{◌≡◌, ℕ, zero, suc, ◌+◌, ◌-◌, ◌/◌, ◌%◌, ◌^◌, ◌<◌, List, length, Bool, true, false, ◌&&◌, ◌==◌, if◌then◌else◌, ◌⊎◌, Option, Some, None, option_and_then}
use Rattle.std.specs.List.{slice_get}
use Rattle.std.specs.Option.{option_or}
use Rattle.siit_eamt.specs.declared.trie.Node.{Node}

-- the number in a field of a node, of which the highest stands for none
abbrev pub number_in : ℕ → Option ℕ
number_in field = if field == 2 ^ 32 - 1 then None else Some field

abbrev pub child_of : Bool → Node → Option ℕ
child_of false node = number_in node.zero
child_of true node = number_in node.one

abbrev pub place_of : Node → Option ℕ
place_of node = number_in node.place

-- the first bits of an address of so many bits, and whether the last of them is set
abbrev pub first_bits : (width address len : ℕ) → ℕ
first_bits width address len = address / 2 ^ (width - len)

abbrev pub is_odd : ℕ → Bool
is_odd value = (value % 2) == 1

abbrev pub child_at : List Node → ℕ → Bool → Option ℕ
child_at nodes at bit = option_and_then (child_of bit) (slice_get nodes at)

-- the node of a prefix, found from the first node on, one bit after the other
unfoldable pub reach : (ℕ → Bool → Option ℕ) → (len value : ℕ) → Option ℕ
reach child zero zero = Some 0
reach child zero (suc value) = None
reach child (suc len) value = option_and_then (λ at. child at (is_odd value)) (reach child len (value / 2))

-- the place that a node keeps
abbrev pub place_at : List Node → ℕ → Option ℕ
place_at nodes at = option_and_then place_of (slice_get nodes at)

-- the place that stands at a prefix
abbrev pub place_under : List Node → (len value : ℕ) → Option ℕ
place_under nodes len value = option_and_then (place_at nodes) (reach (child_at nodes) len value)

-- the places once one more was put at a prefix, where none stood before
abbrev pub with_place : (ℕ → ℕ → Option ℕ) → (len value place : ℕ) → (ℕ → ℕ → Option ℕ)
with_place places len value place l v =
    option_or (places l v) (if len == l && value == v then Some place else None)

-- the place at the longest prefix of an address at which one stands, among those up to a length
unfoldable pub longest_place : (ℕ → ℕ → Option ℕ) → (width address len : ℕ) → Option ℕ
longest_place places width address zero = places 0 (first_bits width address 0)
longest_place places width address (suc len) =
    option_or (places (suc len) (first_bits width address (suc len))) (longest_place places width address len)

-- there is a first node, children are nodes, and no node is the node of two prefixes
pub record IsTrie (nodes : List Node) : Type 0 where
  pub first : 0 < length nodes
  pub inside : (at child : ℕ) (bit : Bool) → child_at nodes at bit ≡ Some child → child < length nodes
  pub one_prefix : (at len value l v : ℕ) → reach (child_at nodes) len value ≡ Some at
      → reach (child_at nodes) l v ≡ Some at → (len ≡ l) × (value ≡ v)

-- one node more, a child where there was none; no other child and no place is another
pub record IsGrown (before after : List Node) (at : ℕ) (bit : Bool) (child : ℕ) : Type 0 where
  pub last : child ≡ length before
  pub one_more : length after ≡ length before + 1
  pub none : child_at before at bit ≡ None
  pub added : child_at after at bit ≡ Some child
  pub others : (k : ℕ) (b : Bool) → child_at after k b ≡ child_at before k b ⊎ (k ≡ at) × (b ≡ bit)
  pub places : (k : ℕ) → place_at after k ≡ place_at before k

-- the trie of the same places, in which each prefix has the node that it had
pub record IsSameTrie (before after : List Node) : Type 0 where
  pub shape : IsTrie after
  pub nodes : (len value at : ℕ) → reach (child_at before) len value ≡ Some at
      → reach (child_at after) len value ≡ Some at
  pub places : (len value : ℕ) → place_under after len value ≡ place_under before len value
