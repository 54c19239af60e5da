-- The way of an address through a trie, and the longest prefix on it at which a place stands.
use Rattle.std.proofs.Common.{◌≡◌, ℕ, zero, suc, ◌+◌, ◌-◌, ◌/◌, ◌^◌, ◌<◌, ◌≤◌, List, length, Option, Some, None, refl, sym, ap, ◌∙◌, subst, arith, ⊎_elim}
use Rattle.std.specs.List.{slice_get}
use Rattle.std.specs.Option.{option_or, option_and_then}
use Rattle.std.proofs.lemmas.Bool.{cases_lt}
use Rattle.std.proofs.lemmas.Nat.{shr-shr, shr_below}
use Rattle.siit_eamt.specs.declared.trie.Node.{Node}
use Rattle.siit_eamt.specs.Trie.{reach, child_at, child_of, place_at, place_of, place_under, is_odd, first_bits, longest_place, IsTrie}
use Rattle.siit_eamt.proofs.Reach.{Children, step_reach, none_reach, first_reach}

-- one bit less is half the number
pub half_first : (w a d : ℕ) → d < w → first_bits w a (suc d) / 2 ≡ first_bits w a d
half_first w a d h =
    let k : (w - suc d) + 1 ≡ w - d = omega arith in
    shr-shr a (w - suc d) 1 ∙ ap (λ n. a / 2 ^ n) k

pub no_bits : (w a : ℕ) → a < 2 ^ w → first_bits w a 0 ≡ 0
no_bits w a h =
    let same : 0 + (w - 0) ≡ w = omega arith in
    let below : a / 2 ^ (w - 0) < 2 ^ 0 = shr_below a 0 (w - 0) (subst (λ (n : ℕ). a < 2 ^ n) (sym same) h) in
    omega arith

-- ---- longest_place, one length more and over lengths at which nothing stands
pub longest_more : (at : ℕ → ℕ → Option ℕ) (w a d : ℕ) → longest_place at w a (suc d) ≡ option_or (at (suc d) (first_bits w a (suc d))) (longest_place at w a d)
unfolding longest_place
longest_more at w a d = refl

pub longest_first : (at : ℕ → ℕ → Option ℕ) (w a : ℕ) → longest_place at w a zero ≡ at 0 (first_bits w a 0)
unfolding longest_place
longest_first at w a = refl

pub longest_stops : (at : ℕ → ℕ → Option ℕ) (w a d m : ℕ) → d ≤ m → ((l : ℕ) → d < l → l ≤ m → at l (first_bits w a l) ≡ None)
    → longest_place at w a m ≡ longest_place at w a d
longest_stops at w a d zero le none = ap (longest_place at w a) (omega arith)
longest_stops at w a d (suc m) le none =
    ⊎_elim
    (λ (lt : m < d). ap (longest_place at w a) (omega arith))
    (λ (ge : d ≤ m).
    longest_more at w a m ∙ ap (λ o. option_or o (longest_place at w a m)) (none (suc m) (omega arith) (omega arith))
    ∙ longest_stops at w a d m ge (λ l lt le. none l lt (omega arith)))
    (cases_lt m d)

pub nothing_longest : (at : ℕ → ℕ → Option ℕ) (w a d : ℕ) → longest_place at w a d ≡ None → (l : ℕ) → l ≤ d → at l (first_bits w a l) ≡ None
nothing_longest at w a zero h l le =
    let same : 0 ≡ l = omega arith in
    subst (λ (n : ℕ). at n (first_bits w a n) ≡ None) same (sym (longest_first at w a) ∙ h)
nothing_longest at w a (suc d) h l le =
    let parts = or_is_none (at (suc d) (first_bits w a (suc d))) (longest_place at w a d) (sym (longest_more at w a d) ∙ h) in
    ⊎_elim
    (λ (lt : d < l). let same : suc d ≡ l = omega arith in subst (λ (n : ℕ). at n (first_bits w a n) ≡ None) same parts.0)
    (λ (ge : l ≤ d). nothing_longest at w a d parts.1 l ge)
    (cases_lt d l)
  where
    or_is_none : (o p : Option ℕ) → option_or o p ≡ None → (o ≡ None) × (p ≡ None)
    or_is_none None p h = (refl, h)
    or_is_none (Some x) p h = absurd cc

-- the length at which the place stands, and none stands at a greater one
pub record IsLongestAtLength (at : ℕ → ℕ → Option ℕ) (w a d place len : ℕ) : Type 0 where
  pub within : len ≤ d
  pub here : at len (first_bits w a len) ≡ Some place
  pub none_longer : (l : ℕ) → len < l → l ≤ d → at l (first_bits w a l) ≡ None

longer_is : (at : ℕ → ℕ → Option ℕ) (w a d place : ℕ) (o : Option ℕ) → at (suc d) (first_bits w a (suc d)) ≡ o
    → option_or o (longest_place at w a d) ≡ Some place
    → ((longest_place at w a d ≡ Some place) → (len : ℕ) × IsLongestAtLength at w a d place len)
    → (len : ℕ) × IsLongestAtLength at w a (suc d) place len
longer_is at w a d place (Some p) is h shorter =
    (suc d, record { within = omega arith; here = is ∙ h; none_longer = λ l lt le. absurd (omega arith) })
longer_is at w a d place None is h shorter =
    let rest = shorter h in (
      rest.0,
      record {
        within = let within = rest.1.within in omega arith;
        here = rest.1.here;
        none_longer = λ l lt le. ⊎_elim
            (λ (more : d < l). let same : suc d ≡ l = omega arith in subst (λ (n : ℕ). at n (first_bits w a n) ≡ None) same is)
            (λ (less : l ≤ d). rest.1.none_longer l lt less)
            (cases_lt d l);
      },
    )

pub longest_is_at : (at : ℕ → ℕ → Option ℕ) (w a d place : ℕ) → longest_place at w a d ≡ Some place → (len : ℕ) × IsLongestAtLength at w a d place len
longest_is_at at w a zero place h =
    (0, record { within = omega arith; here = sym (longest_first at w a) ∙ h; none_longer = λ l lt le. absurd (omega arith) })
longest_is_at at w a (suc d) place h =
    longer_is at w a d place (at (suc d) (first_bits w a (suc d))) refl (sym (longest_more at w a d) ∙ h)
    (λ shorter. longest_is_at at w a d place shorter)

-- ---- the way of an address
pub reach_more : (f : Children) (w a d m at : ℕ) (o : Option ℕ) → m ≡ suc d → d < w → reach f d (first_bits w a d) ≡ Some at
    → f at (is_odd (first_bits w a m)) ≡ o → reach f m (first_bits w a m) ≡ o
reach_more f w a d m at o next more there here =
    let P : ℕ → Type 0 = λ n. f at (is_odd (first_bits w a n)) ≡ o → reach f n (first_bits w a n) ≡ o in
    subst P (sym next) (λ there'. step_reach f d (first_bits w a (suc d)) at o (ap (reach f d) (half_first w a d more) ∙ there) there') here

pub place_of_reached : (nodes : List Node) (l v at : ℕ) (node : Node) → reach (child_at nodes) l v ≡ Some at → slice_get nodes at ≡ Some node
    → place_under nodes l v ≡ place_of node
place_of_reached nodes l v at node there here = ap (option_and_then (place_at nodes)) there ∙ ap (option_and_then place_of) here

pub ends_below : (f : Children) (w a d m : ℕ) → d ≤ m → m ≤ w → reach f d (first_bits w a d) ≡ None → reach f m (first_bits w a m) ≡ None
ends_below f w a d zero le in_w h = let same : d ≡ 0 = omega arith in subst (λ (n : ℕ). reach f n (first_bits w a n) ≡ None) same h
ends_below f w a d (suc m) le in_w h =
    ⊎_elim
    (λ (lt : m < d). let same : d ≡ suc m = omega arith in subst (λ (n : ℕ). reach f n (first_bits w a n) ≡ None) same h)
    (λ (ge : d ≤ m). none_reach f m (first_bits w a (suc m))
    (ap (reach f m) (half_first w a m (omega arith)) ∙ ends_below f w a d m ge (omega arith) h))
    (cases_lt m d)

-- the node of so many bits of an address, and the longest place so far
pub record IsOnWay (nodes : List Node) (w a d : ℕ) (node : Node) (longest : Option ℕ) : Type 0 where
  pub at : ℕ
  pub reached : reach (child_at nodes) d (first_bits w a d) ≡ Some at
  pub read : slice_get nodes at ≡ Some node
  pub longest_is : longest ≡ longest_place (place_under nodes) w a d

pub reach_begins : (f : Children) (w a : ℕ) → a < 2 ^ w → reach f 0 (first_bits w a 0) ≡ Some 0
reach_begins f w a small = ap (reach f 0) (no_bits w a small) ∙ first_reach f

pub way_begins : (nodes : List Node) (w a : ℕ) (node : Node) (longest : Option ℕ) → a < 2 ^ w → slice_get nodes 0 ≡ Some node → longest ≡ place_of node
    → IsOnWay nodes w a 0 node longest
way_begins nodes w a node longest small read is =
    let reached = reach_begins (child_at nodes) w a small in
    record {
      at = 0;
      reached = reached;
      read = read;
      longest_is = is ∙ sym (place_of_reached nodes 0 (first_bits w a 0) 0 node reached read) ∙ sym (longest_first (place_under nodes) w a);
    }

module _ (nodes : List Node) (w a d m : ℕ) (node : Node) (longest : Option ℕ) (way : IsOnWay nodes w a d node longest) (more : d < w) (next : m ≡ suc d) where
  child_is : (o : Option ℕ) → o ≡ child_of (is_odd (first_bits w a m)) node → child_at nodes way.at (is_odd (first_bits w a m)) ≡ o
  child_is o is = ap (option_and_then (child_of (is_odd (first_bits w a m)))) way.read ∙ sym is

  pub way_within : IsTrie nodes → (child : ℕ) → Some child ≡ child_of (is_odd (first_bits w a m)) node → child < length nodes
  way_within trie child is = trie.inside way.at child (is_odd (first_bits w a m)) (child_is (Some child) is)

  pub way_goes_on : (child : ℕ) (at_child : Node) (longest' : Option ℕ) → Some child ≡ child_of (is_odd (first_bits w a m)) node
      → slice_get nodes child ≡ Some at_child → longest' ≡ option_or (place_of at_child) longest → IsOnWay nodes w a m at_child longest'
  way_goes_on child at_child longest' is read longer =
      let reached = reach_more (child_at nodes) w a d m way.at (Some child) next more way.reached (child_is (Some child) is) in
      let here = place_of_reached nodes m (first_bits w a m) child at_child reached read in
      let longest_here : longest_place (place_under nodes) w a m ≡ option_or (place_under nodes m (first_bits w a m)) (longest_place (place_under nodes) w a d) =
      subst (λ (n : ℕ). longest_place (place_under nodes) w a n ≡ option_or (place_under nodes n (first_bits w a n)) (longest_place (place_under nodes) w a d)) (sym next)
      (longest_more (place_under nodes) w a d) in
      record {
        at = child;
        reached = reached;
        read = read;
        longest_is = longer ∙ ap (option_or (place_of at_child)) way.longest_is
            ∙ ap (λ o. option_or o (longest_place (place_under nodes) w a d)) (sym here) ∙ sym longest_here;
      }

  pub way_ends : None ≡ child_of (is_odd (first_bits w a m)) node → longest ≡ longest_place (place_under nodes) w a w
  way_ends is =
      let ended = reach_more (child_at nodes) w a d m way.at None next more way.reached (child_is None is) in
      way.longest_is ∙ sym (longest_stops (place_under nodes) w a d w (omega arith)
      (λ l lt le. ap (option_and_then (place_at nodes)) (ends_below (child_at nodes) w a m l (omega arith) le ended)))
