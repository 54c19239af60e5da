-- Between neighbours of a list in which prefixes begin and end, all addresses have the same entry.
use Rattle.std.proofs.Common.{◌≡◌, ℕ, ◌+◌, ◌-◌, ◌*◌, ◌/◌, ◌%◌, ◌^◌, ◌<◌, ◌≤◌, Bool, true, false, ◌&&◌, eqb, List, length, get_or, map, All, Contains, Option, Some, None, option_map, refl, sym, ap, ◌∙◌, subst, arith, ⊎_elim}
use Rattle.std.specs.List.{position, slice_get}
use Rattle.std.specs.List.Sorted.{IsNonDecreasingBy}
use Rattle.std.proofs.lemmas.Bool.{cases_lt}
use Rattle.std.proofs.lemmas.Bool.Decides.{nat_tests}
use Rattle.std.proofs.lemmas.List.{length-map}
use Rattle.std.proofs.lemmas.Nat.{pow_pos}
use Rattle.std.proofs.lemmas.Option.{slice_get_within, slice_get-get_or, get_or_from_slice_get, slice_get-map}
use Rattle.siit_addr.specs.Addresses.{agree}
use Rattle.siit_eamt.specs.declared.entry.Eam.{Eam}
use Rattle.siit_eamt.specs.declared.interval.Interval.{Interval}
use Rattle.siit_eamt.specs.declared.starts.Block.{Block}
use Rattle.siit_eamt.specs.declared.trie.Node.{Node}
use Rattle.siit_eamt.specs.Cutting.{interval_from}
use Rattle.siit_eamt.specs.Entries.{longest}
use Rattle.siit_eamt.specs.Intervals.{AnswerAs, HasBegun, IsAnswer}
use Rattle.siit_eamt.specs.Starts.{AreAscendingStarts, AreStarts}
use Rattle.siit_eamt.specs.Trie.{first_bits, longest_place, place_under}
use Rattle.siit_eamt.proofs.Best.{best_of_none, best_of_place}
use Rattle.siit_eamt.proofs.Longest.{IsLongestOf, IsLongestOf-longest, longest_is}
use Rattle.siit_eamt.proofs.Powers.{above_multiple, agrees_above}

-- an address and the greatest element that isn't above it lie on the same side of each element
same_side : (starts : List ℕ) → IsNonDecreasingBy (λ start. start) starts → (place first address : ℕ) → slice_get starts place ≡ Some first
    → ((next : ℕ) → slice_get starts (place + 1) ≡ Some next → address < next)
    → (bound : ℕ) → Contains starts bound → bound ≤ address → bound ≤ first
same_side starts up place first address here ahead bound among le =
    let k : ℕ = among.0 in
    let in_k : k < length starts = among.1 in
    let is : get_or starts k bound ≡ bound = among.2 in
    ⊎_elim
    (λ (lt : place < k).
    let in_next : place + 1 < length starts = omega arith in
    let next = ahead (get_or starts (place + 1) bound) (slice_get-get_or starts (place + 1) bound in_next) in
    let rises = up (place + 1) k bound (omega arith) in_k in
    absurd (omega arith))
    (λ (ge : k ≤ place).
    let within = slice_get_within starts place first here in
    let rises = up k place bound ge within in
    let first_is = get_or_from_slice_get starts place first bound here in
    omega arith)
    (cases_lt place k)

same_tests : (b c : Bool) → (b ≡ true → c ≡ true) → (c ≡ true → b ≡ true) → b ≡ c
same_tests true c f g = sym (f refl)
same_tests false true f g = g refl
same_tests false false f g = refl

-- what a prefix holds is a range
module _ (w l p : ℕ) (clean : p % 2 ^ (w - l) ≡ 0) where
  held_between : (a : ℕ) → agree w l a p ≡ true → (p ≤ a) × (a < p + 2 ^ (w - l))
  held_between a held =
      let same : a / 2 ^ (w - l) ≡ p / 2 ^ (w - l) = grind (arith, nat_tests, held) in
      let above = above_multiple a p (2 ^ (w - l)) (pow_pos (w - l)) same clean in
      (above.0, let small = above.1 in let from = above.0 in omega arith)

  held_from : (a : ℕ) → p ≤ a → a < p + 2 ^ (w - l) → agree w l a p ≡ true
  held_from a from before =
      let is : p + (a - p) ≡ a = omega arith in
      let same : a / 2 ^ (w - l) ≡ p / 2 ^ (w - l) = ap (λ n. n / 2 ^ (w - l)) (sym is) ∙ agrees_above p (a - p) (2 ^ (w - l)) (omega arith) clean in
      grind (arith, nat_tests, same)

  held_same : (first address : ℕ) → first ≤ address → (p ≤ address → p ≤ first) → (p + 2 ^ (w - l) ≤ address → p + 2 ^ (w - l) ≤ first)
      → agree w l first p ≡ agree w l address p
  held_same first address le begins ends =
      same_tests (agree w l first p) (agree w l address p)
      (λ held.
      let between = held_between first held in
      held_from address (omega (arith, between.0))
      (⊎_elim (λ (lt : address < p + 2 ^ (w - l)). lt) (λ (ge : p + 2 ^ (w - l) ≤ address). let ended = ends ge in let inside = between.1 in absurd (omega arith))
      (cases_lt address (p + 2 ^ (w - l)))))
      (λ held.
      let between = held_between address held in
      let from = begins between.0 in
      held_from first from (let inside = between.1 in omega arith))

-- entries that hold the same are longest for the same
holds_same : (f g : Eam → Bool) (len : Eam → ℕ) (entries : List Eam) → ((k : ℕ) (e : Eam) → slice_get entries k ≡ Some e → f e ≡ g e)
    → (best : Option (ℕ × Eam)) → IsLongestOf f len entries best → IsLongestOf g len entries best
holds_same f g len entries same None none = λ k e here. sym (same k e here) ∙ none k e here
holds_same f g len entries same (Some best) is = record {
  here = is.here;
  passes = sym (same best.0 best.1 is.here) ∙ is.passes;
  upper = λ k e here holds. is.upper k e here (same k e here ∙ holds);
  first = λ k e lt here holds. is.first k e lt here (same k e here ∙ holds);
}

longest_same : (f g : Eam → Bool) (len : Eam → ℕ) (entries : List Eam) → ((k : ℕ) (e : Eam) → slice_get entries k ≡ Some e → f e ≡ g e)
    → longest g len entries ≡ longest f len entries
longest_same f g len entries same =
    longest_is g len entries (longest f len entries) (holds_same f g len entries same (longest f len entries) (IsLongestOf-longest f len entries))

-- an element of a list of which all have a property
at_place : {X : Type 0} (P : X → Type 0) (xs : List X) (k : ℕ) (x : X) → All P xs → slice_get xs k ≡ Some x → P x
at_place P xs k x all here = subst P (get_or_from_slice_get xs k x x here) (all k x (slice_get_within xs k x here))

-- an element of a list that a function gave
was_mapped : {X Y : Type 0} (f : X → Y) (o : Option X) (y : Y) → option_map f o ≡ Some y → (x : X) × (o ≡ Some x) × (f x ≡ y)
was_mapped f None y h = absurd cc
was_mapped f (Some x) y h = (x, refl, cc)

-- the entries of one family, and the trie of their prefixes
module _ (w : ℕ) (len addr : Eam → ℕ) (in_range : (e : Eam) → len e ≤ w) (entries : List Eam)
    (clean : (k : ℕ) (e : Eam) → slice_get entries k ≡ Some e → addr e % 2 ^ (w - len e) ≡ 0) (nodes : List Node)
    (stands : (l v : ℕ) → place_under nodes l v ≡ position (λ e. eqb (len e) l && eqb (first_bits w (addr e) l) v) entries) where
  abbrev pub wanted : ℕ → Option ℕ
  wanted a = option_map (λ best. best.0) (longest (λ e. agree w (len e) a (addr e)) len entries)

  place_is : (a : ℕ) (o : Option ℕ) → longest_place (place_under nodes) w a w ≡ o → o ≡ wanted a
  place_is a None h = sym (ap (option_map (λ (best : ℕ × Eam). best.0)) (best_of_none w len addr in_range entries (place_under nodes) stands a h))
  place_is a (Some place) h =
      let best = best_of_place w len addr in_range entries (place_under nodes) stands a place h in
      sym (ap (option_map (λ (best : ℕ × Eam). best.0)) best.3)

  module _ (block : Eam → Block) (first_is : (e : Eam) → (block e).first ≡ addr e) (bits_are : (e : Eam) → (block e).bits ≡ w - len e)
      (highest : ℕ) (highest_is : highest + 1 ≡ 2 ^ w) (starts : List ℕ) (are : AreAscendingStarts (map block entries) highest starts) where
    begins_among : (k : ℕ) (e : Eam) → slice_get entries k ≡ Some e → Contains starts (addr e)
    begins_among k e here =
        subst (Contains starts) (first_is e)
        (at_place (λ (b : Block). Contains starts b.first) (map block entries) k (block e) are.all.firsts (slice_get-map block entries k ∙ ap (option_map block) here))

    ends_among : (k : ℕ) (e : Eam) → slice_get entries k ≡ Some e → addr e + 2 ^ (w - len e) < 2 ^ w → Contains starts (addr e + 2 ^ (w - len e))
    ends_among k e here below =
        let end : (block e).first + 2 ^ (block e).bits ≡ addr e + 2 ^ (w - len e) =
        ap (λ n. n + 2 ^ (block e).bits) (first_is e) ∙ ap (λ n. addr e + 2 ^ n) (bits_are e) in
        subst (Contains starts) end
        (at_place (λ (b : Block). b.first + 2 ^ b.bits ≤ highest → Contains starts (b.first + 2 ^ b.bits)) (map block entries) k (block e) are.all.ends
        (slice_get-map block entries k ∙ ap (option_map block) here) (omega arith))

    pub cut_answers : AnswerAs wanted (2 ^ w) (map (interval_from nodes w) starts)
    cut_answers address answer below is =
        let start = was_mapped (interval_from nodes w) (slice_get starts is.place) is.interval (sym (slice_get-map (interval_from nodes w) starts is.place) ∙ is.here) in
        let first : ℕ = start.0 in
        let here : slice_get starts is.place ≡ Some first = start.1 in
        let interval_is : interval_from nodes w first ≡ is.interval = start.2 in
        let begun : first ≤ address = is.lies.begun (interval_from nodes w first) (slice_get-map (interval_from nodes w) starts is.place ∙ ap (option_map (interval_from nodes w)) here) in
        let ahead : (next : ℕ) → slice_get starts (is.place + 1) ≡ Some next → address < next =
        λ next there. is.lies.ahead (interval_from nodes w next) (slice_get-map (interval_from nodes w) starts (is.place + 1) ∙ ap (option_map (interval_from nodes w)) there) in
        let side : (bound : ℕ) → Contains starts bound → bound ≤ address → bound ≤ first = same_side starts are.ascending is.place first address here ahead in
        let same : wanted address ≡ wanted first =
        ap (option_map (λ (best : ℕ × Eam). best.0))
        (longest_same (λ e. agree w (len e) first (addr e)) (λ e. agree w (len e) address (addr e)) len entries
        (λ k e there. held_same w (len e) (addr e) (clean k e there) first address begun (λ le. side (addr e) (begins_among k e there) le)
        (λ le. side (addr e + 2 ^ (w - len e)) (ends_among k e there (omega arith)) le))) in
        sym is.has ∙ ap (λ (i : Interval). i.place) (sym interval_is) ∙ place_is first (longest_place (place_under nodes) w first w) refl ∙ sym same

    pub cut_begins : (address : ℕ) → HasBegun (map (interval_from nodes w) starts) 0 address
    cut_begins address interval here =
        let start = was_mapped (interval_from nodes w) (slice_get starts 0) interval (sym (slice_get-map (interval_from nodes w) starts 0) ∙ here) in
        let first_is : get_or starts 0 0 ≡ start.0 = get_or_from_slice_get starts 0 start.0 0 start.1 in
        let zero = are.all.zero in
        let rises = are.ascending 0 zero.0 0 (omega arith) zero.1 in
        let none : get_or starts zero.0 0 ≡ 0 = zero.2 in
        let first : interval.first ≡ start.0 = ap (λ (i : Interval). i.first) (sym start.2) in
        omega arith
