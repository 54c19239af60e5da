-- The entry whose place is the answer for an address.
use Rattle.std.proofs.Common.{◌≡◌, ℕ, ◌<◌, Bool, true, List, length, Option, Some, None, option_map, refl, sym, ap, ◌∙◌, subst}
use Rattle.std.specs.List.{slice_get}
use Rattle.std.proofs.lemmas.Option.{same_Some, slice_get_within}
use Rattle.siit_eamt.specs.declared.entry.Eam.{Eam}
use Rattle.siit_eamt.specs.declared.interval.Interval.{Interval}
use Rattle.siit_eamt.specs.Entries.{longest}
use Rattle.siit_eamt.specs.Intervals.{AnswerAs, IsAnswer}
use Rattle.siit_eamt.proofs.Accepted.{held_from_longest}

-- an option that a function gave
pub none_mapped : {X Y : Type 0} (f : X → Y) (o : Option X) → None ≡ option_map f o → o ≡ None
none_mapped f None h = refl
none_mapped f (Some x) h = absurd cc

some_mapped : (o : Option (ℕ × Eam)) (place : ℕ) → Some place ≡ option_map (λ best. best.0) o → (e : Eam) × (o ≡ Some (place, e))
some_mapped None place h = absurd cc
some_mapped (Some best) place h = (best.1, ap (λ n. Some (n, best.1)) (same_Some best.0 place (sym h)))

-- what intervals answer, by the number that stands for the address
pub answer_is : (wanted : ℕ → Option ℕ) (bound : ℕ) (intervals : List Interval) (number address : ℕ) (answer is : Option ℕ) → AnswerAs wanted bound intervals
    → number ≡ address → number < bound → IsAnswer intervals number answer → answer ≡ is → is ≡ wanted address
answer_is wanted bound intervals number address answer is answers same below found e =
    sym e ∙ answers number answer below found ∙ ap wanted same

module _ (holds : Eam → Bool) (len : Eam → ℕ) (entries : List Eam) where
  pub found_none : None ≡ option_map (λ best. best.0) (longest holds len entries) → longest holds len entries ≡ None
  found_none h = none_mapped (λ (best : ℕ × Eam). best.0) (longest holds len entries) h

  module _ (place : ℕ) (is : Some place ≡ option_map (λ best. best.0) (longest holds len entries)) where
    found : (e : Eam) × (longest holds len entries ≡ Some (place, e)) × (slice_get entries place ≡ Some e) × (holds e ≡ true)
    found =
        let best = some_mapped (longest holds len entries) place is in
        let held = held_from_longest holds len entries place best.0 best.1 in
        (best.0, best.1, held.0, held.1)

    pub found_within : place < length entries
    found_within = slice_get_within entries place found.0 found.2

    module _ (e : Eam) (here : slice_get entries place ≡ Some e) where
      pub found_held : holds e ≡ true
      found_held = subst (λ (f : Eam). holds f ≡ true) (same_Some found.0 e (sym found.2 ∙ here)) found.3

      pub found_best : longest holds len entries ≡ Some (place, e)
      found_best = found.1 ∙ ap (λ (f : Eam). Some (place, f)) (same_Some found.0 e (sym found.2 ∙ here))
