-- The canonical text of groups as it is written piece by piece.
use Rattle.std.proofs.Common.{◌≡◌, ℕ, ◌+◌, ◌-◌, ◌<◌, ◌≤◌, List, [], ◌∷◌, ◌++◌, length, take, drop, refl, ap, sym, ◌∙◌}
use Rattle.std.proofs.lemmas.Bool.{le-ltb, lt-ltb}
use Rattle.std.proofs.lemmas.List.{take_rest}
use Rattle.siit_addr.specs.Texts.{colon}
use Rattle.siit_addr.specs.Canonical.{joined, longest_run, first_run, groups_text}

-- groups with "::" for a run of zero groups
abbrev gap_text : List ℕ → ℕ → ℕ → List ℕ
gap_text groups place run = joined (take place groups) ++ colon ∷ colon ∷ [] ++ joined (drop (place + run) groups)

groups_text-gap : (groups : List ℕ) → 2 ≤ longest_run groups → groups_text groups ≡ gap_text groups (first_run (longest_run groups) groups) (longest_run groups)
groups_text-gap groups two = rw (le-ltb (longest_run groups) 2 two) refl

-- the text is written in three pieces where the longest run has two groups or more
pub written_with_gap : (groups left colons all : List ℕ) (place run n : ℕ) → length groups ≡ n → run ≡ longest_run groups → place ≡ first_run run groups → 2 ≤ run → left ≡ joined (take place groups) → colons ≡ left ++ colon ∷ colon ∷ [] → all ≡ colons ++ joined (take (n - (place + run)) (drop (place + run) groups)) → all ≡ groups_text groups
written_with_gap groups left colons all place run n count longest first two l c a =
    a ∙ ap (λ rest. colons ++ joined rest) (ap (λ n. take (n - (place + run)) (drop (place + run) groups)) (sym count) ∙ take_rest groups (place + run))
    ∙ ap (λ front. front ++ joined (drop (place + run) groups)) (c ∙ ap (λ front. front ++ colon ∷ colon ∷ []) l)
    ∙ rw (first, longest) (sym (groups_text-gap groups (rw (← longest) two)))

-- and in one where it has fewer
pub written_without_gap : (groups all : List ℕ) (run : ℕ) → run ≡ longest_run groups → run < 2 → all ≡ joined groups → all ≡ groups_text groups
written_without_gap groups all run longest few a = a ∙ rw (lt-ltb (longest_run groups) 2 (rw (← longest) few)) refl
