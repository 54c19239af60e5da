-- A list of groups round its first longest run of zero groups.
use Rattle.std.proofs.Common.{◌≡◌, ℕ, zero, suc, ◌+◌, ◌≤◌, inl, inr, List, [], ◌∷◌, ◌++◌, take, drop, replicate, refl, ap, ◌∙◌, arith, zero-add, one-add}
use Rattle.std.proofs.lemmas.Bool.{cases_lt, cases_eq, le-leb, lt-leb, eq-eqb, ne_eqb}
use Rattle.std.proofs.Math.Nat.{suc-add}
use Rattle.siit_addr.specs.Canonical.{zeros_ahead, longest_run, first_run}

-- groups that begin with n zero groups
front_zeros : (n : ℕ) (groups : List ℕ) → n ≤ zeros_ahead groups → groups ≡ replicate n 0 ++ drop n groups
front_zeros zero groups h = refl
front_zeros (suc n) [] h = absurd (omega arith)
front_zeros (suc n) (group ∷ groups) h =
    elim (cases_eq group 0) [
      | inl is ↦
          let more : suc n ≤ 1 + zeros_ahead groups = rw (eq-eqb group 0 is) at h in
          ap (λ g. g ∷ groups) is ∙ ap (λ rest. 0 ∷ rest) (front_zeros n groups (omega arith))
      | inr ne ↦ let less : suc n ≤ 0 = rw (ne_eqb group 0 ne) at h in absurd (omega arith)
    ]

pub round_run : (n : ℕ) (groups : List ℕ) → n ≤ longest_run groups → groups ≡ take (first_run n groups) groups ++ (replicate n 0 ++ drop (first_run n groups + n) groups)
round_run zero [] h = refl
round_run (suc n) [] h = absurd (omega arith)
round_run n (group ∷ groups) h =
    let zeros = zeros_ahead (group ∷ groups) in
    elim (cases_lt zeros n) [
      | inl fewer ↦
          rw (lt-leb n zeros fewer)
          (rw (one-add, suc-add)
          (ap (λ rest. group ∷ rest) (round_run n groups (omega arith))))
      | inr here ↦ rw (le-leb n zeros here, zero-add) (front_zeros n (group ∷ groups) here)
    ]
