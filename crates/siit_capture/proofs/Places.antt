-- Parts of the memory of a queue.
use Rattle.std.proofs.Common.{◌≡◌, ℕ, ◌+◌, ◌-◌, ◌≤◌, List, ◌∙◌, ap, sym, take, drop, arith}
use Rattle.std.specs.List.{slice_range}
use Rattle.std.proofs.lemmas.List.{drop-take, drop-drop, take-take}

-- the part behind its first n bytes
pub slice_range-drop : (xs : List ℕ) (start n end : ℕ) → start + n ≤ end → slice_range xs (start + n) end ≡ drop n (slice_range xs start end)
slice_range-drop xs start n end fits =
    let rest : ℕ = end - (start + n) in
    let sum : end - start ≡ n + rest = omega arith in
    ap (take rest) (sym (drop-drop n start xs)) ∙ sym (drop-take n rest (drop start xs)) ∙ sym (ap (λ k. drop n (take k (drop start xs))) sum)

-- its first n bytes
pub slice_range-take : (xs : List ℕ) (start n end : ℕ) → start + n ≤ end → slice_range xs start (start + n) ≡ take n (slice_range xs start end)
slice_range-take xs start n end fits =
    let sum : start + n - start ≡ n = omega arith in
    ap (λ k. take k (drop start xs)) sum ∙ sym (take-take n (end - start) (drop start xs) (omega arith))
