-- An upper part whose first bytes are translated, and of which the end is cut.
use Rattle.std.proofs.Common.{◌≡◌, ◌⊎◌, ℕ, ◌+◌, ◌-◌, ◌%◌, ◌<◌, ◌≤◌, List, ◌++◌, length, min, take, drop, ◌∙◌, ap, sym, subst, arith, append-nil, length-drop, take_all, inl, inr, ⊎_elim}
use Rattle.std.proofs.lemmas.Bool.{cases_lt}
use Rattle.std.proofs.lemmas.List.{drop-take, length-take-le, take-append-drop, take-take}
use Rattle.std.proofs.Math.Seq.{take-add}
use Rattle.siit_model.specs.Checksum.{residue}
use Rattle.siit_quoted.specs.Sums.{IsPartDifference}
use Rattle.siit_quoted.proofs.PartSums.{fronts-difference, residues-are, whole-difference}

-- of a translation that stays the same behind its first bytes: enough of the first bytes, translated, are the first
-- bytes of the translated part
pub front-moved : (made : List ℕ → List ℕ) (n : ℕ) (part : List ℕ) → (18 ≤ n → made (take n part) ≡ take n (made part)) → length (made part) ≡ length part
    → (18 ≤ n) ⊎ (length part ≤ n) → made (take n part) ≡ take n (made part)
front-moved made n part commutes size enough =
    ⊎_elim (λ (long : 18 ≤ n). commutes long)
    (λ (short : length part ≤ n). ap made (take_all n part short) ∙ sym (take_all n (made part) (subst (λ k. k ≤ n) (sym size) short)))
    enough

-- as many first bytes as are looked at are enough, where all is kept if little is
pub enough-kept : (kept len : ℕ) → (kept < 20 → len ≡ kept) → (18 ≤ min kept 20) ⊎ (len ≤ min kept 20)
enough-kept kept len all =
    ⊎_elim (λ (short : kept < 20). let is = all short in inr (omega arith)) (λ (long : 20 ≤ kept). inl (omega arith)) (cases_lt kept 20)

-- what is kept of a translated part: its first bytes, and bytes that stay
pub kept-front : (moved upper there front : List ℕ) (kept m : ℕ) → upper ≡ take m there → kept ≤ m → drop 20 moved ≡ drop 20 upper → front ≡ take (min kept 20) moved
    → take kept moved ≡ front ++ take (kept - 20) (drop 20 there)
kept-front moved upper there front kept m is_upper most same is_front =
    let sum : kept ≡ min kept 20 + (kept - 20) = omega arith in
    ap (λ n. take n moved) sum ∙ take-add (min kept 20) (kept - 20) moved ∙ ap (λ l. l ++ take (kept - 20) (drop (min kept 20) moved)) (sym is_front)
    ∙ ap (λ l. front ++ l) rest
  where
    rest : take (kept - 20) (drop (min kept 20) moved) ≡ take (kept - 20) (drop 20 there)
    rest =
        ⊎_elim
        (λ (short : kept < 20).
        let none : kept - 20 ≡ 0 = omega arith in ap (λ n. take n (drop (min kept 20) moved)) none ∙ sym (ap (λ n. take n (drop 20 there)) none))
        (λ (long : 20 ≤ kept).
        let twenty : min kept 20 ≡ 20 = omega arith in
        let sum : m ≡ 20 + (m - 20) = omega arith in
        ap (λ n. take (kept - 20) (drop n moved)) twenty ∙ ap (take (kept - 20)) (same ∙ ap (drop 20) (is_upper ∙ ap (λ n. take n there) sum) ∙ drop-take 20 (m - 20) there)
        ∙ take-take (kept - 20) (m - 20) (drop 20 there) (omega arith))
        (cases_lt kept 20)

-- the sums of an upper part
pub short-sums : (upper front : List ℕ) (kept gone come : ℕ) → kept < 20 → gone ≡ residue upper → come ≡ residue front
    → IsPartDifference upper (front ++ take (kept - 20) (drop 20 upper)) gone come
short-sums upper front kept gone come short is_gone is_come =
    let none : kept - 20 ≡ 0 = omega arith in
    let same : front ≡ front ++ take (kept - 20) (drop 20 upper) = sym (ap (λ n. front ++ take n (drop 20 upper)) none ∙ append-nil front) in
    subst (λ g. IsPartDifference upper (front ++ take (kept - 20) (drop 20 upper)) g come) (sym is_gone)
    (subst (λ c. IsPartDifference upper (front ++ take (kept - 20) (drop 20 upper)) (residue upper) c) (sym is_come)
    (subst (λ l. IsPartDifference upper l (residue upper) (residue front)) same (whole-difference upper front)))

pub long-sums : (upper front : List ℕ) (kept gone come read tail_gone tail_come : ℕ) → 20 ≤ kept → kept ≤ length upper → length front ≡ min kept 20
    → read ≡ residue (take 20 upper)
    → tail_gone ≡ residue (drop (kept - 20 - (kept - 20) % 2) (drop 20 upper)) → tail_come ≡ residue (drop (kept - 20 - (kept - 20) % 2) (take (kept - 20) (drop 20 upper)))
    → gone ≡ (read + tail_gone) % 65535 → come ≡ (residue front + tail_come) % 65535
    → IsPartDifference upper (front ++ take (kept - 20) (drop 20 upper)) gone come
long-sums upper front kept gone come read tail_gone tail_come long inside size is_read is_tail_gone is_tail_come is_gone is_come =
    let rest : List ℕ = drop 20 upper in
    let k : ℕ = kept - 20 in
    let first = length-take-le 20 upper (omega (arith, long, inside)) in
    let difference : IsPartDifference (take 20 upper ++ rest) (front ++ take k rest) (residue (take 20 upper) + residue (drop (k - k % 2) rest)) (residue front + residue (drop (k - k % 2) (take k rest))) =
    fronts-difference (take 20 upper) front rest k (omega (arith, first)) (omega (arith, size, long)) (omega (arith, inside, length-drop 20 upper)) in
    subst (λ l. IsPartDifference l (front ++ take k rest) gone come) (take-append-drop 20 upper)
    (residues-are (take 20 upper ++ rest) (front ++ take k rest) gone come _ _
    (is_gone ∙ ap (λ n. (n + tail_gone) % 65535) is_read ∙ ap (λ n. (residue (take 20 upper) + n) % 65535) is_tail_gone)
    (is_come ∙ ap (λ n. (residue front + n) % 65535) is_tail_come) difference)
