-- Zeros behind a quote that was cut, which are read as a part of it as far as its length as sent goes.
use Rattle.std.proofs.Common.{◌≡◌, ◌⊎◌, ℕ, ◌+◌, ◌-◌, ◌<◌, ◌≤◌, List, [], ◌++◌, length, min, take, drop, replicate, ◌∙◌, ap, sym, subst, arith, append-nil, append_assoc, take_all, ⊎_elim}
use Rattle.std.proofs.lemmas.Bool.{cases_lt}
use Rattle.std.proofs.lemmas.List.{take-append-drop, take-append-le, drop-append-le, length-take, take_at}
use lib.Seq.{take-append-add}

-- A translation that keeps the length, that changes nothing behind its first 18 bytes, and that needs no more than
-- them.
pub record IsFrontal (made : List ℕ → List ℕ) : Type 0 where
  pub takes : (k : ℕ) (part : List ℕ) → 18 ≤ k → made (take k part) ≡ take k (made part)
  pub behind : (part : List ℕ) → drop 18 (made part) ≡ drop 18 part
  pub size : (part : List ℕ) → length (made part) ≡ length part

module _ (made : List ℕ → List ℕ) (frontal : IsFrontal made) where
  made-append : (part more : List ℕ) → 18 ≤ length part → made (part ++ more) ≡ made part ++ more
  made-append part more long =
      let all : List ℕ = part ++ more in
      let first : take 18 (made all) ≡ take 18 (made part) =
      sym (frontal.takes 18 all (omega arith)) ∙ ap made (take-append-le 18 part more long) ∙ frontal.takes 18 part (omega arith) in
      let last : drop 18 (made all) ≡ drop 18 (made part) ++ more =
      frontal.behind all ∙ drop-append-le 18 part more long ∙ ap (λ l. l ++ more) (sym (frontal.behind part)) in
      sym (take-append-drop 18 (made all)) ∙ ap (λ l. l ++ drop 18 (made all)) first ∙ ap (λ l. take 18 (made part) ++ l) last
      ∙ sym (append_assoc (take 18 (made part)) (drop 18 (made part)) more) ∙ ap (λ l. l ++ more) (take-append-drop 18 (made part))

  -- what is read of a part and of what follows it
  read-more : (sent : ℕ) (part more : List ℕ) → 18 ≤ length part → length part ≤ sent → made (take sent (part ++ more)) ≡ take sent (made part ++ more)
  read-more sent part more long there =
      let k : ℕ = sent - length part in
      let sum : sent ≡ length part + k = omega arith in
      let other : sent ≡ length (made part) + k = sum ∙ ap (λ n. n + k) (sym (frontal.size part)) in
      ap made (ap (λ n. take n (part ++ more)) sum ∙ take-append-add part more k) ∙ made-append part (take k more) long
      ∙ sym (ap (λ n. take n (made part ++ more)) other ∙ take-append-add (made part) more k)

  read-all : (sent : ℕ) (part more : List ℕ) → length part ≡ sent → made (take sent (part ++ more)) ≡ take sent (made part ++ more)
  read-all sent part more all =
      ap made (take_at part more sent all) ∙ sym (take_at (made part) more sent (frontal.size part ∙ all))

  read-none : (sent : ℕ) (part : List ℕ) → length part ≤ sent → made (take sent (part ++ [])) ≡ take sent (made part ++ [])
  read-none sent part there =
      ap made (ap (take sent) (append-nil part) ∙ take_all sent part there)
      ∙ sym (ap (take sent) (append-nil (made part)) ∙ take_all sent (made part) (subst (λ n. n ≤ sent) (sym (frontal.size part)) there))

  -- a part whose end is cut, with zeros behind it where enough of it is there
  pub read-padded : (k n sent : ℕ) (part : List ℕ) → 18 ≤ k → length part ≤ sent → (n ≡ 0) ⊎ ((18 ≤ length part) ⊎ (length part ≡ sent))
      → made (take sent (take k part ++ replicate n 0)) ≡ take sent (take k (made part) ++ replicate n 0)
  read-padded k n sent part enough there which =
      let size = length-take k part in
      let within : length (take k part) ≤ sent = omega (arith, size) in
      let cut : made (take k part) ≡ take k (made part) = frontal.takes k part enough in
      by-case size within ∙ ap (λ l. take sent (l ++ replicate n 0)) cut
    where
      long : length (take k part) ≡ min k (length part) → 18 ≤ length part → length (take k part) ≤ sent
          → made (take sent (take k part ++ replicate n 0)) ≡ take sent (made (take k part) ++ replicate n 0)
      long size some within = read-more sent (take k part) (replicate n 0) (omega (arith, size)) within

      by-case : length (take k part) ≡ min k (length part) → length (take k part) ≤ sent
          → made (take sent (take k part ++ replicate n 0)) ≡ take sent (made (take k part) ++ replicate n 0)
      by-case size within =
          ⊎_elim
          (λ (none : n ≡ 0). subst (λ m. made (take sent (take k part ++ replicate m 0)) ≡ take sent (made (take k part) ++ replicate m 0)) (sym none) (read-none sent (take k part) within))
          (λ other.
          ⊎_elim (λ (some : 18 ≤ length part). long size some within)
          (λ (all : length part ≡ sent).
          ⊎_elim (λ (short : length part < 18). read-all sent (take k part) (replicate n 0) (omega (arith, size, short, enough, all)))
          (λ (some : 18 ≤ length part). long size some within) (cases_lt (length part) 18)) other)
          which
