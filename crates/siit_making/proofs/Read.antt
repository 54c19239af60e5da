-- Bytes that are read of the part at hand are bytes of the capture.
use Rattle.std.proofs.Common.{◌≡◌, ◌⊎◌, inl, inr, ℕ, zero, suc, ◌+◌, ◌-◌, ◌<◌, ◌≤◌, List, [], ◌∷◌, ◌++◌, length, take, drop, min, Some, refl, ap, sym, ◌∙◌, arith}
use Rattle.std.proofs.lemmas.List.{drop-drop, take-append-le}
use Rattle.siit_word.specs.Files.{Copies}
use Rattle.siit_making.specs.Captures.{generated_capture}
use Rattle.siit_making.specs.Parts.{AreParts, Parts, later}
use Rattle.siit_making.proofs.Parts.{inside}

-- what stands at a place of two lists joined, as far as the first goes
front_of : (n k : ℕ) (hand more : List ℕ) → n ≤ length hand - k → take n (drop k (hand ++ more)) ≡ take n (drop k hand)
front_of n zero hand more fits = take-append-le n hand more (omega arith)
front_of zero (suc k) [] more fits = refl
front_of (suc n) (suc k) [] more fits = absurd (omega arith)
front_of n (suc k) (first ∷ hand) more fits = front_of n k hand more (omega arith)

ends : (parts : Parts) (at : ℕ) → length (generated_capture parts.count parts.seed) ≡ parts.place + length parts.hand + length (later parts)
    → (later parts ≡ []) ⊎ (at < parts.place + length parts.hand) → length parts.hand ≤ at - parts.place → parts.place ≤ at
    → length (generated_capture parts.count parts.seed) ≤ at
ends parts at size (inl nothing) past after = omega (arith, size, ap length nothing, past, after)
ends parts at size (inr here) past after = absurd (omega (arith, here, past, after))

pub copied_part : (parts : Parts) → AreParts parts → (at n : ℕ) (into : List ℕ) → parts.place ≤ at
    → (later parts ≡ []) ⊎ (at < parts.place + length parts.hand)
    → n ≡ min (length into) (length parts.hand - (at - parts.place))
    → take n into ≡ take n (drop (at - parts.place) parts.hand)
    → Copies (Some (generated_capture parts.count parts.seed)) at n into
copied_part parts is at n into after within size copied =
    let capture : List ℕ = generated_capture parts.count parts.seed in
    let k : ℕ = at - parts.place in
    let whole = inside parts is in
    let place : parts.place + k ≡ at = omega arith in (
      copied
          ∙ sym (front_of n k parts.hand (later parts) (omega (arith, size)))
          ∙ ap (λ xs. take n (drop k xs)) (sym is.rest)
          ∙ ap (take n) (drop-drop k parts.place capture)
          ∙ ap (λ (m : ℕ). take n (drop m capture)) place,
      omega (arith, size, whole, after),
      λ none some. ends parts at whole within (omega (arith, size, none, some)) after,
    )
