-- The residue of a message whose parts are changed, by what went and what came.
use Rattle.std.proofs.Common.{◌≡◌, ℕ, zero, suc, ◌+◌, ◌-◌, ◌%◌, ◌≤◌, List, [], ◌∷◌, ◌++◌, length, take, drop, replicate, ◌∙◌, ap, sym, subst, refl, arith, append_assoc, length-append, length-drop}
use Rattle.std.proofs.lemmas.List.{length-replicate, length-take-le, take-append-drop, take-take}
use Rattle.siit_model.specs.Checksum.{words_sum, residue, moved}
use Rattle.siit_checksum.proofs.Residues.{words_sum-append, residue-append, residue-cut}
use Rattle.siit_quoted.specs.Sums.{IsDifference}

-- one change after the other
pub in-turn : (one two three : List ℕ) (g1 c1 g2 c2 : ℕ) → IsDifference one two g1 c1 → IsDifference two three g2 c2 → IsDifference one three (g1 + g2) (c1 + c2)
in-turn one two three g1 c1 g2 c2 first second = record { same = omega (arith, first.same, second.same) }

-- behind an even number of bytes that stay
pub behind : (front old new : List ℕ) (gone come : ℕ) → length front % 2 ≡ 0 → IsDifference old new gone come → IsDifference (front ++ old) (front ++ new) gone come
behind front old new gone come even change = record { same = omega (arith, residue-append front old even, residue-append front new even, change.same) }

-- other bytes before what stays: headers
pub before : (old new rest : List ℕ) → length old % 2 ≡ 0 → length new % 2 ≡ 0 → IsDifference (old ++ rest) (new ++ rest) (residue old) (residue new)
before old new rest even_old even_new = record { same = omega (arith, residue-append old rest even_old, residue-append new rest even_new) }

-- changes within the first `place` bytes: a checksum and a type
pub within : (old new : List ℕ) (place : ℕ) → place % 2 ≡ 0 → drop place old ≡ drop place new → IsDifference old new (residue (take place old)) (residue (take place new))
within old new place even same = record { same = omega (arith, residue-cut old place even, residue-cut new place even, ap residue same) }

-- zeros change no residue
pub words_sum-zeros : (bytes : List ℕ) (n : ℕ) → words_sum (bytes ++ replicate n 0) ≡ words_sum bytes
words_sum-zeros [] zero = refl
words_sum-zeros [] (suc zero) = refl
words_sum-zeros [] (suc (suc n)) = omega (arith, words_sum-zeros [] n)
words_sum-zeros (a ∷ []) zero = refl
words_sum-zeros (a ∷ []) (suc n) = omega (arith, words_sum-zeros [] n)
words_sum-zeros (a ∷ b ∷ rest) n = omega (arith, words_sum-zeros rest n)

-- What stands behind an even number of bytes and before an even rest becomes zeros behind some of its bytes: the end of
-- a quote.
pub ended : (front old left rest : List ℕ) (n : ℕ) → length front % 2 ≡ 0 → length old % 2 ≡ 0 → (length left + n) % 2 ≡ 0
    → IsDifference (front ++ (old ++ rest)) (front ++ ((left ++ replicate n 0) ++ rest)) (residue old) (residue left)
ended front old left rest n even_front even_old even_left =
    let size = length-append left (replicate n 0) in
    behind front (old ++ rest) ((left ++ replicate n 0) ++ rest) (residue old) (residue left) even_front
    (record { same = omega (arith, residue-append old rest even_old, words_sum-append (left ++ replicate n 0) rest (omega (arith, size, length-replicate {A = ℕ} n 0)), words_sum-zeros left n) })

-- a list cut at an even place before `kept`
cut-parts : (bytes : List ℕ) (kept even : ℕ) → even ≤ kept → take kept bytes ≡ take even bytes ++ drop even (take kept bytes)
cut-parts bytes kept even before_kept = sym (take-append-drop even (take kept bytes)) ∙ ap (λ l. l ++ drop even (take kept bytes)) (take-take even kept bytes before_kept)

even-front : (bytes : List ℕ) (even : ℕ) → even % 2 ≡ 0 → even ≤ length bytes → length (take even bytes) % 2 ≡ 0
even-front bytes even is inside = omega (arith, length-take-le even bytes inside)

-- A quote cut behind `kept` bytes, with zeros behind it and an even rest: the sums begin at the even place at or before
-- the cut.
pub ended-at : (quote rest : List ℕ) (kept even n : ℕ) → even ≡ kept - kept % 2 → kept ≤ length quote → length quote % 2 ≡ 0 → (kept + n) % 2 ≡ 0
    → IsDifference (quote ++ rest) ((take kept quote ++ replicate n 0) ++ rest) (residue (drop even quote)) (residue (drop even (take kept quote)))
ended-at quote rest kept even n is_even inside whole padded =
    let front : List ℕ = take even quote in
    let old : List ℕ = drop even quote in
    let left : List ℕ = drop even (take kept quote) in
    let old_is : front ++ (old ++ rest) ≡ quote ++ rest = sym (append_assoc front old rest) ∙ ap (λ l. l ++ rest) (take-append-drop even quote) in
    let new_is : front ++ ((left ++ replicate n 0) ++ rest) ≡ (take kept quote ++ replicate n 0) ++ rest =
    sym (append_assoc front (left ++ replicate n 0) rest) ∙ ap (λ l. l ++ rest) (sym (append_assoc front left (replicate n 0)))
    ∙ ap (λ l. (l ++ replicate n 0) ++ rest) (sym (cut-parts quote kept even (omega arith))) in
    let change = ended front old left rest n (even-front quote even (omega arith) (omega arith)) (omega (arith, length-drop even quote))
    (omega (arith, length-drop even (take kept quote), length-take-le kept quote inside)) in
    subst (λ l. IsDifference l ((take kept quote ++ replicate n 0) ++ rest) (residue old) (residue left)) old_is
    (subst (λ l. IsDifference (front ++ (old ++ rest)) l (residue old) (residue left)) new_is change)

-- the same at the end of the message, where nothing has to be even
pub ended-last : (quote : List ℕ) (kept even : ℕ) → even ≡ kept - kept % 2 → kept ≤ length quote
    → IsDifference quote (take kept quote) (residue (drop even quote)) (residue (drop even (take kept quote)))
ended-last quote kept even is_even inside =
    let front : List ℕ = take even quote in
    let old : List ℕ = drop even quote in
    let left : List ℕ = drop even (take kept quote) in
    let change = behind front old left (residue old) (residue left) (even-front quote even (omega arith) (omega arith)) (record { same = omega arith }) in
    subst (λ l. IsDifference l (take kept quote) (residue old) (residue left)) (take-append-drop even quote)
    (subst (λ l. IsDifference (front ++ old) l (residue old) (residue left)) (sym (cut-parts quote kept even (omega arith))) change)

-- The checksum of the new message, by what went and came.
pub checksum-moved : (checksum before after : ℕ) (old new : List ℕ) (gone come : ℕ) → IsDifference old new gone come
    → moved checksum ((before + residue old) % 65535) ((after + residue new) % 65535) ≡ moved checksum ((before + gone) % 65535) ((after + come) % 65535)
checksum-moved checksum before after old new gone come change = omega (arith, change.same)
