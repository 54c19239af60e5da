-- Bytes that are compared part by part.
use Rattle.std.proofs.Common.{◌≡◌, ℕ, ◌+◌, ◌-◌, ◌≤◌, List, [], ◌∷◌, ◌++◌, length, take, drop, Bool, true, false, ◌&&◌, nat_eq, refl, ap, ◌∙◌, sym, arith, append_assoc}
use Rattle.std.specs.Cmp.Lexicographic.{pointwise}
use Rattle.std.proofs.lemmas.List.{length-take-le, take_rest}
use Rattle.siit_model.specs.Bytes.{bytes16}
use Rattle.siit_pair.specs.Same.{is_same_unsummed, unsummed}

and-assoc : (a b c : Bool) → (a && (b && c)) ≡ ((a && b) && c)
and-assoc true b c = refl
and-assoc false b c = refl

-- both parts are equal where the first ones are as long
pub equal-append : (xs ys zs ws : List ℕ) → length xs ≡ length ys
    → pointwise nat_eq (xs ++ zs) (ys ++ ws) ≡ (pointwise nat_eq xs ys && pointwise nat_eq zs ws)
equal-append [] [] zs ws e = refl
equal-append [] (y ∷ ys) zs ws e = absurd (omega arith)
equal-append (x ∷ xs) [] zs ws e = absurd (omega arith)
equal-append (x ∷ xs) (y ∷ ys) zs ws e =
    ap (λ b. nat_eq x y && b) (equal-append xs ys zs ws (omega arith))
    ∙ and-assoc (nat_eq x y) (pointwise nat_eq xs ys) (pointwise nat_eq zs ws)

unsummed-is : (place : ℕ) (bytes : List ℕ) → unsummed place bytes ≡ take place bytes ++ 0 ∷ 0 ∷ drop (place + 2) bytes
unsummed-is place bytes = append_assoc (take place bytes) (bytes16 0) (drop (place + 2) bytes)

-- bytes but for a field are equal before it and behind it
pub unsummed-equal : (place : ℕ) (old new : List ℕ) → place + 2 ≤ length old → place + 2 ≤ length new
    → is_same_unsummed place old new
    ≡ (pointwise nat_eq (take place old) (take place new) && pointwise nat_eq (drop (place + 2) old) (drop (place + 2) new))
unsummed-equal place old new is_old is_new =
    (λ i. pointwise nat_eq (unsummed-is place old i) (unsummed-is place new i))
    ∙ equal-append (take place old) (take place new) (0 ∷ 0 ∷ drop (place + 2) old) (0 ∷ 0 ∷ drop (place + 2) new)
    (length-take-le place old (omega arith) ∙ sym (length-take-le place new (omega arith)))

-- the bytes behind a place, as a slice has them
pub behind-equal : (n : ℕ) (old new : List ℕ)
    → pointwise nat_eq (take (length old - n) (drop n old)) (take (length new - n) (drop n new)) ≡ pointwise nat_eq (drop n old) (drop n new)
behind-equal n old new = λ i. pointwise nat_eq (take_rest old n i) (take_rest new n i)
