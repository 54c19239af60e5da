-- What holds of each packet of a list that is written.
use Rattle.std.proofs.Common.{suc, List, [], ◌∷◌, map, All, arith}
use Rattle.std.specs.List.{AllByRecursion}

by-recursion : {X : Type 0} (P : X → Type 0) (xs : List X) → All P xs → AllByRecursion P xs
by-recursion P [] all = tt
by-recursion P (x ∷ xs) all = (all 0 x (omega arith), by-recursion P xs (λ k d within. all (suc k) d (omega arith)))

mapped : {X Y : Type 0} (P : Y → Type 0) (g : X → Y) (xs : List X) → AllByRecursion (λ x. P (g x)) xs → AllByRecursion P (map g xs)
mapped P g [] all = tt
mapped P g (x ∷ xs) all = (all.0, mapped P g xs all.1)

-- of lists that are made in two steps
pub all-made : {X Y Z : Type 0} (P : Z → Type 0) (f : X → Y) (g : Y → Z) (xs : List X) → All (λ x. P (g (f x))) xs → AllByRecursion P (map g (map f xs))
all-made P f g xs all = mapped P g (map f xs) (mapped (λ y. P (g y)) f xs (by-recursion (λ x. P (g (f x))) xs all))
