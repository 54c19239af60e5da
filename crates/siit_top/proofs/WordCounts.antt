-- More or fewer words than a command has.
use Rattle.std.proofs.Common.{◌≡◌, ℕ, ◌<◌, ◌≤◌, List, [], ◌∷◌, length, map, None, refl, arith}
use Rattle.siit_top.specs.Words.{dns64_of, map_of}

pub map_few : {A : Type 0} (f : A → List ℕ) (words : List A) → length words < 3 → map_of (map f words) ≡ None
map_few f [] few = refl
map_few f (a ∷ []) few = refl
map_few f (a ∷ b ∷ []) few = refl
map_few f (a ∷ b ∷ c ∷ words) few = absurd (omega (arith, few))

pub map_many : {A : Type 0} (f : A → List ℕ) (words : List A) → 4 ≤ length words → map_of (map f words) ≡ None
map_many f [] many = absurd (omega (arith, many))
map_many f (a ∷ []) many = absurd (omega (arith, many))
map_many f (a ∷ b ∷ []) many = absurd (omega (arith, many))
map_many f (a ∷ b ∷ c ∷ []) many = absurd (omega (arith, many))
map_many f (a ∷ b ∷ c ∷ d ∷ words) many = refl

pub dns64_few : {A : Type 0} (f : A → List ℕ) (words : List A) → length words < 5 → dns64_of (map f words) ≡ None
dns64_few f [] few = refl
dns64_few f (a ∷ []) few = refl
dns64_few f (a ∷ b ∷ []) few = refl
dns64_few f (a ∷ b ∷ c ∷ []) few = refl
dns64_few f (a ∷ b ∷ c ∷ d ∷ []) few = refl
dns64_few f (a ∷ b ∷ c ∷ d ∷ e ∷ words) few = absurd (omega (arith, few))

pub dns64_many : {A : Type 0} (f : A → List ℕ) (words : List A) → 6 ≤ length words → dns64_of (map f words) ≡ None
dns64_many f [] many = absurd (omega (arith, many))
dns64_many f (a ∷ []) many = absurd (omega (arith, many))
dns64_many f (a ∷ b ∷ []) many = absurd (omega (arith, many))
dns64_many f (a ∷ b ∷ c ∷ []) many = absurd (omega (arith, many))
dns64_many f (a ∷ b ∷ c ∷ d ∷ []) many = absurd (omega (arith, many))
dns64_many f (a ∷ b ∷ c ∷ d ∷ e ∷ []) many = absurd (omega (arith, many))
dns64_many f (a ∷ b ∷ c ∷ d ∷ e ∷ g ∷ words) many = refl
