-- A name among others, looked for one by one.
use Rattle.std.proofs.Common.{◌≡◌, ℕ, ◌-◌, ◌≤◌, List, [], ◌∷◌, length, take, drop, map, slice_index_or, false, ap, sym, ◌∙◌, arith}
use Rattle.std.specs.Prelude.{◌||◌}
use Rattle.std.specs.Str.{bytes_eq}
use Rattle.std.proofs.lemmas.List.{take_all}
use Rattle.siit_command.specs.Words.{is_among}

-- It isn't the first, so it is one of those behind it, or none.
pub among_more : {A : Type 0} (f : A → List ℕ) (name : List ℕ) (names : List A) (d : A) → 1 ≤ length names → bytes_eq name (f (slice_index_or names 0 d)) ≡ false → is_among name (map f names) ≡ is_among name (map f (take (length names - 1) (drop 1 names)))
among_more f name [] d some other = absurd (omega (arith, some))
among_more {A} f name (first ∷ more) d some other =
    ap (λ b. b || is_among name (map f more)) other ∙ sym (ap (λ xs. is_among name (map f xs)) (take_all (length (first ∷ more) - 1) more (omega arith)))
