-- Whatever comes of a toy's packet lives less long.
use Rattle.std.specs.Prelude.{◌≡◌, ℕ, ◌<◌, List, [], ◌∷◌, Bool, true, false, ◌==◌, nat_lt, refl}
use Rattle.std.proofs.Common.{arith}
use Rattle.std.proofs.lemmas.Bool.Decides.{nat_tests}
use Rattle.siit_chain.specs.Outcome.{Falls}
use Rattle.siit_carry.specs.Toys.{by_life, toy_measure, toy_outcome}

falls_by : (a b c d : Bool) (life : ℕ) (rest : List ℕ) → nat_lt 96 life ≡ a → (life == 96) ≡ b → nat_lt 1 life ≡ c → (life == 1) ≡ d → Falls toy_measure (life ∷ rest) (by_life a b c d life rest)
falls_by true b c d life rest p q r s = let more : 96 < life = grind (arith, nat_tests) in (more, (more, tt))
falls_by false true c d life rest p q r s = let more : 69 < life = grind (arith, nat_tests) in (more, (more, tt))
falls_by false false true d life rest p q r s = let some : 1 < life = grind (arith, nat_tests) in omega (arith, some)
falls_by false false false true life rest p q r s = let some : 0 < life = grind (arith, nat_tests) in some
falls_by false false false false life rest p q r s = tt

pub toy_falls : (packet : List ℕ) → Falls toy_measure packet (toy_outcome packet)
toy_falls [] = tt
toy_falls (life ∷ rest) = falls_by (nat_lt 96 life) (life == 96) (nat_lt 1 life) (life == 1) life rest refl refl refl refl
