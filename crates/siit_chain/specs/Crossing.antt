-- The two devices of a chain of two, as a packet meets them, and the numbers that they are given.
use Rattle.std.specs.Prelude.{◌≡◌, ℕ}
use Rattle.siit_chain.specs.declared.origin.End.{End}
use Rattle.siit_chain.specs.declared.origin.End.TheVariants.{Left, Right}

-- the places of the two devices, in the order in which a packet meets them
abbrev pub first_place : (to : End) → ℕ
first_place Right = 0
first_place Left = 1

abbrev pub second_place : (to : End) → ℕ
second_place Right = 1
second_place Left = 0

-- a number that a device is given at some time
abbrev pub IsComing : (coming : ℕ → ℕ → ℕ) → (device number : ℕ) → Type 0
IsComing coming device number = (k : ℕ) × (coming device k ≡ number)
