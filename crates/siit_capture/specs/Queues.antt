-- A queue of bytes: pieces come in behind, items are taken off its front.
use Rattle.std.specs.Prelude.{◌≡◌, ℕ, ◌≤◌, List, length}

pub record Queue : Type 0 where
  -- the bytes that were taken last, until a piece comes
  pub taken : List ℕ
  -- the bytes that weren't taken yet
  pub rest : List ℕ

-- the memory of a queue, and the places in it where the item taken last, the rest and the free memory begin
pub record IsHeld (memory : List ℕ) (from start end : ℕ) : Type 0 where
  pub size : length memory ≡ 327695
  pub item : from ≤ start
  pub ordered : start ≤ end
  pub within : end ≤ 327695
