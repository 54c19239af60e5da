-- Where the addresses that prefixes hold begin and end.
use Rattle.std.specs.Prelude.{◌≡◌, ℕ, ◌+◌, ◌-◌, ◌*◌, ◌^◌, ◌≤◌, List, length, All, Contains}
use Rattle.std.specs.List.Sorted.{IsNonDecreasingBy}
use Rattle.siit_eamt.specs.declared.entry.Eam.{Eam}
use Rattle.siit_eamt.specs.declared.starts.Block.{Block}

-- what the prefixes of an entry hold
abbrev pub block4 : Eam → Block
block4 entry = record { first = entry.p4.addr.0; bits = 32 - entry.p4.len }

abbrev pub block6 : Eam → Block
block6 entry = record { first = entry.p6.addr.0; bits = 128 - entry.p6.len }

-- among these addresses up to a highest one are 0, the first address of each block, and that behind it
pub record AreStarts (blocks : List Block) (highest : ℕ) (starts : List ℕ) : Type 0 where
  pub zero : Contains starts 0
  pub firsts : All (λ block. Contains starts block.first) blocks
  pub ends : All (λ block. block.first + 2 ^ block.bits ≤ highest → Contains starts (block.first + 2 ^ block.bits)) blocks
  pub within : All (λ start. start ≤ highest) starts
  pub few : length starts ≤ 2 * length blocks + 1

pub record AreAscendingStarts (blocks : List Block) (highest : ℕ) (starts : List ℕ) : Type 0 where
  pub all : AreStarts blocks highest starts
  pub ascending : IsNonDecreasingBy (λ start. start) starts

-- starts to which those of one more block were added
pub record AreAdded (block : Block) (highest : ℕ) (before after : List ℕ) : Type 0 where
  pub kept : (start : ℕ) → Contains before start → Contains after start
  pub first : Contains after block.first
  pub end : block.first + 2 ^ block.bits ≤ highest → Contains after (block.first + 2 ^ block.bits)
  pub within : All (λ start. start ≤ highest) before → All (λ start. start ≤ highest) after
  pub few : length after ≤ length before + 2
