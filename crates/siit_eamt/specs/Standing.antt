-- The tries of a table: at each prefix stands the first place whose entry has it.
use Rattle.std.specs.Prelude.{◌≡◌, ℕ, ◌+◌, ◌*◌, ◌≤◌, List, length, Bool, true, ◌&&◌, ◌==◌, Some, position}
use Rattle.std.specs.List.{slice_get}
use Rattle.siit_eamt.specs.declared.entry.Eam.{Eam}
use Rattle.siit_eamt.specs.declared.trie.Node.{Node}
use Rattle.siit_eamt.specs.Entries.{is_clean}
use Rattle.siit_eamt.specs.Trie.{IsTrie, first_bits, place_under}

abbrev pub has_bits4 : (len value : ℕ) → Eam → Bool
has_bits4 len value entry = (entry.p4.len == len) && (first_bits 32 entry.p4.addr.0 len == value)

abbrev pub has_bits6 : (len value : ℕ) → Eam → Bool
has_bits6 len value entry = (entry.p6.len == len) && (first_bits 128 entry.p6.addr.0 len == value)

-- the trie of one family, each entry having brought at most as many nodes as an address has bits
pub record IsTrieOf (has_bits : ℕ → ℕ → Eam → Bool) (width : ℕ) (entries : List Eam) (nodes : List Node) : Type 0 where
  pub shape : IsTrie nodes
  pub size : length nodes ≤ 1 + width * length entries
  pub places : (len value : ℕ) → place_under nodes len value ≡ position (has_bits len value) entries

abbrev pub AreClean : List Eam → Type 0
AreClean entries = (place : ℕ) (entry : Eam) → slice_get entries place ≡ Some entry → is_clean entry ≡ true

pub record AreTriesOf (entries : List Eam) (nodes4 nodes6 : List Node) : Type 0 where
  pub four : IsTrieOf has_bits4 32 entries nodes4
  pub six : IsTrieOf has_bits6 128 entries nodes6
  pub clean : AreClean entries
