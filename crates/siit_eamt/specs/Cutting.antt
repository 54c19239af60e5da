-- The interval from an address on.
use Rattle.std.specs.Prelude.{ℕ, List}
use Rattle.siit_eamt.specs.declared.interval.Interval.{Interval}
use Rattle.siit_eamt.specs.declared.trie.Node.{Node}
use Rattle.siit_eamt.specs.Trie.{longest_place, place_under}

abbrev pub interval_from : List Node → (width first : ℕ) → Interval
interval_from nodes width first = record { first = first; place = longest_place (place_under nodes) width first width }
