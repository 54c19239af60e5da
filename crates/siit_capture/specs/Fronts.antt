-- What stands at the front of bytes, where an item of a capture (its head, or a record) begins.
use Rattle.std.specs.Prelude.{ℕ, List}
use Rattle.siit_capture.specs.declared.form.CaptureFault.{CaptureFault}

pub data Front (Item : Type 0) : Type 0 where
  -- the capture ends here, as it may
  done : Front Item
  -- the bytes end before the item does
  cut : Front Item
  -- no item, whatever follows
  bad : (fault : CaptureFault) → Front Item
  -- a whole item, and the bytes behind it
  whole : (item : Item) (behind : List ℕ) → Front Item

-- more bytes may make a whole item of it
abbrev pub NeedsMore : {Item : Type 0} → Front Item → Type 0
NeedsMore done = Unit {0}
NeedsMore cut = Unit {0}
NeedsMore (bad fault) = ⊥
NeedsMore (whole item behind) = ⊥
