-- The entries of a log that come of one record of a capture.
use Rattle.std.specs.Prelude.{◌≡◌, ℕ, ◌<◌, List, [], ◌∷◌, Bool, true, false, ◌&&◌, ◌==◌, if◌then◌else◌, filter}
use Rattle.std.specs.List.{flat_map}
use Rattle.siit_chain.specs.Log.{Entry, begins, drops, drops_in, finishes, leaves}
use Rattle.siit_chain.specs.declared.origin.End.{End}
use Rattle.siit_chain.specs.declared.origin.End.TheVariants.{Left, Right}
use Rattle.siit_chain.specs.declared.origin.Origin.{Origin}

abbrev pub is_same_end : End → End → Bool
is_same_end Left Left = true
is_same_end Right Right = true
is_same_end _ _ = false

-- of a record of the capture at this end
abbrev pub is_from : End → Origin → Bool
is_from end origin = is_same_end end origin.end

-- of the record with this number in it
abbrev pub is_of : End → (number : ℕ) → Origin → Bool
is_of end number origin = is_same_end end origin.end && (number == origin.number)

-- the entry says so of its record; the heads and the end line come of no record
abbrev pub comes_of : (Origin → Bool) → Entry → Bool
comes_of test (begins at) = false
comes_of test (leaves origin at packet) = test origin
comes_of test (drops origin device rule answered) = test origin
comes_of test (finishes totals) = false

-- the entries of all records of the capture at an end, as they stand in the log
abbrev pub entries_of_capture : End → List Entry → List Entry
entries_of_capture end log = filter (comes_of (is_from end)) log

-- the entries of one record
abbrev pub entries_of_record : End → (number : ℕ) → List Entry → List Entry
entries_of_record end number log = filter (comes_of (is_of end number)) log

-- the entries of some records, record by record
abbrev pub entries_of_records : End → (numbers : List ℕ) → List Entry → List Entry
entries_of_records end numbers log = flat_map (λ number. entries_of_record end number log) numbers

-- a drop names the record
abbrev pub IsNamed : End → (number : ℕ) → List Entry → Type 0
IsNamed end number log = 0 < drops_in (entries_of_record end number log)

-- no drop does
abbrev pub IsUnnamed : End → (number : ℕ) → List Entry → Type 0
IsUnnamed end number log = drops_in (entries_of_record end number log) ≡ 0

abbrev pub packet_leaving : End → Entry → List (List ℕ)
packet_leaving end (begins at) = []
packet_leaving end (leaves origin at packet) = if is_same_end end at then packet ∷ [] else []
packet_leaving end (drops origin device rule answered) = []
packet_leaving end (finishes totals) = []

-- the packets that leave at an end
abbrev pub packets_leaving : End → List Entry → List (List ℕ)
packets_leaving end log = flat_map (packet_leaving end) log
