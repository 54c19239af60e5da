-- What a reader may have gone through, and what it has then given.
use Rattle.std.specs.Prelude.{◌≡◌, ℕ, List, [], ◌∷◌, ◌++◌}
use Rattle.siit_capture.specs.Captures.{list_of, one_more, records_of, trouble_of}
use Rattle.siit_capture.specs.Readings.{Reading, WaitsForBytes, nothing_fed, records_fed, records_to_come, with_piece, with_record, without_record}
use Rattle.siit_capture.specs.Records.{Record}

-- A reader was fed these bytes, in any pieces, has given these records, and is this now.
pub data HasRead : (bytes : List ℕ) → (given : List Record) → Reading → Type 0 where
  new : HasRead [] [] nothing_fed
  feed : (bytes piece : List ℕ) (given : List Record) (reading : Reading) → HasRead bytes given reading
      → HasRead (bytes ++ piece) given (with_piece reading piece)
  -- a record was next in what was fed
  next : (bytes : List ℕ) (given : List Record) (reading : Reading) (found : Record) → HasRead bytes given reading
      → ((more : List ℕ) → let after = with_record found reading in
      records_to_come reading more ≡ one_more found after.place (records_to_come after more))
      → HasRead bytes (given ++ found ∷ []) (with_record found reading)
  -- none was next
  none : (bytes : List ℕ) (given : List Record) (reading : Reading) → HasRead bytes given reading → HasRead bytes given (without_record reading)

-- The records given are the first ones of all bytes fed, whatever follows. The reading tells the others and the fault.
abbrev pub GivenAreFirst : Type 0
GivenAreFirst = (bytes : List ℕ) (given : List Record) (reading : Reading) → HasRead bytes given reading → (more : List ℕ)
    → (list_of (records_of (bytes ++ more)) ≡ given ++ list_of (records_to_come reading more))
    × (trouble_of (records_of (bytes ++ more)) ≡ trouble_of (records_to_come reading more))

-- Once a reader waits for bytes, it has given all records that are whole in the bytes fed.
abbrev pub GivenAreAll : Type 0
GivenAreAll = (bytes : List ℕ) (given : List Record) (reading : Reading) → HasRead bytes given reading → WaitsForBytes (records_fed reading)
    → list_of (records_of bytes) ≡ given
