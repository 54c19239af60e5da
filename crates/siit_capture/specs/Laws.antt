-- Laws of captures.
use Rattle.std.specs.Prelude.{◌≡◌, List, None}
use Rattle.std.specs.List.{All}
use Rattle.siit_capture.specs.Captures.{list_of, records_of, trouble_of}
use Rattle.siit_capture.specs.Records.{Record}
use Rattle.siit_capture.specs.Written.{IsWritable, written_capture}

-- what is written is read again, record by record and without fault
abbrev pub WrittenIsReadAgain : Type 0
WrittenIsReadAgain = (records : List Record) → All IsWritable records
    → (list_of (records_of (written_capture records)) ≡ records) × (trouble_of (records_of (written_capture records)) ≡ None)
