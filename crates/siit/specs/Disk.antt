-- What the files of the system mean.
use Rattle.std.specs.Prelude.{ℕ, false, None}
use Rattle.siit_word.specs.Files.{FilesMeaning}

-- Nothing is told of them, and each count of faults stands for every name.
abbrev pub untold : (read_faults write_faults : ℕ) → FilesMeaning
untold read_faults write_faults = record {
  told = λ q. false;
  contents = λ q. None;
  given = λ q. None;
  read_faults = λ q. read_faults;
  write_faults = λ q. write_faults;
}
