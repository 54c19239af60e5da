-- Generated captures, computed by an independent script, and what is seen of files with one of them.
use Rattle.std.specs.Prelude.{◌≡◌, ℕ, List, [], ◌∷◌, ◌++◌, length, drop, true, false, Some, None}
use Rattle.siit_capture.specs.Captures.{ended, one_more, records_of}
use Rattle.siit_capture.specs.Written.{written_head}
use Rattle.siit_generator.specs.Generated.{generated_record, drawn, next_state}
use Rattle.siit_word.specs.Files.{FilesMeaning}
use Rattle.siit_making.specs.Captures.{generated_capture}
use Rattle.siit_making.specs.Parts.{first_part, later, next_part, stepped}
use Rattle.siit_making.specs.Through.{hidden_mark, other_mark, reference_mark, with_capture, with_marks}

-- the whole file of one datagram of three bytes
abbrev pub one_datagram : List ℕ
one_datagram =
    0x4d ∷ 0x3c ∷ 0xb2 ∷ 0xa1 ∷ 0x02 ∷ 0x00 ∷ 0x04 ∷ 0x00 ∷ 0x00 ∷ 0x00 ∷ 0x00 ∷ 0x00 ∷ 0x00 ∷ 0x00 ∷ 0x00 ∷ 0x00
    ∷ 0x00 ∷ 0x00 ∷ 0x04 ∷ 0x00 ∷ 0x65 ∷ 0x00 ∷ 0x00 ∷ 0x00 ∷ 0x00 ∷ 0x00 ∷ 0x00 ∷ 0x00 ∷ 0x00 ∷ 0x00 ∷ 0x00 ∷ 0x00
    ∷ 0x1f ∷ 0x00 ∷ 0x00 ∷ 0x00 ∷ 0x1f ∷ 0x00 ∷ 0x00 ∷ 0x00 ∷ 0x45 ∷ 0x00 ∷ 0x00 ∷ 0x1f ∷ 0x00 ∷ 0x00 ∷ 0x40 ∷ 0x00
    ∷ 0x40 ∷ 0x11 ∷ 0x6c ∷ 0x5e ∷ 0x08 ∷ 0x08 ∷ 0x04 ∷ 0x64 ∷ 0xc0 ∷ 0x00 ∷ 0x02 ∷ 0x04 ∷ 0x04 ∷ 0x00 ∷ 0x00 ∷ 0x35
    ∷ 0x00 ∷ 0x0b ∷ 0x2b ∷ 0x32 ∷ 0x00 ∷ 0x01 ∷ 0x02 ∷ []

pub record CaptureExamples : Type 0 where
  -- no packets: the head alone
  pub empty : generated_capture 0 7 ≡ written_head
  pub one : generated_capture 1 435 ≡ one_datagram
  pub two : length (generated_capture 2 193) ≡ 177
  -- read again
  pub read : records_of (generated_capture 1 435) ≡ one_more (generated_record 0 (drawn (next_state 435))) 71 ended

-- the parts of the capture of that datagram
pub record PartExamples : Type 0 where
  pub head : (first_part 1 435).hand ++ later (first_part 1 435) ≡ one_datagram
  pub record_at : (next_part (first_part 1 435)).place ≡ 24
  pub record_bytes : (next_part (first_part 1 435)).hand ≡ drop 24 one_datagram
  pub last : later (next_part (first_part 1 435)) ≡ []
  -- behind the last one nothing is made
  pub over : stepped (next_part (first_part 1 435)) ≡ next_part (first_part 1 435)

-- two files, of one byte each
abbrev pub two_files : FilesMeaning
two_files = record {
  told = λ q. false;
  contents = λ q. Some (length q ∷ []);
  given = λ q. Some (length q);
  read_faults = λ q. 3;
  write_faults = λ q. 4;
}

-- the file "a" shows a capture of two bytes
pub record ThroughExamples : Type 0 where
  pub told : (with_capture two_files (97 ∷ []) (1 ∷ 2 ∷ [])).told (97 ∷ []) ≡ true
  pub bytes : (with_capture two_files (97 ∷ []) (1 ∷ 2 ∷ [])).contents (97 ∷ []) ≡ Some (1 ∷ 2 ∷ [])
  pub given : (with_capture two_files (97 ∷ []) (1 ∷ 2 ∷ [])).given (97 ∷ []) ≡ None
  pub other : (with_capture two_files (97 ∷ []) (1 ∷ 2 ∷ [])).contents (97 ∷ 98 ∷ []) ≡ Some (2 ∷ [])
  pub seen_text : (with_marks 9 two_files (97 ∷ []) (1 ∷ 2 ∷ [])).contents (97 ∷ []) ≡ Some (1 ∷ 2 ∷ [])
  -- its marks
  pub hidden_bytes : (with_marks 9 two_files (97 ∷ []) (1 ∷ 2 ∷ [])).contents hidden_mark ≡ Some (1 ∷ [])
  pub hidden_told : (with_marks 9 two_files (97 ∷ []) (1 ∷ 2 ∷ [])).told hidden_mark ≡ false
  pub same_reference : (with_marks 9 two_files (97 ∷ []) (1 ∷ 2 ∷ [])).told (reference_mark 9 (97 ∷ [])) ≡ true
  pub other_reference : (with_marks 9 two_files (97 ∷ []) (1 ∷ 2 ∷ [])).told (reference_mark 8 (97 ∷ [])) ≡ false
  pub other_list : (with_marks 9 two_files (97 ∷ []) (1 ∷ 2 ∷ [])).contents (other_mark (5 ∷ [])) ≡ Some (2 ∷ [])
