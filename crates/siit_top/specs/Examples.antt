-- Words that are commands, and words that are none, as worked by hand.
use Rattle.std.specs.Prelude.{◌≡◌, ℕ, List, [], ◌∷◌, Option, Some, None, codes}
use Rattle.siit_command.specs.Words.{four, six}
use Rattle.siit_top.specs.Words.{carry_run, command_of, map_address, wkp, Command, RunFiles}

pub record WordExamples : Type 0 where
  pub good : command_of (codes "wkp" ∷ codes "in" ∷ codes "out" ∷ []) ≡ Some (wkp (codes "in") (codes "out"))
  pub input_dash : command_of (codes "wkp" ∷ codes "-" ∷ codes "out" ∷ []) ≡ Some (wkp (codes "-") (codes "out"))
  pub output_dash : command_of (codes "wkp" ∷ codes "in" ∷ codes "-" ∷ []) ≡ None
  pub same : command_of (codes "wkp" ∷ codes "in" ∷ codes "in" ∷ []) ≡ None
  pub few : command_of (codes "wkp" ∷ codes "in" ∷ []) ≡ None
  pub other : command_of (codes "wkq" ∷ codes "in" ∷ codes "out" ∷ []) ≡ None

pub record MapWordExamples : Type 0 where
  pub ipv4 : command_of (codes "map" ∷ codes "c" ∷ codes "1" ∷ codes "8.8.8.8" ∷ []) ≡ Some (map_address (codes "c") 1 (four 0x08080808))
  pub ipv6 : command_of (codes "map" ∷ codes "-" ∷ codes "0" ∷ codes "::1" ∷ []) ≡ Some (map_address (codes "-") 0 (six 1))
  pub greatest : command_of (codes "map" ∷ codes "c" ∷ codes "18446744073709551615" ∷ codes "::1" ∷ []) ≡ Some (map_address (codes "c") 18446744073709551615 (six 1))
  pub too_great : command_of (codes "map" ∷ codes "c" ∷ codes "18446744073709551616" ∷ codes "::1" ∷ []) ≡ None
  pub leading_zero : command_of (codes "map" ∷ codes "c" ∷ codes "01" ∷ codes "::1" ∷ []) ≡ None
  pub sign : command_of (codes "map" ∷ codes "c" ∷ codes "+1" ∷ codes "::1" ∷ []) ≡ None
  pub no_digits : command_of (codes "map" ∷ codes "c" ∷ [] ∷ codes "::1" ∷ []) ≡ None
  pub no_address : command_of (codes "map" ∷ codes "c" ∷ codes "1" ∷ codes "192.168.1.300" ∷ []) ≡ None
  pub few : command_of (codes "map" ∷ codes "c" ∷ codes "1" ∷ []) ≡ None
  pub other : command_of (codes "wkp" ∷ codes "c" ∷ codes "1" ∷ codes "::1" ∷ []) ≡ None

-- of the words of a file each by one letter
abbrev run_words : (left right left_output : List ℕ) → List (List ℕ)
run_words left right left_output =
    codes "run" ∷ codes "c" ∷ left ∷ right ∷ left_output ∷ codes "p" ∷ codes "r" ∷ []

abbrev run_command : (left right : Option (List ℕ)) → Command
run_command left right =
    carry_run (record {
      configuration = codes "c";
      left = left;
      right = right;
      left_output = codes "o";
      right_output = codes "p";
      report = codes "r";
    })

pub record RunWordExamples : Type 0 where
  pub good : command_of (run_words (codes "a") (codes "b") (codes "o")) ≡ Some (run_command (Some (codes "a")) (Some (codes "b")))
  pub no_left : command_of (run_words (codes "-") (codes "b") (codes "o")) ≡ Some (run_command None (Some (codes "b")))
  pub no_captures : command_of (run_words (codes "-") (codes "-") (codes "o")) ≡ Some (run_command None None)
  -- inputs may be one file
  pub one_input : command_of (run_words (codes "c") (codes "c") (codes "o")) ≡ Some (run_command (Some (codes "c")) (Some (codes "c")))
  pub output_dash : command_of (run_words (codes "a") (codes "b") (codes "-")) ≡ None
  pub over_configuration : command_of (run_words (codes "a") (codes "b") (codes "c")) ≡ None
  pub over_capture : command_of (run_words (codes "a") (codes "b") (codes "b")) ≡ None
  pub over_output : command_of (run_words (codes "a") (codes "b") (codes "p")) ≡ None
  pub over_report : command_of (run_words (codes "a") (codes "b") (codes "r")) ≡ None
  pub outputs_alike : command_of (codes "run" ∷ codes "c" ∷ codes "l" ∷ codes "-" ∷ codes "o" ∷ codes "o" ∷ codes "r" ∷ []) ≡ None
  pub few : command_of (codes "run" ∷ codes "c" ∷ codes "a" ∷ codes "b" ∷ codes "o" ∷ codes "p" ∷ []) ≡ None
