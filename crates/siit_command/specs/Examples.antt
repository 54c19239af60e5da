-- Words that are numbers, addresses and names of outputs, and words that are none.
use Rattle.std.specs.Prelude.{◌≡◌, [], ◌∷◌, codes, true, false, Some, None}
use Rattle.siit_command.specs.Words.{address_of_text, four, is_output_name, number_of_text, six}

pub record WordExamples : Type 0 where
  pub zero : number_of_text (codes "0") ≡ Some 0
  pub greatest : number_of_text (codes "18446744073709551615") ≡ Some 18446744073709551615
  pub too_great : number_of_text (codes "18446744073709551616") ≡ None
  pub leading_zero : number_of_text (codes "01") ≡ None
  pub sign : number_of_text (codes "+1") ≡ None
  pub no_digits : number_of_text [] ≡ None
  pub ipv4 : address_of_text (codes "8.8.8.8") ≡ Some (four 0x08080808)
  pub ipv6 : address_of_text (codes "::1") ≡ Some (six 1)
  pub no_address : address_of_text (codes "192.168.1.300") ≡ None
  pub output : is_output_name (codes "out") (codes "in" ∷ codes "-" ∷ []) ≡ true
  pub dash : is_output_name (codes "-") (codes "in" ∷ []) ≡ false
  pub same : is_output_name (codes "out") (codes "in" ∷ codes "out" ∷ []) ≡ false
