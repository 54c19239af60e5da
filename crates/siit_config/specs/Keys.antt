-- The keys of a table of a TOML document, read one by one.
use Rattle.std.specs.Prelude.{ℕ, List, [], ◌∷◌, length, take, Bool, nat_le, if◌then◌else◌, Option, Some, None, option_and_then, Result, Ok, Err}
use Rattle.std.specs.List.{list_any}
use Rattle.std.specs.Str.{bytes_eq}
use Rattle.std.specs.Fmt.Cut.{floor_char_boundary}
use Rattle.toml.specs.Data.{Data, Items, no_items, item, Members, no_members, member, get_member, as_str, as_integer, as_bool, as_array}
use Rattle.siit_addr.specs.Texts.{both_with}
use Rattle.siit_config.specs.Faults.{Fault, missing, wrong_kind, bad_value, unknown, ◌>>=◌, or_fault}
use Rattle.siit_config.specs.Texts.{number_within}

-- What the value of a key stands for: it must be there where there is no default, and then of the kind, and then
-- accepted.
abbrev pub value_of : {K X : Type 0} → (kind : Data → Option K) → (accepts : K → Option X) → (default : Option X)
    → (device : ℕ) → (name : List ℕ) → Option Data → Result X Fault
value_of kind accepts default device name None = or_fault (missing device name) default
value_of kind accepts default device name (Some found) = do
  value ← or_fault (wrong_kind device name) (kind found)
  or_fault (bad_value device name) (accepts value)

module _ (device : ℕ) (members : Members) where
  abbrev pub key : {K X : Type 0} → (kind : Data → Option K) → (accepts : K → Option X) → (default : Option X)
      → (name : List ℕ) → Result X Fault
  key kind accepts default name = value_of kind accepts default device name (get_member name members)

  -- a text that must be there
  abbrev pub text : {X : Type 0} → (accepts : List ℕ → Option X) → (name : List ℕ) → Result X Fault
  text accepts name = key as_str accepts None name

  -- a text, a number between two others, and a boolean, each with a default
  abbrev pub text_or : {X : Type 0} → X → (accepts : List ℕ → Option X) → (name : List ℕ) → Result X Fault
  text_or default accepts name = key as_str accepts (Some default) name

  abbrev pub number_or : (default low high : ℕ) → (name : List ℕ) → Result ℕ Fault
  number_or default low high name = key as_integer (number_within low high) (Some default) name

  abbrev pub flag_or : Bool → (name : List ℕ) → Result Bool Fault
  flag_or default name = key as_bool (λ b. Some b) (Some default) name

-- the first 64 bytes of a key, cut at a character
abbrev pub cut_key : List ℕ → List ℕ
cut_key name = if nat_le (length name) 64 then name else take (floor_char_boundary name 64) name

-- The first key that isn't among the known ones. Keys stand in ascending order of their bytes.
abbrev pub first_unknown : List (List ℕ) → Members → Option (List ℕ)
first_unknown known no_members = None
first_unknown known (member name value members) =
    if list_any (bytes_eq name) known then first_unknown known members else Some name

-- no other keys are there
abbrev pub no_others : (device : ℕ) → List (List ℕ) → Members → Result (Unit {0}) Fault
no_others device known members = none_of (first_unknown known members)
  where
    none_of : Option (List ℕ) → Result (Unit {0}) Fault
    none_of None = Ok tt
    none_of (Some name) = Err (unknown device (cut_key name))

-- the items of an array of which each one stands for something
abbrev pub all_of : {X : Type 0} → (Data → Option X) → Items → Option (List X)
all_of kind no_items = Some []
all_of kind (item value items) = both_with (λ x xs. x ∷ xs) (kind value) (all_of kind items)

abbrev pub array_of : {X : Type 0} → (Data → Option X) → Data → Option (List X)
array_of kind value = option_and_then (all_of kind) (as_array value)

-- an array of two texts
abbrev pub texts_in : Items → Option (List ℕ × List ℕ)
texts_in (item first (item second no_items)) = both_with (λ t u. (t, u)) (as_str first) (as_str second)
texts_in _ = None

abbrev pub two_texts : Data → Option (List ℕ × List ℕ)
two_texts value = option_and_then texts_in (as_array value)
