-- The command that the words after the program's name are.
use Rattle.std.specs.Prelude.{ℕ, List, [], ◌∷◌, ◌++◌, codes, Bool, true, ◌&&◌, if◌then◌else◌, Option, Some, None, option_map}
use Rattle.std.specs.Str.{bytes_eq}
use Rattle.siit_addr.specs.Texts.{both_with}
use Rattle.siit_addr.specs.declared.addr.Prefix6.{Prefix6}
use Rattle.siit_config.specs.Texts.{embedding_of}
use Rattle.siit_command.specs.Words.{Address, address_of_text, is_output_name, number_of_text}

-- of a DNS query, the response for AAAA records, and the one for A records where it is given: the names of their files,
-- or their bytes
pub record Messages : Type 0 where
  pub query : List ℕ
  pub aaaa : List ℕ
  pub a : Option (List ℕ)

abbrev pub messages_of : (query aaaa : List ℕ) (a : Option (List ℕ)) → Messages
messages_of query aaaa a = record { query = query; aaaa = aaaa; a = a }

-- the name of a file, which isn't given where it is `-`
abbrev pub given_name : List ℕ → Option (List ℕ)
given_name word = if bytes_eq word (codes "-") then None else Some word

-- the files of `run`: the configuration, both captures, where they are given, and the outputs
pub record RunFiles : Type 0 where
  pub configuration : List ℕ
  pub left : Option (List ℕ)
  pub right : Option (List ℕ)
  pub left_output : List ℕ
  pub right_output : List ℕ
  pub report : List ℕ

-- the files that these words name
abbrev pub run_files : (configuration left right left_output right_output report : List ℕ) → RunFiles
run_files configuration left right left_output right_output report = record {
  configuration = configuration;
  left = given_name left;
  right = given_name right;
  left_output = left_output;
  right_output = right_output;
  report = report;
}

pub data Command : Type 0 where
  -- carry both captures through the network of a configuration
  carry_run : (names : RunFiles) → Command
  -- carry the capture IN through a translator under the well-known prefix, to OUT
  wkp : (input output : List ℕ) → Command
  -- map an address at a device of the configuration CONFIG, the first device being 1
  map_address : (configuration : List ℕ) (device : ℕ) (address : Address) → Command
  -- find the prefixes that the DNS answer ANSWER shows
  discover : (answer : List ℕ) → Command
  -- answer a DNS query for AAAA records from the responses, under a prefix, to OUT
  synthesis : (prefix : Prefix6) (names : Messages) (output : List ℕ) → Command

-- Each of these outputs has a name that it may have beside all the other words that name files.
abbrev pub are_output_names : (outputs others : List (List ℕ)) → Bool
are_output_names [] others = true
are_output_names (name ∷ names) others = is_output_name name (names ++ others) && are_output_names names (name ∷ others)

-- CONFIG LEFT RIGHT OUTLEFT OUTRIGHT REPORT
abbrev pub carry_run_of : List (List ℕ) → Option Command
carry_run_of (configuration ∷ left ∷ right ∷ left_output ∷ right_output ∷ report ∷ []) =
    if are_output_names (left_output ∷ right_output ∷ report ∷ []) (configuration ∷ left ∷ right ∷ [])
    then Some (carry_run (run_files configuration left right left_output right_output report))
    else None
carry_run_of words = None

-- IN OUT
abbrev pub wkp_of : List (List ℕ) → Option Command
wkp_of (input ∷ output ∷ []) = if is_output_name output (input ∷ []) then Some (wkp input output) else None
wkp_of words = None

-- CONFIG DEVICE ADDRESS
abbrev pub map_of : List (List ℕ) → Option Command
map_of (configuration ∷ device ∷ address ∷ []) =
    both_with (map_address configuration) (number_of_text device) (address_of_text address)
map_of words = None

-- ANSWER
abbrev pub discover_of : List (List ℕ) → Option Command
discover_of (answer ∷ []) = Some (discover answer)
discover_of words = None

-- PREFIX QUERY AAAA A OUT
abbrev pub dns64_of : List (List ℕ) → Option Command
dns64_of (prefix ∷ query ∷ aaaa ∷ a ∷ output ∷ []) =
    if is_output_name output (query ∷ aaaa ∷ a ∷ [])
    then option_map (λ p. synthesis p (messages_of query aaaa (given_name a)) output) (embedding_of prefix)
    else None
dns64_of words = None

-- the name of a command, and its words
abbrev pub command_of : List (List ℕ) → Option Command
command_of [] = None
command_of (name ∷ words) =
    if bytes_eq name (codes "run") then carry_run_of words
    else if bytes_eq name (codes "wkp") then wkp_of words
    else if bytes_eq name (codes "map") then map_of words
    else if bytes_eq name (codes "discover") then discover_of words
    else if bytes_eq name (codes "dns64") then dns64_of words
    else None
