-- What `discover ANSWER` prints and promises, by its status.
use Rattle.std.specs.Prelude.{◌≡◌, ℕ, List, [], ◌∷◌, ◌++◌, length, codes, flat_map, nat_lt, if◌then◌else◌, Result, Ok, Err}
use Rattle.siit_addr.specs.Canonical.{prefix6_text}
use Rattle.siit_command.specs.Reading.{IsLonger, WasRead}
use Rattle.siit_discovery.specs.Discovery.{found}
use Rattle.siit_dns.specs.declared.fault.DnsFault.{DnsFault}
use Rattle.siit_top.specs.Runs.{Run}
use Rattle.siit_top.specs.declared.status.Status.{Status}
use Rattle.siit_top.specs.declared.status.Status.TheVariants as status

-- the line of a prefix, an address and a length
abbrev pub prefix_line : ℕ × ℕ → List ℕ
prefix_line prefix = prefix6_text prefix.0 prefix.1 ++ 10 ∷ []

-- a line for each prefix, or a line that there is none
abbrev pub prefix_lines : List (ℕ × ℕ) → List ℕ
prefix_lines [] = codes "none\n"
prefix_lines (first ∷ others) = flat_map prefix_line (first ∷ others)

-- What the bytes of ANSWER decide: they are more than a message may have, they are refused as an answer, or lines.
pub data Decision : Type 0 where
  too_long : Decision
  bad_message : (fault : DnsFault) → Decision
  prints : (lines : List ℕ) → Decision

abbrev pub decision_by : Result (List (ℕ × ℕ)) DnsFault → Decision
decision_by (Err fault) = bad_message fault
decision_by (Ok prefixes) = prints (prefix_lines prefixes)

abbrev pub decision : List ℕ → Decision
decision bytes = if nat_lt 65535 (length bytes) then too_long else decision_by (found bytes)

-- lines were appended
abbrev pub ArePrinted : (out_old out_new : List ℕ) → Decision → Type 0
ArePrinted out_old out_new (prints lines) = out_new ≡ out_old ++ lines
ArePrinted out_old out_new other = ⊥

-- The status says the decision.
abbrev pub Says : (out_old out_new : List ℕ) → Status → Decision → Type 0
Says out_old out_new status.Ok decision = ArePrinted out_old out_new decision
Says out_old out_new (status.BadMessage word fault) decision = (word ≡ 1) × (decision ≡ bad_message fault)
Says out_old out_new (status.TooLong word) decision = (word ≡ 1) × (decision ≡ too_long)
Says out_old out_new other decision = ⊥

-- ANSWER was read as these bytes, and the status is what they decide.
pub record IsReadAnswer (answer : List ℕ) (run : Run) : Type 0 where
  pub bytes : List ℕ
  pub read : WasRead run.before answer 65535 bytes
  pub says : Says run.out_before run.out_after run.status (decision bytes)

-- ANSWER has more bytes than a message may have.
pub record IsLongAnswer (answer : List ℕ) (run : Run) : Type 0 where
  pub word : run.status ≡ status.TooLong 1
  pub long : IsLonger run.before answer 65535

-- what holds after each status; others don't come
abbrev pub DiscoverAnswer : (answer : List ℕ) → Run → Status → Type 0
DiscoverAnswer answer run status.Ok = IsReadAnswer answer run
DiscoverAnswer answer run (status.BadMessage word fault) = IsReadAnswer answer run
DiscoverAnswer answer run status.ReadFault = Unit {0}
DiscoverAnswer answer run status.NoMemory = Unit {0}
DiscoverAnswer answer run (status.TooLong word) = IsLongAnswer answer run
DiscoverAnswer answer run other = ⊥
