-- What `dns64 PREFIX QUERY AAAA A OUT` prints and promises, by its status.
use Rattle.std.specs.Prelude.{◌≡◌, ◌⊎◌, ℕ, zero, suc, ◌≤◌, List, [], ◌∷◌, ◌++◌, length, codes, option_map, option_to_list, ◌==◌, nat_lt, if◌then◌else◌, Option, Some, None, Result, Ok, Err}
use Rattle.std.specs.Fmt.{decimal}
use Rattle.siit_addr.specs.declared.addr.Prefix6.{Prefix6}
use Rattle.siit_command.specs.Reading.{IsLonger, WasRead}
use Rattle.siit_command.specs.declared.reading.Unread.{Unread}
use Rattle.siit_command.specs.declared.reading.Unread.TheVariants as unread
use Rattle.siit_dns.specs.declared.fault.DnsFault.{DnsFault}
use Rattle.siit_dns64.specs.Answers as dns
use Rattle.siit_dns64.specs.Dns64.{dns64}
use Rattle.siit_dns64.specs.declared.fault.Dns64Fault.{Dns64Fault}
use Rattle.siit_word.specs.Files.{held, FilesMeaning, Holds, HoldsPart, ReadFailed}
use Rattle.siit_top.specs.Runs.{Run, Unwritten}
use Rattle.siit_top.specs.Words.{Messages}
use Rattle.siit_top.specs.declared.status.Status.{Status}
use Rattle.siit_top.specs.declared.status.Status.TheVariants as status

-- the line of an answer: it is the AAAA response passed on, or so many of its records were made
abbrev pub answer_line : (made : ℕ) → List ℕ
answer_line made = if made == 0 then codes "passed\n" else codes "made " ++ decimal made ++ 10 ∷ []

-- the files that are read
abbrev pub files_of : Messages → List (List ℕ)
files_of names = names.query ∷ names.aaaa ∷ option_to_list names.a

-- what these files hold
abbrev pub messages_held : FilesMeaning → Messages → Messages
messages_held files names = record {
  query = held (files.contents names.query);
  aaaa = held (files.contents names.aaaa);
  a = option_map (λ name. held (files.contents name)) names.a;
}

-- the word of a message: QUERY, AAAA and A, counted with the command's name as 0
abbrev pub message_word : (which : ℕ) → ℕ
message_word which = if which == 0 then 2 else if which == 1 then 3 else 4

-- the word of the first message that has more bytes than a message may have
abbrev pub long_if_given : Option (List ℕ) → Option ℕ
long_if_given None = None
long_if_given (Some bytes) = if nat_lt 65535 (length bytes) then Some 4 else None

abbrev pub first_long : Messages → Option ℕ
first_long messages =
    if nat_lt 65535 (length messages.query) then Some 2
    else if nat_lt 65535 (length messages.aaaa) then Some 3
    else long_if_given messages.a

-- What the messages decide: one is too long, they are refused, or an answer.
pub data Decision : Type 0 where
  too_long : (word : ℕ) → Decision
  bad_message : (fault : Dns64Fault) → Decision
  answers : (answer : dns.Answer) → Decision

abbrev pub decision_by : Result dns.Answer Dns64Fault → Decision
decision_by (Err fault) = bad_message fault
decision_by (Ok answer) = answers answer

abbrev pub decision_at : Option ℕ → Result dns.Answer Dns64Fault → Decision
decision_at (Some word) answer = too_long word
decision_at None answer = decision_by answer

abbrev pub decision : Prefix6 → Messages → Decision
decision prefix messages = decision_at (first_long messages) (dns64 messages.query messages.aaaa messages.a (prefix ∷ []))

-- OUT holds an answer, and its line was printed.
abbrev pub IsAnswered : (output : List ℕ) → Run → Decision → Type 0
IsAnswered output run (answers answer) = Holds run.after output answer.bytes × (run.out_after ≡ run.out_before ++ answer_line answer.made)
IsAnswered output run other = ⊥

-- the fault is that one, of the message of this word
abbrev pub IsRefused : (word : ℕ) → DnsFault → Decision → Type 0
IsRefused word fault (bad_message told) = (word ≡ message_word told.which) × (fault ≡ told.fault)
IsRefused word fault other = ⊥

-- The status says the decision.
abbrev pub Says : (output : List ℕ) → Run → Status → Decision → Type 0
Says output run status.Ok decision = IsAnswered output run decision
Says output run (status.BadMessage word fault) decision = IsRefused word fault decision
Says output run (status.TooLong word) decision = decision ≡ too_long word
Says output run other decision = ⊥

-- a message has at most as many bytes as one may have, if it is given
abbrev pub IsShortIfGiven : Option (List ℕ) → Type 0
IsShortIfGiven None = Unit {0}
IsShortIfGiven (Some bytes) = length bytes ≤ 65535

pub record AreShort (messages : Messages) : Type 0 where
  pub query : length messages.query ≤ 65535
  pub aaaa : length messages.aaaa ≤ 65535
  pub a : IsShortIfGiven messages.a

-- a file was read as these bytes, if it is given
abbrev pub WasReadIfGiven : FilesMeaning → Option (List ℕ) → Option (List ℕ) → Type 0
WasReadIfGiven files None None = Unit {0}
WasReadIfGiven files (Some name) (Some bytes) = WasRead files name 65535 bytes
WasReadIfGiven files name bytes = ⊥

-- The files were read as these messages.
pub record WereRead (files : FilesMeaning) (names messages : Messages) : Type 0 where
  pub query : WasRead files names.query 65535 messages.query
  pub aaaa : WasRead files names.aaaa 65535 messages.aaaa
  pub a : WasReadIfGiven files names.a messages.a

-- The file was read to its end as a message, which has at most as many bytes as one may have.
abbrev pub IsReadAsMessage : FilesMeaning → (name : List ℕ) → Type 0
IsReadAsMessage files name = (bytes : List ℕ) × WasRead files name 65535 bytes

-- This holds of the file at this place, counted from 0, and those before it were read as messages.
abbrev pub HoldsFirst : (List ℕ → Type 0) → FilesMeaning → (names : List (List ℕ)) → (place : ℕ) → Type 0
HoldsFirst P files [] place = ⊥
HoldsFirst P files (name ∷ names) zero = P name
HoldsFirst P files (name ∷ names) (suc place) = IsReadAsMessage files name × HoldsFirst P files names place

-- The message of this word is the first that is too long. Each fact needs only that its own file is told, and none
-- speaks of the files behind it.
pub record IsLongAt (files : FilesMeaning) (names : Messages) (word : ℕ) : Type 0 where
  pub which : ℕ
  pub word_of : word ≡ message_word which
  pub long : HoldsFirst (λ name. IsLonger files name 65535) files (files_of names) which

-- Reading the file of a message failed, once those before it were read.
pub record IsReadFault (before after : FilesMeaning) (names : Messages) : Type 0 where
  pub which : ℕ
  pub failed : HoldsFirst (ReadFailed before after) before (files_of names) which

-- why the file of this word wasn't read
abbrev pub IsUnreadAt : (before after : FilesMeaning) (names : Messages) (word : ℕ) → Unread → Type 0
IsUnreadAt before after names word unread.Failed = IsReadFault before after names
IsUnreadAt before after names word unread.NoMemory = Unit {0}
IsUnreadAt before after names word unread.TooLong = IsLongAt before names word

-- The files were read as these messages, which decide the status.
pub record AreRead (prefix : Prefix6) (names : Messages) (output : List ℕ) (run : Run) : Type 0 where
  pub messages : Messages
  pub read : WereRead run.before names messages
  pub says : Says output run run.status (decision prefix messages)

-- They decide a fault, and nothing was written.
pub record AreRefused (prefix : Prefix6) (names : Messages) (output : List ℕ) (run : Run) : Type 0 where
  pub decided : AreRead prefix names output run
  pub unwritten : Unwritten run

-- They decide an answer, and OUT is as before or holds a part of it, from its start.
pub record AnswersPart (prefix : Prefix6) (names : Messages) (output : List ℕ) (run : Run) : Type 0 where
  pub messages : Messages
  pub answer : dns.Answer
  pub read : WereRead run.before names messages
  pub decides : decision prefix messages ≡ answers answer
  pub part : HoldsPart run.before run.after output answer.bytes

-- The message of this word is the first that is too long, and nothing was written.
pub record IsLongMessage (word : ℕ) (names : Messages) (run : Run) : Type 0 where
  pub long : IsLongAt run.before names word
  pub unwritten : Unwritten run

-- A message wasn't read, and nothing was written.
pub record IsUnreadMessage (names : Messages) (run : Run) : Type 0 where
  pub failed : IsReadFault run.before run.after names
  pub unwritten : Unwritten run

-- what holds after each status; others don't come
abbrev pub Dns64Answer : Prefix6 → (names : Messages) (output : List ℕ) → Run → Status → Type 0
Dns64Answer prefix names output run status.Ok = AreRead prefix names output run
Dns64Answer prefix names output run (status.BadMessage word fault) = AreRefused prefix names output run
Dns64Answer prefix names output run status.ReadFault = IsUnreadMessage names run
Dns64Answer prefix names output run status.WriteFault = AnswersPart prefix names output run
Dns64Answer prefix names output run status.NoMemory = Unwritten run ⊎ AnswersPart prefix names output run
Dns64Answer prefix names output run (status.TooLong word) = IsLongMessage word names run
Dns64Answer prefix names output run other = ⊥
