-- DNS64 (RFC 6147 section 5): the answer to a query for AAAA records by the responses to it and to the query for A
-- records.
use Rattle.std.specs.Prelude.{◌≡◌, ℕ, List, ◌++◌, length, drop, Bool, ◌==◌, ◌&&◌, ◌||◌, not, nat_lt, if◌then◌else◌, Option, Some, None, Result, Ok, Err}
use Rattle.siit_model.specs.Bytes.{bytes16}
use Rattle.siit_addr.specs.declared.addr.Prefix6.{Prefix6}
use Rattle.siit_dns.specs.Names.{is_same_name}
use Rattle.siit_dns.specs.Messages.{DnsMessage, message_of}
use Rattle.siit_dns.specs.declared.fault.DnsFault.{DnsFault}
use Rattle.siit_dns.specs.declared.fault.DnsFault.TheVariants.{Bad, NotQuery, NotAnswer, AnswerTooLong, NoMemory}
use Rattle.siit_dns64.specs.declared.fault.Dns64Fault.{Dns64Fault}
use Rattle.siit_dns64.specs.Answers.{Answer, bit, code_of, greatest_ttl, made_message, count_made, answers_itself}

infixl 10 ◌>>=◌
abbrev pub ◌>>=◌ : {A B : Type 0} → Result A Dns64Fault → (A → Result B Dns64Fault) → Result B Dns64Fault
(Ok x) >>= f = f x
(Err fault) >>= f = Err fault

-- a query (QR 0) for AAAA records (28) of class 1
abbrev pub is_query : DnsMessage → Bool
is_query message = (bit 15 message.flags == 0) && (message.question.class == 1) && (message.question.kind == 28)

-- a response (QR 1) to a question for records of a type under this name and of class 1
abbrev pub is_response : (name : List ℕ) → (kind : ℕ) → DnsMessage → Bool
is_response name kind message =
    (bit 15 message.flags == 1) && is_same_name message.question.name name && (message.question.class == 1)
    && (message.question.kind == kind)

-- A message that is wanted so, or why it is refused: `which` is 0 for the query, 1 for the AAAA response and 2 for
-- the A response.
abbrev pub wanted : (which : ℕ) → DnsFault → (DnsMessage → Bool) → Result DnsMessage ℕ → Result DnsMessage Dns64Fault
wanted which other test (Err place) = Err (record { which = which; fault = Bad place })
wanted which other test (Ok message) = if test message then Ok message else Err (record { which = which; fault = other })

abbrev pub wanted_if_given : (name : List ℕ) → Option (List ℕ) → Result (Option DnsMessage) Dns64Fault
wanted_if_given name None = Ok None
wanted_if_given name (Some bytes) = wanted 2 NotAnswer (is_response name 1) (message_of bytes) >>= λ a. Ok (Some a)

-- the AAAA response as it is, with the query's identifier
abbrev pub passed_on : (query : DnsMessage) → (aaaa : List ℕ) → Answer
passed_on query aaaa = record { bytes = bytes16 query.id ++ drop 2 aaaa; made = 0 }

-- an answer of at most 65,535 bytes
abbrev pub that_fits : Answer → Result Answer Dns64Fault
that_fits answer =
    if nat_lt 65535 (length answer.bytes) then Err (record { which = 2; fault = AnswerTooLong }) else Ok answer

-- the answer made from an A response, where something is made
abbrev pub made_by : (query : DnsMessage) → (aaaa : List ℕ) → (greatest : ℕ) → (a : DnsMessage) → List Prefix6 → Result Answer Dns64Fault
made_by query aaaa greatest a prefixes =
    let made = count_made greatest prefixes a.records in
    if not (code_of a == 0) || (made == 0) then Ok (passed_on query aaaa)
    else that_fits (record { bytes = made_message query greatest a prefixes; made = made })

abbrev pub answer_by : (query : DnsMessage) → (bytes : List ℕ) → (aaaa : DnsMessage) → Option DnsMessage → List Prefix6 → Result Answer Dns64Fault
answer_by query bytes aaaa None prefixes = Ok (passed_on query bytes)
answer_by query bytes aaaa (Some a) prefixes =
    if answers_itself aaaa then Ok (passed_on query bytes) else made_by query bytes (greatest_ttl aaaa) a prefixes

-- The messages are judged in this order, each wholly before the next.
unfoldable pub dns64 : (query aaaa : List ℕ) → (a : Option (List ℕ)) → List Prefix6 → Result Answer Dns64Fault
dns64 query aaaa a prefixes = do
  asked ← wanted 0 NotQuery is_query (message_of query)
  six ← wanted 1 NotAnswer (is_response asked.question.name 28) (message_of aaaa)
  four ← wanted_if_given asked.question.name a
  answer_by asked aaaa six four prefixes

-- The answer is refused so. Want of memory may come whatever the answer is.
abbrev pub RefusedBy : (which : ℕ) → DnsFault → Result Answer Dns64Fault → Type 0
RefusedBy which NoMemory answer = Unit {0}
RefusedBy which (Bad place) answer = answer ≡ Err (record { which = which; fault = Bad place })
RefusedBy which NotQuery answer = answer ≡ Err (record { which = which; fault = NotQuery })
RefusedBy which NotAnswer answer = answer ≡ Err (record { which = which; fault = NotAnswer })
RefusedBy which AnswerTooLong answer = answer ≡ Err (record { which = which; fault = AnswerTooLong })

abbrev pub IsRefusal : Dns64Fault → Result Answer Dns64Fault → Type 0
IsRefusal fault answer = RefusedBy fault.which fault.fault answer

-- what a call returned is the answer, or a refusal of it
abbrev pub Gives : Result Answer Dns64Fault → Result Answer Dns64Fault → Type 0
Gives (Ok given) answer = answer ≡ Ok given
Gives (Err fault) answer = IsRefusal fault answer
