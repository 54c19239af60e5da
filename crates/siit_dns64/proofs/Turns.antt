-- Messages that are judged in turn, and the answer by them.
use Rattle.std.proofs.Common.{◌≡◌, ◌∙◌, ℕ, List, [], length, flat_map, Bool, Option, Some, Result, Ok, Err, IfOk, IfErr, refl, sym, ap, arith}
use Rattle.std.proofs.lemmas.List.{append-nil}
use Rattle.siit_addr.specs.declared.addr.Prefix6.{Prefix6}
use Rattle.siit_dns.specs.Faults.{message_fault}
use Rattle.siit_dns.specs.Messages.{DnsMessage, message_of}
use Rattle.siit_dns.specs.declared.fault.DnsFault.{DnsFault}
use Rattle.siit_dns.specs.declared.fault.DnsFault.TheVariants.{Bad, NotQuery, NotAnswer, AnswerTooLong, NoMemory}
use Rattle.siit_dns64.specs.declared.fault.Dns64Fault.{Dns64Fault}
use Rattle.siit_dns64.specs.Answers.{Answer, count_made, joined, made_message, section_of, stand_in}
use Rattle.siit_dns64.specs.Body.{ComesTo, answer_with}
use Rattle.siit_dns64.specs.Dns64.{◌>>=◌, wanted, wanted_if_given, is_query, is_response, answer_by, dns64, RefusedBy, IsRefusal, Gives}
use Rattle.siit_dns64.specs.declared.body.Body.{Body}

refused-by : (which : ℕ) (fault : DnsFault) (answer : Result Answer Dns64Fault) → answer ≡ Err (record { which = which; fault = fault }) → RefusedBy which fault answer
refused-by which NoMemory answer is_fault = tt
refused-by which (Bad place) answer is_fault = is_fault
refused-by which NotQuery answer is_fault = is_fault
refused-by which NotAnswer answer is_fault = is_fault
refused-by which AnswerTooLong answer is_fault = is_fault

pub refused : (fault : Dns64Fault) (answer : Result Answer Dns64Fault) → answer ≡ Err fault → IsRefusal fault answer
refused fault answer is_fault = refused-by fault.which fault.fault answer is_fault

pub gives-ok : (given answer : Result Answer Dns64Fault) → Gives given answer → IfOk given (λ a. answer ≡ Ok a)
gives-ok (Ok a) answer gives = gives
gives-ok (Err fault) answer gives = tt

pub gives-err : (given answer : Result Answer Dns64Fault) → Gives given answer → IfErr given (λ fault. IsRefusal fault answer)
gives-err (Ok a) answer gives = tt
gives-err (Err fault) answer gives = gives

-- the messages in turn
abbrev pub with_four : (asked : DnsMessage) → (aaaa : List ℕ) → (six : DnsMessage) → List Prefix6 → Option DnsMessage → Result Answer Dns64Fault
with_four asked aaaa six prefixes four = answer_by asked aaaa six four prefixes

abbrev pub with_six : (asked : DnsMessage) → (aaaa : List ℕ) → Option (List ℕ) → List Prefix6 → DnsMessage → Result Answer Dns64Fault
with_six asked aaaa a prefixes six = wanted_if_given asked.question.name a >>= with_four asked aaaa six prefixes

abbrev pub with_query : (aaaa : List ℕ) → Option (List ℕ) → List Prefix6 → DnsMessage → Result Answer Dns64Fault
with_query aaaa a prefixes asked = wanted 1 NotAnswer (is_response asked.question.name 28) (message_of aaaa) >>= with_six asked aaaa a prefixes

dns64-is : (query aaaa : List ℕ) (a : Option (List ℕ)) (prefixes : List Prefix6) → dns64 query aaaa a prefixes ≡ (wanted 0 NotQuery is_query (message_of query) >>= with_query aaaa a prefixes)
unfolding dns64
dns64-is query aaaa a prefixes = refl

pub by-query : (query aaaa : List ℕ) (a : Option (List ℕ)) (prefixes : List Prefix6) (read : Result DnsMessage Dns64Fault) → read ≡ wanted 0 NotQuery is_query (message_of query)
    → dns64 query aaaa a prefixes ≡ (read >>= with_query aaaa a prefixes)
by-query query aaaa a prefixes read is_read = dns64-is query aaaa a prefixes ∙ ap (λ (r : Result DnsMessage Dns64Fault). r >>= with_query aaaa a prefixes) (sym is_read)

pub by-six : (asked : DnsMessage) (name aaaa : List ℕ) (a : Option (List ℕ)) (prefixes : List Prefix6) (read : Result DnsMessage Dns64Fault) → name ≡ asked.question.name
    → read ≡ wanted 1 NotAnswer (is_response name 28) (message_of aaaa) → with_query aaaa a prefixes asked ≡ (read >>= with_six asked aaaa a prefixes)
by-six asked name aaaa a prefixes read is_name is_read =
    ap (λ (n : List ℕ). wanted 1 NotAnswer (is_response n 28) (message_of aaaa) >>= with_six asked aaaa a prefixes) (sym is_name)
    ∙ ap (λ (r : Result DnsMessage Dns64Fault). r >>= with_six asked aaaa a prefixes) (sym is_read)

abbrev pub as_given : DnsMessage → Result (Option DnsMessage) Dns64Fault
as_given four = Ok (Some four)

pub by-four : (asked : DnsMessage) (name aaaa bytes : List ℕ) (six : DnsMessage) (prefixes : List Prefix6) (read : Result DnsMessage Dns64Fault) → name ≡ asked.question.name
    → read ≡ wanted 2 NotAnswer (is_response name 1) (message_of bytes)
    → with_six asked aaaa (Some bytes) prefixes six ≡ (read >>= as_given >>= with_four asked aaaa six prefixes)
by-four asked name aaaa bytes six prefixes read is_name is_read =
    ap (λ (n : List ℕ). wanted 2 NotAnswer (is_response n 1) (message_of bytes) >>= as_given >>= with_four asked aaaa six prefixes) (sym is_name)
    ∙ ap (λ (r : Result DnsMessage Dns64Fault). r >>= as_given >>= with_four asked aaaa six prefixes) (sym is_read)

-- a message that is at fault
pub fault-read : (which : ℕ) (other fault : DnsFault) (test : DnsMessage → Bool) (read : Result DnsMessage ℕ) → Some fault ≡ message_fault read
    → Err (record { which = which; fault = fault }) ≡ wanted which other test read
fault-read which other fault test (Ok message) is_fault = absurd (cc)
fault-read which other fault test (Err place) is_fault = let same : fault ≡ Bad place = cc in ap (λ (f : DnsFault). Err (record { which = which; fault = f })) same

-- an answer that a body makes
pub its-answer : (asked a : DnsMessage) (greatest : ℕ) (prefixes : List Prefix6) (body : Body) → ComesTo body greatest prefixes [] a.records
    → answer_with asked a body ≡ record { bytes = made_message asked greatest a prefixes; made = count_made greatest prefixes a.records }
its-answer asked a greatest prefixes body comes =
    let answers : body.answers ≡ length (section_of 0 greatest prefixes a.records) = omega (arith, comes.answers) in
    let authorities : body.authorities ≡ length (section_of 1 greatest prefixes a.records) = omega (arith, comes.authorities) in
    let additionals : body.additionals ≡ length (section_of 2 greatest prefixes a.records) = omega (arith, comes.additionals) in
    let made : body.made ≡ count_made greatest prefixes a.records = omega (arith, comes.made) in
    let bytes : body.bytes.items ≡ joined (flat_map (stand_in greatest prefixes) a.records) = sym (append-nil body.bytes.items) ∙ comes.bytes in
    rw (answers, authorities, additionals, made, bytes) refl
