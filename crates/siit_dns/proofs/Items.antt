-- Records that are read one after another, and the message that they are in.
use Rattle.std.proofs.Common.{◌++◌, zero, suc, drop, slice_get, option_map, option_to_list, IsNone, ◌≡◌, ◌∙◌, ℕ, ◌+◌, ◌<◌, ◌≤◌, List, [], ◌∷◌, length, Bool, true, false, not, ◌==◌, nat_lt, if◌then◌else◌, Option, Some, None, Result, Ok, Err, IsTrue, is_ok, refl, sym, ap, subst, arith}
use Rattle.std.specs.Result.{result_err}
use Rattle.std.proofs.lemmas.Bool.Decides.{nat_tests}
use Rattle.std.proofs.lemmas.List.{drop-drop}
use Rattle.std.proofs.Math.Seq.{drop-nil}
use Rattle.siit_model.specs.Bytes.{field16, field32, part}
use Rattle.siit_dns.specs.Names.{name_at}
use Rattle.siit_dns.specs.Rdata.{rdata_at}
use Rattle.siit_dns.specs.Messages.{◌>>=◌, Question, ResourceRecord, DnsMessage, item, behind, question_at, record_at, records_from, sections_of, message_of}
use Rattle.siit_dns.specs.Reading.{value_of, end_of, place_of, the_message, IsMessage, AreRecords}

-- what was decided in front of a value that was read
bind_ok : {A B : Type 0} (read : Result A ℕ) (f : A → Result B ℕ) (y : B) → (read >>= f) ≡ Ok y → (x : A) × (read ≡ Ok x) × (f x ≡ Ok y)
bind_ok (Ok x) f y found = (x, refl, found)
bind_ok (Err place) f y found = absurd (cc)

passed : {A : Type 0} (test : Bool) (place : ℕ) (read : Result A ℕ) (y : A) → (if test then Err place else read) ≡ Ok y → (test ≡ false) × (read ≡ Ok y)
passed true place read y found = absurd (cc)
passed false place read y found = (refl, found)

-- what is read behind a record's name, and behind its fields
abbrev behind_fields : (section : ℕ) → List ℕ → List ℕ × ℕ → ℕ → Result (ResourceRecord × ℕ) ℕ
behind_fields section bytes name start =
    let fields = name.1 in
    let kind = field16 bytes fields in
    let len = field16 bytes (fields + 8) in
    item start (rdata_at kind bytes start len) >>= λ written.
    Ok (
      record {
        section = section;
        name = name.0;
        kind = kind;
        class = field16 bytes (fields + 2);
        ttl = field32 bytes (fields + 4);
        rdata = part bytes start len;
        written = written;
      },
      start + len,
    )

abbrev behind_name : (section : ℕ) → List ℕ → List ℕ × ℕ → Result (ResourceRecord × ℕ) ℕ
behind_name section bytes name = item name.1 (behind bytes name.1 10) >>= behind_fields section bytes name

record-is : (section : ℕ) (bytes : List ℕ) (place : ℕ) → record_at section bytes place ≡ (item place (name_at bytes place) >>= behind_name section bytes)
unfolding record_at
record-is section bytes place = refl

-- the record at a place, by its parts
pub record-of : (section : ℕ) (bytes : List ℕ) (place : ℕ) (name : List ℕ) (fields kind class ttl len : ℕ) (rdata : List ℕ) (written : Option (List ℕ))
    → Some (name, fields) ≡ name_at bytes place → fields + 10 ≤ length bytes → kind ≡ field16 bytes fields → class ≡ field16 bytes (fields + 2) → ttl ≡ field32 bytes (fields + 4)
    → len ≡ field16 bytes (fields + 8) → Some written ≡ rdata_at kind bytes (fields + 10) len → rdata ≡ part bytes (fields + 10) len
    → Ok (record { section = section; name = name; kind = kind; class = class; ttl = ttl; rdata = rdata; written = written }, fields + 10 + len) ≡ record_at section bytes place
record-of section bytes place name fields kind class ttl len rdata written is_name long is_kind is_class is_ttl is_len is_written is_rdata =
    let test : nat_lt (length bytes) (fields + 10) ≡ false = grind (arith, nat_tests) in
    let its_written : Some written ≡ rdata_at (field16 bytes fields) bytes (fields + 10) (field16 bytes (fields + 8)) =
    is_written ∙ ap (λ (k : ℕ). rdata_at k bytes (fields + 10) len) is_kind ∙ ap (λ (n : ℕ). rdata_at (field16 bytes fields) bytes (fields + 10) n) is_len in
    rw (is_rdata, is_kind, is_class, is_ttl, is_len)
    (ap (λ (read : Option (Option (List ℕ))). item (fields + 10) read >>= λ written. Ok (
      record {
        section = section;
        name = name;
        kind = field16 bytes fields;
        class = field16 bytes (fields + 2);
        ttl = field32 bytes (fields + 4);
        rdata = part bytes (fields + 10) (field16 bytes (fields + 8));
        written = written;
      },
      fields + 10 + field16 bytes (fields + 8),
    )) its_written
    ∙ sym (ap (λ (short : Bool). item fields (if short then None else Some (fields + 10)) >>= behind_fields section bytes (name, fields)) test)
    ∙ ap (λ (read : Option (List ℕ × ℕ)). item place read >>= behind_name section bytes) is_name
    ∙ sym (record-is section bytes place))

tested : {A : Type 0} (short : Bool) (test : Bool) (x : A) (y : Option A) → Some x ≡ (if short then None else if test then y else None) → test ≡ true
tested true test x y found = absurd (cc)
tested false true x y found = refl
tested false false x y found = absurd (cc)

-- how long the RDATA of an address is
pub ipv4-size : (kind : ℕ) (bytes : List ℕ) (place len : ℕ) (written : Option (List ℕ)) → Some written ≡ rdata_at kind bytes place len → kind ≡ 1 → len ≡ 4
ipv4-size kind bytes place len written is_written is_kind =
    let here : Some written ≡ rdata_at 1 bytes place len = is_written ∙ ap (λ (k : ℕ). rdata_at k bytes place len) is_kind in
    let test : (len == 4) ≡ true = tested (nat_lt (length bytes) (place + len)) (len == 4) written (Some None) here in
    grind (arith, nat_tests)

pub ipv6-size : (kind : ℕ) (bytes : List ℕ) (place len : ℕ) (written : Option (List ℕ)) → Some written ≡ rdata_at kind bytes place len → kind ≡ 28 → len ≡ 16
ipv6-size kind bytes place len written is_written is_kind =
    let here : Some written ≡ rdata_at 28 bytes place len = is_written ∙ ap (λ (k : ℕ). rdata_at k bytes place len) is_kind in
    let test : (len == 16) ≡ true = tested (nat_lt (length bytes) (place + len)) (len == 16) written (Some None) here in
    grind (arith, nat_tests)

-- a record in front of others
abbrev put_first : ResourceRecord → List ResourceRecord × ℕ → Result (List ResourceRecord × ℕ) ℕ
put_first first others = Ok (first ∷ others.0, others.1)

-- one record, and those behind it
pub one-more : (section : ℕ) (sections : List ℕ) (bytes : List ℕ) (place end : ℕ) (first : ResourceRecord) → Ok (first, end) ≡ record_at section bytes place
    → records_from (section ∷ sections) bytes place ≡ (records_from sections bytes end >>= put_first first)
unfolding records_from
one-more section sections bytes place end first is_first =
    ap (λ (read : Result (ResourceRecord × ℕ) ℕ). read >>= λ first. records_from sections bytes first.1 >>= λ others. Ok (first.0 ∷ others.0, others.1)) (sym is_first)

pub one-fault : (section : ℕ) (sections : List ℕ) (bytes : List ℕ) (place fault : ℕ) → Err fault ≡ record_at section bytes place → records_from (section ∷ sections) bytes place ≡ Err fault
unfolding records_from
one-fault section sections bytes place fault is_fault =
    ap (λ (read : Result (ResourceRecord × ℕ) ℕ). read >>= λ first. records_from sections bytes first.1 >>= λ others. Ok (first.0 ∷ others.0, others.1)) (sym is_fault)

no_true : false ≡ true → ⊥
no_true h = cc

others-ok : (first : ResourceRecord) (read : Result (List ResourceRecord × ℕ) ℕ) → IsTrue (is_ok (read >>= put_first first)) → IsTrue (is_ok read)
others-ok first (Ok others) ok = refl
others-ok first (Err place) ok = absurd (no_true ok)

others-value : (first : ResourceRecord) (read : Result (List ResourceRecord × ℕ) ℕ) → IsTrue (is_ok read) → value_of [] (read >>= put_first first) ≡ first ∷ value_of [] read
others-value first (Ok others) ok = refl
others-value first (Err place) ok = absurd (no_true ok)

others-end : (first : ResourceRecord) (read : Result (List ResourceRecord × ℕ) ℕ) → end_of (read >>= put_first first) ≡ end_of read
others-end first (Ok others) = refl
others-end first (Err place) = refl

-- what is left of records that are in order, once the first has been read
pub rest-whole : (section : ℕ) (sections left bytes : List ℕ) (place end : ℕ) (first : ResourceRecord) → left ≡ section ∷ sections → Ok (first, end) ≡ record_at section bytes place
    → end ≤ length bytes → AreRecords bytes place left → AreRecords bytes end sections
rest-whole section sections left bytes place end first is_left is_first within whole =
    let ok : IsTrue (is_ok (records_from (section ∷ sections) bytes place)) = subst (λ (s : List ℕ). IsTrue (is_ok (records_from s bytes place))) is_left whole.whole in
    record {
      whole = others-ok first (records_from sections bytes end) (subst (λ (read : Result (List ResourceRecord × ℕ) ℕ). IsTrue (is_ok read)) (one-more section sections bytes place end first is_first) ok);
      within = within;
    }

pub rest-value : (section : ℕ) (sections left bytes : List ℕ) (place end : ℕ) (first : ResourceRecord) → left ≡ section ∷ sections → Ok (first, end) ≡ record_at section bytes place
    → end ≤ length bytes → AreRecords bytes place left → value_of [] (records_from left bytes place) ≡ first ∷ value_of [] (records_from sections bytes end)
rest-value section sections left bytes place end first is_left is_first within whole =
    ap (λ (s : List ℕ). value_of [] (records_from s bytes place)) is_left ∙ ap (value_of []) (one-more section sections bytes place end first is_first)
    ∙ others-value first (records_from sections bytes end) (rest-whole section sections left bytes place end first is_left is_first within whole).whole

pub rest-fault : (section : ℕ) (sections left bytes : List ℕ) (place fault : ℕ) → left ≡ section ∷ sections → Err fault ≡ record_at section bytes place → AreRecords bytes place left → ⊥
rest-fault section sections left bytes place fault is_left is_fault whole =
    no_true (subst (λ (read : Result (List ResourceRecord × ℕ) ℕ). IsTrue (is_ok read)) (one-fault section sections bytes place fault is_fault)
    (subst (λ (s : List ℕ). IsTrue (is_ok (records_from s bytes place))) is_left whole.whole))

pub none-left : (sections left bytes : List ℕ) (place : ℕ) → left ≡ [] → value_of [] (records_from left bytes place) ≡ []
unfolding records_from
none-left sections left bytes place is_left = ap (λ (s : List ℕ). value_of [] (records_from s bytes place)) is_left

-- where the records end
pub end-more : (section : ℕ) (sections left bytes : List ℕ) (place end : ℕ) (first : ResourceRecord) → left ≡ section ∷ sections → Ok (first, end) ≡ record_at section bytes place
    → end_of (records_from left bytes place) ≡ end_of (records_from sections bytes end)
end-more section sections left bytes place end first is_left is_first =
    ap (λ (s : List ℕ). end_of (records_from s bytes place)) is_left ∙ ap end_of (one-more section sections bytes place end first is_first)
    ∙ others-end first (records_from sections bytes end)

pub end-fault : (section : ℕ) (sections left bytes : List ℕ) (place fault : ℕ) → left ≡ section ∷ sections → Err fault ≡ record_at section bytes place
    → end_of (records_from left bytes place) ≡ Err fault
end-fault section sections left bytes place fault is_left is_fault =
    ap (λ (s : List ℕ). end_of (records_from s bytes place)) is_left ∙ ap end_of (one-fault section sections bytes place fault is_fault)

pub end-none : (left bytes : List ℕ) (place : ℕ) → left ≡ [] → end_of (records_from left bytes place) ≡ Ok place
unfolding records_from
end-none left bytes place is_left = ap (λ (s : List ℕ). end_of (records_from s bytes place)) is_left

-- the sections of the records of a message
abbrev pub sections_at : List ℕ → List ℕ
sections_at bytes = sections_of (field16 bytes 6) (field16 bytes 8) (field16 bytes 10)

-- what bytes are that are a message
pub record Parts (bytes : List ℕ) (message : DnsMessage) : Type 0 where
  pub first : ℕ
  pub end : ℕ
  pub header : 12 ≤ length bytes
  pub one : (field16 bytes 4 == 1) ≡ true
  pub question : question_at bytes 12 ≡ Ok (message.question, first)
  pub records : records_from (sections_at bytes) bytes first ≡ Ok (message.records, end)
  pub whole : length bytes ≤ end
  pub id : message.id ≡ field16 bytes 0
  pub flags : message.flags ≡ field16 bytes 2

-- the message of a question and records that have been read
abbrev ended : List ℕ → Question × ℕ → List ResourceRecord × ℕ → Result DnsMessage ℕ
ended bytes question records = if nat_lt records.1 (length bytes) then Err records.1 else Ok (record { id = field16 bytes 0; flags = field16 bytes 2; question = question.0; records = records.0 })

abbrev with_records : List ℕ → Question × ℕ → Result DnsMessage ℕ
with_records bytes question = records_from (sections_at bytes) bytes question.1 >>= ended bytes question

abbrev with_question : List ℕ → Result DnsMessage ℕ
with_question bytes = question_at bytes 12 >>= with_records bytes

abbrev by_tests : List ℕ → Result DnsMessage ℕ
by_tests bytes = if nat_lt (length bytes) 12 then Err 0 else if not (field16 bytes 4 == 1) then Err 4 else with_question bytes

message-is : (bytes : List ℕ) → message_of bytes ≡ by_tests bytes
unfolding message_of
message-is bytes = refl

no_not : (test : Bool) → not test ≡ false → test ≡ true
no_not true h = refl
no_not false h = absurd (cc)

pub parts : (bytes : List ℕ) (message : DnsMessage) → message_of bytes ≡ Ok message → Parts bytes message
parts bytes message found =
    let header = passed (nat_lt (length bytes) 12) 0 (if not (field16 bytes 4 == 1) then Err 4 else with_question bytes) message (sym (message-is bytes) ∙ found) in
    let one = passed (not (field16 bytes 4 == 1)) 4 (with_question bytes) message header.1 in
    let question = bind_ok (question_at bytes 12) (with_records bytes) message one.1 in
    let records = bind_ok (records_from (sections_at bytes) bytes question.0.1) (ended bytes question.0) message question.2 in
    let end = passed (nat_lt records.0.1 (length bytes)) records.0.1 (Ok (record { id = field16 bytes 0; flags = field16 bytes 2; question = question.0.0; records = records.0.0 })) message records.2 in
    let same : DnsMessage = record { id = field16 bytes 0; flags = field16 bytes 2; question = question.0.0; records = records.0.0 } in
    let is_message : same ≡ message = ap the_message end.1 in
    subst (Parts bytes) is_message (record {
      first = question.0.1;
      end = records.0.1;
      header = grind (arith, nat_tests);
      one = no_not (field16 bytes 4 == 1) one.0;
      question = question.1;
      records = records.1;
      whole = grind (arith, nat_tests);
      id = refl;
      flags = refl;
    })

is_the_message : (read : Result DnsMessage ℕ) → IsTrue (is_ok read) → read ≡ Ok (the_message read)
is_the_message (Ok message) ok = refl
is_the_message (Err place) ok = absurd (no_true ok)

pub whole-parts : (bytes : List ℕ) (first : ℕ) → IsMessage bytes first → Parts bytes (the_message (message_of bytes))
whole-parts bytes first whole = parts bytes (the_message (message_of bytes)) (is_the_message (message_of bytes) whole.whole)

-- the records of a message from its first on
pub first-is : (bytes : List ℕ) (first : ℕ) (whole : IsMessage bytes first) → first ≡ (whole-parts bytes first whole).first
first-is bytes first whole = whole.first_is ∙ ap place_of (whole-parts bytes first whole).question

pub its-records : (bytes : List ℕ) (first : ℕ) (sections : List ℕ) (whole : IsMessage bytes first) → sections ≡ sections_at bytes
    → records_from sections bytes first ≡ Ok ((the_message (message_of bytes)).records, (whole-parts bytes first whole).end)
its-records bytes first sections whole are =
    ap (λ (s : List ℕ). records_from s bytes first) are ∙ ap (λ (place : ℕ). records_from (sections_at bytes) bytes place) (first-is bytes first whole)
    ∙ (whole-parts bytes first whole).records

ok_of : (sections bytes : List ℕ) (first : ℕ) (found : List ResourceRecord × ℕ) → records_from sections bytes first ≡ Ok found → IsTrue (is_ok (records_from sections bytes first))
ok_of sections bytes first found is_found = ap is_ok is_found

pub records-whole : (bytes : List ℕ) (first : ℕ) (sections : List ℕ) → IsMessage bytes first → sections ≡ sections_at bytes → AreRecords bytes first sections
records-whole bytes first sections whole are = record { whole = ok_of sections bytes first _ (its-records bytes first sections whole are); within = whole.within }

-- the question of a message
pub question-fault : (bytes : List ℕ) (first fault : ℕ) → IsMessage bytes first → Err fault ≡ question_at bytes 12 → ⊥
question-fault bytes first fault whole is_fault = let bad = is_fault ∙ (whole-parts bytes first whole).question in cc

pub question-value : (bytes : List ℕ) (first end : ℕ) (question : Question) → IsMessage bytes first → Ok (question, end) ≡ question_at bytes 12 → question ≡ (the_message (message_of bytes)).question
question-value bytes first end question whole is_question = ap (value_of question) (is_question ∙ (whole-parts bytes first whole).question)

-- what bytes are by what was read of them
to_question : (bytes : List ℕ) → 12 ≤ length bytes → field16 bytes 4 ≡ 1 → message_of bytes ≡ with_question bytes
to_question bytes long one =
    let test : nat_lt (length bytes) 12 ≡ false = grind (arith, nat_tests) in
    let count : not (field16 bytes 4 == 1) ≡ false = ap (λ (n : ℕ). not (n == 1)) one in
    message-is bytes
    ∙ ap (λ (short : Bool). if short then Err 0 else if not (field16 bytes 4 == 1) then Err 4 else with_question bytes) test
    ∙ ap (λ (other : Bool). if other then Err 4 else with_question bytes) count

to_records : (bytes : List ℕ) (question : Question) (first : ℕ) → 12 ≤ length bytes → field16 bytes 4 ≡ 1 → Ok (question, first) ≡ question_at bytes 12 → message_of bytes ≡ with_records bytes (question, first)
to_records bytes question first long one is_question =
    to_question bytes long one ∙ ap (λ (read : Result (Question × ℕ) ℕ). read >>= with_records bytes) (sym is_question)

abbrev ends_at : ℕ → Result ℕ ℕ
ends_at place = Ok place

abbrev fails_at : ℕ → Result ℕ ℕ
fails_at place = Err place

same_end : (place end : ℕ) → ends_at place ≡ ends_at end → place ≡ end
same_end place end same = cc

by_end : (read : Result (List ResourceRecord × ℕ) ℕ) (end : ℕ) → end_of read ≡ Ok end → (found : List ResourceRecord) × (read ≡ Ok (found, end))
by_end (Ok found) end is_end = (found.0, ap (λ (place : ℕ). Ok (found.0, place)) (same_end found.1 end is_end))
by_end (Err place) end is_end = absurd (cc)

pub header-fault : (bytes : List ℕ) → length bytes < 12 → message_of bytes ≡ Err 0
header-fault bytes short =
    let test : nat_lt (length bytes) 12 ≡ true = grind (arith, nat_tests) in
    message-is bytes ∙ ap (λ (short : Bool). if short then Err 0 else if not (field16 bytes 4 == 1) then Err 4 else with_question bytes) test

pub count-fault : (bytes : List ℕ) → 12 ≤ length bytes → (field16 bytes 4 ≡ 1 → ⊥) → message_of bytes ≡ Err 4
count-fault bytes long other =
    let test : nat_lt (length bytes) 12 ≡ false = grind (arith, nat_tests) in
    let count : not (field16 bytes 4 == 1) ≡ true = grind (arith, nat_tests) in
    message-is bytes
    ∙ ap (λ (short : Bool). if short then Err 0 else if not (field16 bytes 4 == 1) then Err 4 else with_question bytes) test
    ∙ ap (λ (other : Bool). if other then Err 4 else with_question bytes) count

pub first-fault : (bytes : List ℕ) (fault : ℕ) → 12 ≤ length bytes → field16 bytes 4 ≡ 1 → Err fault ≡ question_at bytes 12 → message_of bytes ≡ Err fault
first-fault bytes fault long one is_fault = to_question bytes long one ∙ ap (λ (read : Result (Question × ℕ) ℕ). read >>= with_records bytes) (sym is_fault)

same_fault : (place fault : ℕ) → fails_at place ≡ fails_at fault → place ≡ fault
same_fault place fault same = cc

fault_is : (read : Result (List ResourceRecord × ℕ) ℕ) (fault : ℕ) → end_of read ≡ Err fault → read ≡ Err fault
fault_is (Ok found) fault is_fault = absurd (cc)
fault_is (Err place) fault is_fault = ap (λ (place : ℕ). Err place) (same_fault place fault is_fault)

pub records-fault : (bytes : List ℕ) (question : Question) (first fault : ℕ) → 12 ≤ length bytes → field16 bytes 4 ≡ 1 → Ok (question, first) ≡ question_at bytes 12
    → end_of (records_from (sections_at bytes) bytes first) ≡ Err fault → message_of bytes ≡ Err fault
records-fault bytes question first fault long one is_question is_fault =
    to_records bytes question first long one is_question
    ∙ ap (λ (read : Result (List ResourceRecord × ℕ) ℕ). read >>= ended bytes (question, first)) (fault_is (records_from (sections_at bytes) bytes first) fault is_fault)

ended-is : (bytes : List ℕ) (question : Question) (first end : ℕ) → 12 ≤ length bytes → field16 bytes 4 ≡ 1 → Ok (question, first) ≡ question_at bytes 12
    → end_of (records_from (sections_at bytes) bytes first) ≡ Ok end → (found : List ResourceRecord) × (message_of bytes ≡ ended bytes (question, first) (found, end))
ended-is bytes question first end long one is_question is_end =
    let read = by_end (records_from (sections_at bytes) bytes first) end is_end in (
      read.0,
      to_records bytes question first long one is_question
          ∙ ap (λ (read : Result (List ResourceRecord × ℕ) ℕ). read >>= ended bytes (question, first)) read.1,
    )

pub behind-fault : (bytes : List ℕ) (question : Question) (first end : ℕ) → 12 ≤ length bytes → field16 bytes 4 ≡ 1 → Ok (question, first) ≡ question_at bytes 12
    → end_of (records_from (sections_at bytes) bytes first) ≡ Ok end → end < length bytes → message_of bytes ≡ Err end
behind-fault bytes question first end long one is_question is_end more =
    let read = ended-is bytes question first end long one is_question is_end in
    let test : nat_lt end (length bytes) ≡ true = grind (arith, nat_tests) in
    let message : DnsMessage = record { id = field16 bytes 0; flags = field16 bytes 2; question = question; records = read.0 } in
    read.1 ∙ ap (λ (behind : Bool). if behind then Err end else Ok message) test

pub message-read : (bytes : List ℕ) (question : Question) (first end : ℕ) → 12 ≤ length bytes → field16 bytes 4 ≡ 1 → Ok (question, first) ≡ question_at bytes 12
    → end_of (records_from (sections_at bytes) bytes first) ≡ Ok end → length bytes ≤ end → (message : DnsMessage) × (message_of bytes ≡ Ok message)
message-read bytes question first end long one is_question is_end no_more =
    let read = ended-is bytes question first end long one is_question is_end in
    let test : nat_lt end (length bytes) ≡ false = grind (arith, nat_tests) in
    let message : DnsMessage = record { id = field16 bytes 0; flags = field16 bytes 2; question = question; records = read.0 } in
    (message, read.1 ∙ ap (λ (behind : Bool). if behind then Err end else Ok message) test)

pub is-message : (bytes : List ℕ) (question : Question) (first end : ℕ) → 12 ≤ length bytes → field16 bytes 4 ≡ 1 → Ok (question, first) ≡ question_at bytes 12
    → end_of (records_from (sections_at bytes) bytes first) ≡ Ok end → length bytes ≤ end → first ≤ length bytes → IsMessage bytes first
is-message bytes question first end long one is_question is_end no_more within = record {
  whole = ap is_ok (message-read bytes question first end long one is_question is_end no_more).1;
  first_is = ap place_of is_question;
  within = within;
}

pub no-refusal : (bytes : List ℕ) (question : Question) (first end : ℕ) → 12 ≤ length bytes → field16 bytes 4 ≡ 1 → Ok (question, first) ≡ question_at bytes 12
    → end_of (records_from (sections_at bytes) bytes first) ≡ Ok end → length bytes ≤ end → None ≡ result_err (message_of bytes)
no-refusal bytes question first end long one is_question is_end no_more =
    sym (ap result_err (message-read bytes question first end long one is_question is_end no_more).1)

-- where the records of a message end
pub ends-so : (sections bytes : List ℕ) (first : ℕ) (end : Result ℕ ℕ) → sections ≡ sections_at bytes → end ≡ end_of (records_from sections bytes first)
    → end_of (records_from (sections_at bytes) bytes first) ≡ end
ends-so sections bytes first end are is_end = ap (λ (s : List ℕ). end_of (records_from s bytes first)) (sym are) ∙ sym is_end

-- one element after another of a list
pub drop-next : {A : Type 0} (k : ℕ) (xs : List A) (x : A) (ys : List A) → drop k xs ≡ x ∷ ys → drop (k + 1) xs ≡ ys
drop-next k xs x ys here = sym (drop-drop 1 k xs) ∙ ap (drop 1) here

pub get-next : {A : Type 0} (k : ℕ) (xs : List A) (x : A) (ys : List A) → drop k xs ≡ x ∷ ys → slice_get xs k ≡ Some x
get-next k [] x ys here = absurd (let none : [] ≡ x ∷ ys = sym (drop-nil k) ∙ here in cc)
get-next zero (y ∷ xs) x ys here = let same : y ≡ x = cc in ap (λ z. Some z) same
get-next (suc k) (y ∷ xs) x ys here = get-next k xs x ys here

pub get-none : {A : Type 0} (k n : ℕ) (xs : List A) → drop k xs ≡ [] → k ≤ n → slice_get xs n ≡ None
get-none k n [] here le = refl
get-none zero n (y ∷ xs) here le = absurd (cc)
get-none (suc k) zero (y ∷ xs) here le = absurd (omega arith)
get-none (suc k) (suc n) (y ∷ xs) here le = get-none k n xs here (omega arith)

pub next-is : {A X : Type 0} (seen : X → A) (k : ℕ) (xs new : List A) (found : Option X) → drop k xs ≡ option_to_list (option_map seen found) ++ new → (IsNone found → drop k xs ≡ [])
    → option_map seen found ≡ slice_get xs k
next-is seen k xs new None next none = sym (get-none k k xs (none refl) (omega arith))
next-is seen k xs new (Some x) next none = sym (get-next k xs (seen x) new next)
