-- DNS messages (RFC 1035 section 4.1): a header, one question, and the resource records of three sections, to the end
-- of the bytes. Items are read in their order, and the first that is at fault is told by its place.
use Rattle.std.specs.Prelude.{ℕ, ◌+◌, List, [], ◌∷◌, ◌++◌, length, replicate, ◌==◌, not, nat_lt, if◌then◌else◌, Option, Some, None, Result, Ok, Err}
use Rattle.siit_model.specs.Bytes.{part, field16, field32}
use Rattle.siit_dns.specs.Names.{name_at}
use Rattle.siit_dns.specs.Rdata.{rdata_at}

-- a question (RFC 1035 section 4.1.2), its name written out without pointers
pub record Question : Type 0 where
  pub name : List ℕ
  pub kind : ℕ
  pub class : ℕ

-- A resource record (RFC 1035 section 4.1.3), its name written out. Its section is 0 for answer, 1 for authority and
-- 2 for additional. `written` is the RDATA with its names written out, where its type holds names.
pub record ResourceRecord : Type 0 where
  pub section : ℕ
  pub name : List ℕ
  pub kind : ℕ
  pub class : ℕ
  pub ttl : ℕ
  pub rdata : List ℕ
  pub written : Option (List ℕ)

pub record DnsMessage : Type 0 where
  pub id : ℕ
  pub flags : ℕ
  pub question : Question
  pub records : List ResourceRecord

infixl 10 ◌>>=◌
abbrev pub ◌>>=◌ : {A B : Type 0} → Result A ℕ → (A → Result B ℕ) → Result B ℕ
(Ok x) >>= f = f x
(Err place) >>= f = Err place

-- an item that begins at a place: its value, or its place where it is at fault
abbrev pub item : {A : Type 0} → ℕ → Option A → Result A ℕ
item place None = Err place
item place (Some value) = Ok value

-- the place behind so many bytes, where there are as many
abbrev pub behind : List ℕ → (place n : ℕ) → Option ℕ
behind bytes place n = if nat_lt (length bytes) (place + n) then None else Some (place + n)

-- The question at a place, and the place behind it: a name, and 4 bytes of fields.
unfoldable pub question_at : List ℕ → ℕ → Result (Question × ℕ) ℕ
question_at bytes place = do
  name ← item place (name_at bytes place)
  let fields = name.1
  end ← item fields (behind bytes fields 4)
  Ok (record { name = name.0; kind = field16 bytes fields; class = field16 bytes (fields + 2) }, end)

-- The record of a section at a place, and the place behind it: a name, 10 bytes of fields, the last of which is the
-- length of the RDATA, and the RDATA.
unfoldable pub record_at : (section : ℕ) → List ℕ → ℕ → Result (ResourceRecord × ℕ) ℕ
record_at section bytes place = do
  name ← item place (name_at bytes place)
  let fields = name.1
  let kind = field16 bytes fields
  let len = field16 bytes (fields + 8)
  start ← item fields (behind bytes fields 10)
  written ← item start (rdata_at kind bytes start len)
  Ok (
    record {
      section = section;
      name = name.0;
      kind = kind;
      class = field16 bytes (fields + 2);
      ttl = field32 bytes (fields + 4);
      rdata = part bytes start len;
      written = written;
    },
    start + len,
  )

-- the records from a place on, one for each of these sections, and the place behind them
unfoldable pub records_from : (sections : List ℕ) → List ℕ → ℕ → Result (List ResourceRecord × ℕ) ℕ
records_from [] bytes place = Ok ([], place)
records_from (section ∷ sections) bytes place = do
  first ← record_at section bytes place
  others ← records_from sections bytes first.1
  Ok (first.0 ∷ others.0, others.1)

-- the section of each record, by the counts of a header
abbrev pub sections_of : (answers authorities additionals : ℕ) → List ℕ
sections_of answers authorities additionals = replicate answers 0 ++ replicate authorities 1 ++ replicate additionals 2

-- The message that the bytes are, or the place of the first item at fault: a header of less than 12 bytes, a question
-- count other than 1, an item, or bytes behind the last record.
unfoldable pub message_of : List ℕ → Result DnsMessage ℕ
message_of bytes =
    if nat_lt (length bytes) 12 then Err 0
    else if not (field16 bytes 4 == 1) then Err 4
    else do
      question ← question_at bytes 12
      records ← records_from (sections_of (field16 bytes 6) (field16 bytes 8) (field16 bytes 10)) bytes question.1
      let message : DnsMessage = record { id = field16 bytes 0; flags = field16 bytes 2; question = question.0; records = records.0 }
      if nat_lt records.1 (length bytes) then Err records.1 else Ok message
