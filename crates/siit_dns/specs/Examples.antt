-- Messages about a.example, as worked by hand.
use Rattle.std.specs.Prelude.{◌≡◌, ℕ, zero, suc, ◌+◌, List, [], ◌∷◌, ◌++◌, None, Some, take, drop, replicate, Result, Ok, Err}
use Rattle.siit_dns.specs.Names.{name_at}
use Rattle.siit_dns.specs.Rdata.{rdata_at}
use Rattle.siit_dns.specs.Messages.{DnsMessage, Question, ResourceRecord, message_of}

-- a.example, written out
abbrev pub a_example : List ℕ
a_example = 0x01 ∷ 0x61 ∷ 0x07 ∷ 0x65 ∷ 0x78 ∷ 0x61 ∷ 0x6d ∷ 0x70 ∷ 0x6c ∷ 0x65 ∷ 0x00 ∷ []

-- a header with one question, so many answers and no other records
abbrev pub header : (flags answers : ℕ) → List ℕ
header flags answers = 0x12 ∷ 0x34 ∷ flags ∷ 0x80 ∷ 0x00 ∷ 0x01 ∷ 0x00 ∷ answers ∷ 0x00 ∷ 0x00 ∷ 0x00 ∷ 0x00 ∷ []

-- a query for the addresses of a.example, whose name begins at place 12
abbrev pub query : List ℕ
query = header 0x01 0 ++ a_example ++ 0x00 ∷ 0x1c ∷ 0x00 ∷ 0x01 ∷ []

-- a response with an A record of TTL 3,600 whose name is a pointer to the question's
abbrev pub response : List ℕ
response =
    header 0x81 1 ++ a_example ++ 0x00 ∷ 0x01 ∷ 0x00 ∷ 0x01 ∷ []
    ++ 0xc0 ∷ 0x0c ∷ 0x00 ∷ 0x01 ∷ 0x00 ∷ 0x01 ∷ 0x00 ∷ 0x00 ∷ 0x0e ∷ 0x10 ∷ 0x00 ∷ 0x04 ∷ 192 ∷ 0 ∷ 2 ∷ 33 ∷ []

abbrev asks : (kind : ℕ) → Question
asks kind = record { name = a_example; kind = kind; class = 1 }

abbrev address_record : ResourceRecord
address_record = record {
  section = 0;
  name = a_example;
  kind = 1;
  class = 1;
  ttl = 3600;
  rdata = 192 ∷ 0 ∷ 2 ∷ 33 ∷ [];
  written = None;
}

pub record MessageExamples : Type 0 where
  pub a_query : message_of query ≡ Ok (record { id = 0x1234; flags = 0x0180; question = asks 28; records = [] })
  pub a_response : message_of response ≡ Ok (record { id = 0x1234; flags = 0x8180; question = asks 1; records = address_record ∷ [] })

-- what the bytes are when they are cut, at each of so many lengths from one on
abbrev cuts : (lengths length : ℕ) → List ℕ → List (Result DnsMessage ℕ)
cuts zero length bytes = []
cuts (suc lengths) length bytes = message_of (take length bytes) ∷ cuts lengths (length + 1) bytes

-- the response cut after each byte: the header, the question's name and fields, the record's name, fields and RDATA
abbrev pub CutExamples : Type 0
CutExamples =
    cuts 43 0 response
    ≡ replicate 12 (Err 0) ++ replicate 11 (Err 12) ++ replicate 4 (Err 23) ++ replicate 2 (Err 27)
    ++ replicate 10 (Err 29) ++ replicate 4 (Err 39)

-- a response to a query for a.example with one record of so many bytes behind the question
abbrev with_record : List ℕ → List ℕ
with_record bytes = header 0x81 1 ++ a_example ++ 0x00 ∷ 0x01 ∷ 0x00 ∷ 0x01 ∷ [] ++ bytes

-- the fields of a record of this type, whose RDATA has so many bytes
abbrev fields : (kind len : ℕ) → List ℕ
fields kind len = 0x00 ∷ kind ∷ 0x00 ∷ 0x01 ∷ 0x00 ∷ 0x00 ∷ 0x0e ∷ 0x10 ∷ 0x00 ∷ len ∷ []

pub record FaultExamples : Type 0 where
  -- a pointer to its own place, at 27, and to a place behind it
  pub own_place : message_of (with_record (0xc0 ∷ 27 ∷ fields 16 0)) ≡ Err 27
  pub forward : message_of (with_record (0xc0 ∷ 39 ∷ fields 16 1 ++ 0 ∷ [])) ≡ Err 27
  -- a label, and then a pointer to the name's own beginning
  pub own_name : message_of (with_record (1 ∷ 0x61 ∷ 0xc0 ∷ 27 ∷ fields 16 0)) ≡ Err 27
  -- an octet of length with 01 in its top bits
  pub reserved : message_of (with_record (0x40 ∷ fields 16 0)) ≡ Err 27
  pub no_address : message_of (with_record (0xc0 ∷ 12 ∷ fields 1 3 ++ 192 ∷ 0 ∷ 2 ∷ [])) ≡ Err 39
  -- a CNAME with a byte behind its name, and a mail exchange without a name
  pub not_filled : message_of (with_record (0xc0 ∷ 12 ∷ fields 5 3 ++ 0xc0 ∷ 14 ∷ 0 ∷ [])) ≡ Err 39
  pub no_name : message_of (with_record (0xc0 ∷ 12 ∷ fields 15 2 ++ 0 ∷ 10 ∷ [])) ≡ Err 39
  pub behind_the_last : message_of (response ++ 0 ∷ []) ≡ Err 43
  pub no_question : message_of (0x12 ∷ 0x34 ∷ replicate 10 0) ≡ Err 4

-- a label of 63 bytes, and a name of three of these and one of so many bytes
abbrev label : ℕ → List ℕ
label n = n ∷ replicate n 0x61

abbrev long_name : ℕ → List ℕ
long_name n = label 63 ++ label 63 ++ label 63 ++ label n ++ 0 ∷ []

pub record NameExamples : Type 0 where
  -- "b" before a pointer to "example", and a pointer to it
  pub chain : name_at (a_example ++ 1 ∷ 0x62 ∷ 0xc0 ∷ 2 ∷ 0xc0 ∷ 11 ∷ []) 15 ≡ Some (1 ∷ 0x62 ∷ drop 2 a_example, 17)
  pub of_255_bytes : name_at (long_name 61) 0 ≡ Some (long_name 61, 255)
  pub of_256_bytes : name_at (long_name 62) 0 ≡ None
  -- a pointer may name a place in the header
  pub into_the_header : name_at (replicate 12 0 ++ 0xc0 ∷ 11 ∷ []) 12 ≡ Some (0 ∷ [], 14)

-- RDATA behind a name at place 0, written out
pub record RdataExamples : Type 0 where
  -- a mail exchange of preference 10 at a.example
  pub mail : rdata_at 15 (a_example ++ 0 ∷ 10 ∷ 0xc0 ∷ 0 ∷ []) 11 4 ≡ Some (Some (0 ∷ 10 ∷ a_example))
  -- a start of authority: two names and 20 bytes
  pub authority : rdata_at 6 (a_example ++ 0xc0 ∷ 0 ∷ 0xc0 ∷ 2 ∷ replicate 20 7) 11 24
      ≡ Some (Some (a_example ++ drop 2 a_example ++ replicate 20 7))
  -- RDATA of another type is whatever it is
  pub text : rdata_at 16 (a_example ++ 0xc0 ∷ 0xff ∷ []) 11 2 ≡ Some None
