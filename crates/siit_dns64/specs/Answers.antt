-- The answer of DNS64 to a query for AAAA records (RFC 6147 section 5), over messages.
use Rattle.std.specs.Prelude.{ℕ, ◌+◌, ◌*◌, ◌/◌, ◌%◌, ◌^◌, List, [], ◌∷◌, ◌++◌, length, map, flat_map, filter, find, min, unwrap_or, Bool, not, ◌==◌, ◌&&◌, ◌||◌, if◌then◌else◌}
use Rattle.std.specs.List.{list_any}
use Rattle.std.specs.Option.{option_map_or}
use Rattle.siit_model.specs.Bytes.{field32, field128, bytes16, bytes32, bytes128}
use Rattle.siit_addr.specs.Addresses.{agree, is_non_global_number}
use Rattle.siit_addr.specs.declared.addr.Prefix6.{Prefix6}
use Rattle.siit_rfc6052.specs.Embedding.{embedded, is_well_known}
use Rattle.siit_dns.specs.Messages.{DnsMessage, Question, ResourceRecord}

-- a message that answers, and how many records of it are made
pub record Answer : Type 0 where
  pub bytes : List ℕ
  pub made : ℕ

-- bit n of a number, the lowest being bit 0
abbrev pub bit : (n : ℕ) → ℕ → ℕ
bit n x = x / 2 ^ n % 2

-- the response code (RFC 1035 section 4.1.1)
abbrev pub code_of : DnsMessage → ℕ
code_of message = message.flags % 16

-- a record of the answer section of this type and of class 1, the Internet
abbrev pub is_answer_of : (kind : ℕ) → ResourceRecord → Bool
is_answer_of kind r = (r.section == 0) && (r.kind == kind) && (r.class == 1)

-- an address in ::ffff:0:0/96, where IPv4 addresses stand (RFC 4291 section 2.5.5.2)
abbrev pub is_ipv4_mapped : ℕ → Bool
is_ipv4_mapped address = agree 128 96 address (0xffff * 2 ^ 32)

-- an answer to the query itself: an AAAA record with an address that isn't one of these (RFC 6147 section 5.1.4)
abbrev pub is_own_answer : ResourceRecord → Bool
is_own_answer r = is_answer_of 28 r && not (is_ipv4_mapped (field128 r.rdata 0))

-- The prefixes under which an address is embedded. The well-known prefix takes none that is not global (RFC 6052
-- section 3.1).
abbrev pub prefixes_for : List Prefix6 → (address : ℕ) → List Prefix6
prefixes_for prefixes address = filter (λ prefix. not (is_well_known prefix && is_non_global_number address)) prefixes

-- a record as it is written, its name and the names in its RDATA without pointers
abbrev pub record_bytes : (name : List ℕ) → (kind class ttl : ℕ) → (rdata : List ℕ) → List ℕ
record_bytes name kind class ttl rdata = name ++ bytes16 kind ++ bytes16 class ++ bytes32 ttl ++ bytes16 (length rdata) ++ rdata

abbrev pub copied : ResourceRecord → List ℕ
copied r = record_bytes r.name r.kind r.class r.ttl (unwrap_or r.written r.rdata)

-- an SOA record (6) in the authority section
abbrev pub is_authority : ResourceRecord → Bool
is_authority r = (r.section == 1) && (r.kind == 6)

-- The greatest TTL of a made record (RFC 6147 section 5.1.7): that of the first SOA record in the authority section,
-- or 600 seconds where there is none.
abbrev pub greatest_ttl : DnsMessage → ℕ
greatest_ttl aaaa = option_map_or (λ r. r.ttl) (find is_authority aaaa.records) 600

-- the AAAA record of an A record under a prefix
abbrev pub made_record : (greatest : ℕ) → ResourceRecord → Prefix6 → List ℕ
made_record greatest r prefix =
    record_bytes r.name 28 1 (min r.ttl greatest) (bytes128 (embedded prefix.len prefix.addr.0 (field32 r.rdata 0)))

-- what is made from a record: one AAAA record for each prefix from an A record of the answer section, nothing from
-- another
abbrev pub made_from : (greatest : ℕ) → List Prefix6 → ResourceRecord → List (List ℕ)
made_from greatest prefixes r =
    if is_answer_of 1 r then map (made_record greatest r) (prefixes_for prefixes (field32 r.rdata 0)) else []

-- what stands for a record in the answer: what is made from it, or itself
abbrev pub stand_in : (greatest : ℕ) → List Prefix6 → ResourceRecord → List (List ℕ)
stand_in greatest prefixes r = if is_answer_of 1 r then made_from greatest prefixes r else copied r ∷ []

-- the records of a section of the answer
abbrev pub section_of : (section greatest : ℕ) → List Prefix6 → List ResourceRecord → List (List ℕ)
section_of section greatest prefixes records = flat_map (stand_in greatest prefixes) (filter (λ r. r.section == section) records)

-- QR 1, RD and CD as in the query, RA as in the A response, all other flags and the code 0
abbrev pub flags_of : (query a : ℕ) → ℕ
flags_of query a = 2 ^ 15 + bit 8 query * 2 ^ 8 + bit 7 a * 2 ^ 7 + bit 4 query * 2 ^ 4

-- a header with one question and these counts of records (RFC 1035 section 4.1.1)
abbrev pub header : (id flags answers authorities additionals : ℕ) → List ℕ
header id flags answers authorities additionals =
    bytes16 id ++ bytes16 flags ++ bytes16 1 ++ bytes16 answers ++ bytes16 authorities ++ bytes16 additionals

abbrev pub question_bytes : Question → List ℕ
question_bytes q = q.name ++ bytes16 q.kind ++ bytes16 q.class

-- lines one after another
abbrev pub joined : List (List ℕ) → List ℕ
joined lines = flat_map (λ line. line) lines

-- the message that is made: a header, the query's question, and what stands for each record of the A response
abbrev pub made_message : (query : DnsMessage) → (greatest : ℕ) → (a : DnsMessage) → List Prefix6 → List ℕ
made_message query greatest a prefixes =
    let count = λ (section : ℕ). length (section_of section greatest prefixes a.records) in
    header query.id (flags_of query.flags a.flags) (count 0) (count 1) (count 2) ++ question_bytes query.question
    ++ joined (flat_map (stand_in greatest prefixes) a.records)

-- how many records are made
abbrev pub count_made : (greatest : ℕ) → List Prefix6 → List ResourceRecord → ℕ
count_made greatest prefixes records = length (flat_map (made_from greatest prefixes) records)

-- whether the AAAA response answers, whatever the A response is (RFC 6147 sections 5.1.1 and 5.1.2)
abbrev pub answers_itself : DnsMessage → Bool
answers_itself aaaa = (code_of aaaa == 3) || (code_of aaaa == 0) && list_any is_own_answer aaaa.records
