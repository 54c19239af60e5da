-- Records that are written one after another, and what they come to.
use Rattle.std.specs.Prelude.{◌≡◌, ℕ, ◌+◌, ◌≤◌, List, [], ◌∷◌, ◌++◌, length, flat_map, ◌==◌, ◌&&◌, not, if◌then◌else◌}
use Rattle.siit_addr.specs.declared.addr.Prefix6.{Prefix6}
use Rattle.siit_addr.specs.Addresses.{is_non_global_number}
use Rattle.siit_model.specs.Bytes.{field32}
use Rattle.siit_rfc6052.specs.Embedding.{is_well_known}
use Rattle.siit_dns.specs.Messages.{DnsMessage, ResourceRecord}
use Rattle.siit_dns64.specs.Answers.{Answer, header, flags_of, question_bytes, joined, made_record, stand_in, section_of, count_made}
use Rattle.siit_dns64.specs.declared.body.Body.{Body}

-- no count is above the number of bytes
pub record IsCounted (body : Body) : Type 0 where
  pub answers : body.answers ≤ length body.bytes.items
  pub authorities : body.authorities ≤ length body.bytes.items
  pub additionals : body.additionals ≤ length body.bytes.items
  pub made : body.made ≤ length body.bytes.items

abbrev pub count_in : (section here n : ℕ) → ℕ
count_in section here n = if section == here then n else 0

-- new is old with these lines, of a section, at its end, and so many of them made from A records
pub record Grows (old new : Body) (section : ℕ) (lines : List (List ℕ)) (from_ipv4 : ℕ) : Type 0 where
  pub bytes : new.bytes.items ≡ old.bytes.items ++ joined lines
  pub answers : new.answers ≡ old.answers + count_in section 0 (length lines)
  pub authorities : new.authorities ≡ old.authorities + count_in section 1 (length lines)
  pub additionals : new.additionals ≡ old.additionals + count_in section 2 (length lines)
  pub made : new.made ≡ old.made + from_ipv4

-- new is old with these lines, made for the answer section, at its end
abbrev pub GrowsBy : (old new : Body) → List (List ℕ) → Type 0
GrowsBy old new lines = Grows old new 0 lines (length lines)

-- what is made from an A record under one prefix
abbrev pub made_under : (greatest : ℕ) → ResourceRecord → Prefix6 → List (List ℕ)
made_under greatest r prefix =
    if not (is_well_known prefix && is_non_global_number (field32 r.rdata 0)) then made_record greatest r prefix ∷ [] else []

-- with what stands for the records that are left it comes to what stands for all
pub record ComesTo (body : Body) (greatest : ℕ) (prefixes : List Prefix6) (left all : List ResourceRecord) : Type 0 where
  pub bytes : body.bytes.items ++ joined (flat_map (stand_in greatest prefixes) left) ≡ joined (flat_map (stand_in greatest prefixes) all)
  pub answers : body.answers + length (section_of 0 greatest prefixes left) ≡ length (section_of 0 greatest prefixes all)
  pub authorities : body.authorities + length (section_of 1 greatest prefixes left) ≡ length (section_of 1 greatest prefixes all)
  pub additionals : body.additionals + length (section_of 2 greatest prefixes left) ≡ length (section_of 2 greatest prefixes all)
  pub made : body.made + count_made greatest prefixes left ≡ count_made greatest prefixes all

-- the answer that has this body
abbrev pub answer_with : (query a : DnsMessage) → Body → Answer
answer_with query a body = record {
  bytes =
      header query.id (flags_of query.flags a.flags) body.answers body.authorities body.additionals ++ question_bytes query.question
      ++ body.bytes.items;
  made = body.made;
}
