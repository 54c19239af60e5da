-- Answers about a.example, as worked by hand.
use Rattle.std.specs.Prelude.{◌≡◌, ℕ, ◌*◌, ◌^◌, List, [], ◌∷◌, ◌++◌, Some, None, take, Result, Ok, Err}
use Rattle.std.proofs.Common.{lit≤}
use Rattle.siit_addr.specs.declared.addr.Prefix6.{Prefix6}
use Rattle.siit_dns.specs.declared.fault.DnsFault.TheVariants.{Bad, NotQuery, NotAnswer}
use Rattle.siit_rfc6052.specs.Embedding.{well_known}
use Rattle.siit_dns64.specs.declared.fault.Dns64Fault.{Dns64Fault}
use Rattle.siit_dns64.specs.Answers.{Answer}
use Rattle.siit_dns64.specs.Dns64.{dns64}

-- 2001:db8:122:344::/96 and 64:ff9b::/96
abbrev prefix : Prefix6
prefix = record { addr = record { 0 = 0x20010db801220344 * 2 ^ 64 }; len = 96; in_range = lit≤ tt }

abbrev well_known_prefix : Prefix6
well_known_prefix = record { addr = record { 0 = well_known }; len = 96; in_range = lit≤ tt }

-- a.example, written out
abbrev a_example : List ℕ
a_example = 0x01 ∷ 0x61 ∷ 0x07 ∷ 0x65 ∷ 0x78 ∷ 0x61 ∷ 0x6d ∷ 0x70 ∷ 0x6c ∷ 0x65 ∷ 0x00 ∷ []

-- a question about a.example of this type, behind a header with these flags, so many answers and so many authority
-- records
abbrev message : (id flags answers authorities kind : ℕ) → List ℕ
message id flags answers authorities kind =
    0x12 ∷ id ∷ flags ∷ 0x80 ∷ 0x00 ∷ 0x01 ∷ 0x00 ∷ answers ∷ 0x00 ∷ authorities ∷ 0x00 ∷ 0x00 ∷ []
    ++ a_example ++ 0x00 ∷ kind ∷ 0x00 ∷ 0x01 ∷ []

abbrev query : List ℕ
query = 0x12 ∷ 0x34 ∷ 0x01 ∷ 0x00 ∷ 0x00 ∷ 0x01 ∷ 0x00 ∷ 0x00 ∷ 0x00 ∷ 0x00 ∷ 0x00 ∷ 0x00 ∷ [] ++ a_example ++ 0x00 ∷ 0x1c ∷ 0x00 ∷ 0x01 ∷ []

-- a response without records, and one whose code is 3
abbrev no_addresses : List ℕ
no_addresses = message 0x35 0x81 0 0 0x1c

abbrev no_such_name : List ℕ
no_such_name = 0x12 ∷ 0x35 ∷ 0x81 ∷ 0x83 ∷ 0x00 ∷ 0x01 ∷ 0x00 ∷ 0x00 ∷ 0x00 ∷ 0x00 ∷ 0x00 ∷ 0x00 ∷ [] ++ a_example ++ 0x00 ∷ 0x1c ∷ 0x00 ∷ 0x01 ∷ []

-- a response with 192.0.2.33, of TTL 3,600
abbrev one_address : List ℕ
one_address =
    message 0x36 0x81 1 0 0x01
    ++ 0xc0 ∷ 0x0c ∷ 0x00 ∷ 0x01 ∷ 0x00 ∷ 0x01 ∷ 0x00 ∷ 0x00 ∷ 0x0e ∷ 0x10 ∷ 0x00 ∷ 0x04 ∷ 192 ∷ 0 ∷ 2 ∷ 33 ∷ []

-- an answer with one AAAA record of a TTL below 256 * 256
abbrev made_of : (high low : ℕ) → List ℕ → List ℕ
made_of high low address =
    message 0x34 0x81 1 0 0x1c ++ a_example ++ 0x00 ∷ 0x1c ∷ 0x00 ∷ 0x01 ∷ 0x00 ∷ 0x00 ∷ high ∷ low ∷ 0x00 ∷ 0x10 ∷ address

abbrev embedded_address : List ℕ
embedded_address =
    0x20 ∷ 0x01 ∷ 0x0d ∷ 0xb8 ∷ 0x01 ∷ 0x22 ∷ 0x03 ∷ 0x44 ∷ 0x00 ∷ 0x00 ∷ 0x00 ∷ 0x00 ∷ 0xc0 ∷ 0x00 ∷ 0x02 ∷ 0x21 ∷ []

abbrev passes : List ℕ → Result Answer Dns64Fault
passes bytes = Ok (record { bytes = bytes; made = 0 })

pub record AnswerExamples : Type 0 where
  pub one_made : dns64 query no_addresses (Some one_address) (prefix ∷ []) ≡ Ok (record { bytes = made_of 0x02 0x58 embedded_address; made = 1 })
  pub no_name : dns64 query no_such_name (Some one_address) (prefix ∷ []) ≡ passes (0x12 ∷ 0x34 ∷ 0x81 ∷ 0x83 ∷ 0x00 ∷ 0x01 ∷ 0x00 ∷ 0x00 ∷ 0x00 ∷ 0x00 ∷ 0x00 ∷ 0x00 ∷ [] ++ a_example ++ 0x00 ∷ 0x1c ∷ 0x00 ∷ 0x01 ∷ [])
  pub no_a_response : dns64 query no_addresses None (prefix ∷ []) ≡ passes (message 0x34 0x81 0 0 0x1c)
  -- 192.0.2.33 is not global, and nothing is made from it under the well-known prefix
  pub not_global : dns64 query no_addresses (Some one_address) (well_known_prefix ∷ []) ≡ passes (message 0x34 0x81 0 0 0x1c)

-- a query refused for its first 11 bytes, and for a response in its place; a response refused for a query in its place
pub record RefusalExamples : Type 0 where
  pub cut_query : dns64 (take 11 query) no_addresses None [] ≡ Err (record { which = 0; fault = Bad 0 })
  pub no_query : dns64 no_addresses no_addresses None [] ≡ Err (record { which = 0; fault = NotQuery })
  pub no_answer : dns64 query query (Some []) [] ≡ Err (record { which = 1; fault = NotAnswer })
  pub cut_a_response : dns64 query no_such_name (Some []) [] ≡ Err (record { which = 2; fault = Bad 0 })
