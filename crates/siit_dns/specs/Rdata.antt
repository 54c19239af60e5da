-- RDATA of a resource record (RFC 1035 sections 3.3 and 3.4, RFC 3596 section 2.2).
use Rattle.std.specs.Prelude.{ℕ, ◌+◌, List, [], ◌∷◌, ◌++◌, length, ◌==◌, ◌||◌, nat_lt, if◌then◌else◌, Option, Some, None}
use Rattle.siit_model.specs.Bytes.{part}
use Rattle.siit_dns.specs.Names.{◌>>=◌, name_at}

-- a part of RDATA: a name, or so many octets
pub data Field : Type 0 where
  a_name : Field
  octets : ℕ → Field

-- the parts of RDATA of the types that hold names: NS 2, CNAME 5 and PTR 12, SOA 6, MX 15
abbrev pub fields_of : ℕ → Option (List Field)
fields_of kind =
    if (kind == 2) || (kind == 5) || (kind == 12) then Some (a_name ∷ [])
    else if kind == 6 then Some (a_name ∷ a_name ∷ octets 20 ∷ [])
    else if kind == 15 then Some (octets 2 ∷ a_name ∷ [])
    else None

-- the parts from a place on with their names written out, and the place behind them
abbrev pub written_from : List Field → List ℕ → ℕ → Option (List ℕ × ℕ)
written_from [] bytes place = Some ([], place)
written_from (a_name ∷ fields) bytes place = do
  name ← name_at bytes place
  rest ← written_from fields bytes name.1
  Some (name.0 ++ rest.0, rest.1)
written_from (octets n ∷ fields) bytes place = do
  rest ← written_from fields bytes (place + n)
  Some (part bytes place n ++ rest.0, rest.1)

-- the RDATA with its names written out, where its parts fill it
abbrev pub filled : List Field → List ℕ → (place end : ℕ) → Option (List ℕ)
filled fields bytes place end = do
  written ← written_from fields bytes place
  if written.1 == end then Some written.0 else None

-- RDATA at a place, `len` bytes long, with its names written out, where its type holds names. The first `None` says
-- that it is at fault, the second that it has no names.
abbrev pub with_names : Option (List Field) → List ℕ → (place len : ℕ) → Option (Option (List ℕ))
with_names None bytes place len = Some None
with_names (Some fields) bytes place len = filled fields bytes place (place + len) >>= λ written. Some (Some written)

-- The same of RDATA of any type. An A record (1) has 4 bytes and an AAAA record (28) has 16.
abbrev pub rdata_at : (kind : ℕ) → List ℕ → (place len : ℕ) → Option (Option (List ℕ))
rdata_at kind bytes place len =
    if nat_lt (length bytes) (place + len) then None
    else if kind == 1 then (if len == 4 then Some None else None)
    else if kind == 28 then (if len == 16 then Some None else None)
    else with_names (fields_of kind) bytes place len
