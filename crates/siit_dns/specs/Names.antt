-- Names of a DNS message (RFC 1035 sections 3.1 and 4.1.4). A place counts from the message's first byte.
use Rattle.std.specs.Prelude.{ℕ, zero, suc, ◌+◌, ◌*◌, ◌%◌, List, [], ◌∷◌, ◌++◌, length, drop, map, Bool, ◌==◌, nat_lt, if◌then◌else◌, Option, Some, None, is_some}
use Rattle.std.specs.Char.{to_ascii_lowercase}
use Rattle.std.specs.Str.{bytes_eq}

infixl 10 ◌>>=◌
abbrev pub ◌>>=◌ : {A B : Type 0} → Option A → (A → Option B) → Option B
None >>= f = None
(Some x) >>= f = f x

-- Labels that follow one another, each behind an octet that counts its bytes, up to a zero octet or a pointer, and
-- the place that the pointer names, if one ends them.
pub record Run : Type 0 where
  pub labels : List ℕ
  pub target : Option ℕ

abbrev pub with_byte : ℕ → Run → Option Run
with_byte byte run = Some (record { labels = byte ∷ run.labels; target = run.target })

-- a pointer: an octet with 11 in its top bits, and another, 14 bits of a place
abbrev pub pointer : ℕ → List ℕ → Option Run
pointer octet [] = None
pointer octet (low ∷ rest) = Some (record { labels = []; target = Some (octet % 64 * 256 + low) })

-- The run that the bytes begin with, where the first `left` of them belong to a label that has begun. A label has at
-- most 63 bytes; an octet with 01 or 10 in its top bits is neither a label nor a pointer.
abbrev pub run_from : (left : ℕ) → List ℕ → Option Run
run_from left [] = None
run_from (suc left) (byte ∷ rest) = run_from left rest >>= with_byte byte
run_from zero (octet ∷ rest) =
    if octet == 0 then Some (record { labels = []; target = None })
    else if nat_lt octet 64 then run_from octet rest >>= with_byte octet
    else if nat_lt octet 192 then None
    else pointer octet rest

abbrev pub run_at : List ℕ → ℕ → Option Run
run_at bytes place = run_from 0 (drop place bytes)

-- how many bytes a run takes, with the zero octet or the pointer
abbrev pub run_length : Run → ℕ
run_length run = length run.labels + (if is_some run.target then 2 else 1)

-- what stands behind the labels of a run in the name written out: the zero octet, or the name that the pointer names
abbrev pub pointed : Option ℕ → (ℕ → Option (List ℕ)) → Option (List ℕ)
pointed None name = Some (0 ∷ [])
pointed (Some target) name = name target

-- The name at a place below a limit, written out without pointers. A pointer names a place below the one where its
-- own run began.
abbrev pub name_below : (limit : ℕ) → List ℕ → ℕ → Option (List ℕ)
name_below zero bytes place = None
name_below (suc limit) bytes place = do
  run ← run_at bytes place
  rest ← pointed run.target (λ target. if nat_lt target place then name_below limit bytes target else None)
  Some (run.labels ++ rest)

-- The name at a place, and the place behind its first run, where the next field stands. A name has at most 255 bytes
-- with its octets of length and the zero (RFC 1035 section 2.3.4).
abbrev pub name_at : List ℕ → ℕ → Option (List ℕ × ℕ)
name_at bytes place = do
  run ← run_at bytes place
  name ← name_below (suc place) bytes place
  if nat_lt 255 (length name) then None else Some (name, place + run_length run)

-- Names are the same where they differ at most in the case of ASCII letters (RFC 1035 section 2.3.3). Octets of
-- length are below any letter.
abbrev pub in_lower_case : List ℕ → List ℕ
in_lower_case name = map to_ascii_lowercase name

abbrev pub is_same_name : List ℕ → List ℕ → Bool
is_same_name a b = bytes_eq (in_lower_case a) (in_lower_case b)
