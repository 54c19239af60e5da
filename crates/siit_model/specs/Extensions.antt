-- The walk over the extension headers of an IPv6 packet (RFC 8200 section 4), as far as a translator goes.
use Rattle.std.specs.Prelude.{ℕ, zero, suc, ◌+◌, ◌*◌, ◌/◌, ◌%◌, List, ◌∷◌, ◌++◌, length, drop, Bool, ◌&&◌, ◌||◌, ◌==◌, nat_lt, not, if◌then◌else◌, Option, Some, None, Result, Ok, Err}
use Rattle.siit_model.specs.Bytes.{field8, field16, field32, bytes16, bytes32, flag_bit}

-- a Fragment header's fields (RFC 8200 section 4.5); the offset counts units of 8 bytes
pub record FragmentFields : Type 0 where
  pub offset : ℕ
  pub more : Bool
  pub id : ℕ

-- why a walk stops
pub data Trouble : Type 0 where
  -- an extension header runs past the end
  runs_short : Trouble
  -- a Hop-by-Hop Options header that isn't the first
  out_of_order : Trouble
  -- an extension header behind a Fragment header
  behind_fragment : Trouble

-- Where a walk ends: the upper protocol, how many bytes stand before the upper part, the Fragment header if there is
-- one, and the place, from the IPv6 header's first byte, of the first Segments Left octet that isn't 0.
pub record Walked : Type 0 where
  pub upper : ℕ
  pub at : ℕ
  pub fragment : Option FragmentFields
  pub segments : Option ℕ

-- Hop-by-Hop Options at the first place, Routing and Destination Options are passed over.
abbrev pub is_passed : ℕ → ℕ → Bool
is_passed at next = ((next == 0) && (at == 0)) || (next == 43) || (next == 60)

-- what may not follow a Fragment header: extension headers, Authentication, Mobility, HIP and Shim6
abbrev pub is_extension : ℕ → Bool
is_extension next =
    (next == 0) || (next == 43) || (next == 44) || (next == 51) || (next == 60)
    || (next == 135) || (next == 139) || (next == 140)

-- the length of an extension header, by its second byte
abbrev pub extension_length : List ℕ → ℕ
extension_length rest = 8 * (field8 rest 1 + 1)

abbrev pub is_cut_short : List ℕ → Bool
is_cut_short rest = nat_lt (length rest) 8 || nat_lt (length rest) (extension_length rest)

-- the place of the first Segments Left that isn't 0, with a header of kind `next` at the front of `rest`
abbrev pub segments_with : ℕ → ℕ → Option ℕ → List ℕ → Option ℕ
segments_with at next (Some place) rest = Some place
segments_with at next None rest = if (next == 43) && not (field8 rest 3 == 0) then Some (40 + at + 3) else None

abbrev pub fragment_fields : List ℕ → FragmentFields
fragment_fields rest = record { offset = field16 rest 2 / 8; more = field16 rest 2 % 2 == 1; id = field32 rest 4 }

-- a Fragment header before a header of kind `next`
abbrev pub fragment_header : (next : ℕ) → FragmentFields → List ℕ
fragment_header next fields = next ∷ 0 ∷ bytes16 (8 * fields.offset + flag_bit fields.more) ++ bytes32 fields.id

-- the walk at a Fragment header
abbrev pub walk_at_fragment : ℕ → Option ℕ → List ℕ → Result Walked Trouble
walk_at_fragment at segments rest =
    if nat_lt (length rest) 8 then Err runs_short
    else if is_extension (field8 rest 0) then Err behind_fragment
    else Ok (record { upper = field8 rest 0; at = at + 8; fragment = Some (fragment_fields rest); segments = segments })

-- The walk from a header of kind `next` at the front of `rest`, `at` bytes behind the IPv6 header. Each header has at
-- least 8 bytes, so that as many turns as there are bytes, and one more, are enough.
abbrev pub walk_from : (turns at next : ℕ) → Option ℕ → List ℕ → Result Walked Trouble
walk_from zero at next segments rest = Err runs_short
walk_from (suc turns) at next segments rest =
    if is_passed at next then (
    if is_cut_short rest then Err runs_short
    else walk_from turns (at + extension_length rest) (field8 rest 0) (segments_with at next segments rest) (drop (extension_length rest) rest))
    else if next == 0 then Err out_of_order
    else if next == 44 then walk_at_fragment at segments rest
    else Ok (record { upper = next; at = at; fragment = None; segments = segments })

-- the walk of a packet's body, from its next header on
abbrev pub walk_of : ℕ → List ℕ → Result Walked Trouble
walk_of next body = walk_from (suc (length body)) 0 next None body
