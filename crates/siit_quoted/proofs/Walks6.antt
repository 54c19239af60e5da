-- The walk over the extension headers of a quote: it ends behind whole units of 8 bytes, and in a translated quote it
-- meets none but a Fragment header.
use Rattle.std.proofs.Common.{◌≡◌, ℕ, zero, suc, ◌+◌, ◌%◌, ◌<◌, List, ◌++◌, length, drop, Bool, true, false, nat_lt, if◌then◌else◌, ◌==◌, Option, Some, None, Result, Ok, Err, ◌∙◌, ap, refl, arith}
use Rattle.std.proofs.lemmas.Bool.{le-ltb}
use Rattle.siit_model.specs.Bytes.{field8}
use Rattle.siit_model.specs.Extensions.{Walked, Trouble, runs_short, out_of_order, behind_fragment, FragmentFields, extension_length, fragment_fields, fragment_header, is_cut_short, is_extension, is_passed, segments_with, walk_at_fragment, walk_from, walk_of}
use Rattle.siit_upper.proofs.Read.{fragment_header_is_read}

-- no header that the walk passes over or ends at
pub record IsPlain (next : ℕ) : Type 0 where
  pub no_hop_options : (next == 0) ≡ false
  pub no_routing : (next == 43) ≡ false
  pub no_fragment : (next == 44) ≡ false
  pub no_options : (next == 60) ≡ false

pub walk-plain : (next : ℕ) (body : List ℕ) → IsPlain next → walk_of next body ≡ Ok (record { upper = next; at = 0; fragment = None; segments = None })
walk-plain next body plain = rw (plain.no_hop_options, plain.no_routing, plain.no_options, plain.no_fragment) refl

ends-well : (short extension : Bool) (a b : Trouble) (w : Walked) → short ≡ false → extension ≡ false → (if short then Err a else if extension then Err b else Ok w) ≡ Ok w
ends-well short extension a b w one two = rw (one, two) refl

pub walk-fragment : (next : ℕ) (fields : FragmentFields) (rest : List ℕ) → is_extension next ≡ false → fields.offset < 8192 → fields.id < 4294967296
    → walk_of 44 (fragment_header next fields ++ rest) ≡ Ok (record { upper = next; at = 8; fragment = Some fields; segments = None })
walk-fragment next fields rest not_extension small_offset small_id =
    let bytes : List ℕ = fragment_header next fields ++ rest in
    ends-well (nat_lt (length bytes) 8) (is_extension next) runs_short behind_fragment (record { upper = next; at = 8; fragment = Some (fragment_fields bytes); segments = None })
    (le-ltb (length bytes) 8 (omega arith)) not_extension
    ∙ ap (λ (f : FragmentFields). let w : Walked = record { upper = next; at = 8; fragment = Some f; segments = None } in let r : Result Walked Trouble = Ok w in r)
    (fragment_header_is_read next fields rest small_offset small_id)

-- a walk that ends well has met no extension header behind the Fragment header
well-ended : (short extension : Bool) (a b : Trouble) (w v : Walked) → (if short then Err a else if extension then Err b else Ok w) ≡ Ok v → extension ≡ false
well-ended true extension a b w v is = absurd (cc)
well-ended false true a b w v is = absurd (cc)
well-ended false false a b w v is = refl

pub no-extension : (next : ℕ) (fields : FragmentFields) (rest : List ℕ) (v : Walked) → walk_of 44 (fragment_header next fields ++ rest) ≡ Ok v → is_extension next ≡ false
no-extension next fields rest v is =
    let bytes : List ℕ = fragment_header next fields ++ rest in
    well-ended (nat_lt (length bytes) 8) (is_extension next) runs_short behind_fragment (record { upper = next; at = 8; fragment = Some (fragment_fields bytes); segments = None }) v is

-- the branch by which a walk ended well
by-branch : (P : Type 0) (passed short first fragment : Bool) (on at_end : Result Walked Trouble) (plain v : Walked)
    → (on ≡ Ok v → P) → (at_end ≡ Ok v → P) → (plain ≡ v → P)
    → (if passed then (if short then Err runs_short else on) else if first then Err out_of_order else if fragment then at_end else Ok plain) ≡ Ok v → P
by-branch P true true first fragment on at_end plain v one two three is = absurd (cc)
by-branch P true false first fragment on at_end plain v one two three is = one is
by-branch P false short true fragment on at_end plain v one two three is = absurd (cc)
by-branch P false short false true on at_end plain v one two three is = two is
by-branch P false short false false on at_end plain v one two three is = three (cc)

ended-as : (short extension : Bool) (a b : Trouble) (w v : Walked) → (if short then Err a else if extension then Err b else Ok w) ≡ Ok v → w ≡ v
ended-as true extension a b w v is = absurd (cc)
ended-as false true a b w v is = absurd (cc)
ended-as false false a b w v is = cc

fragment-units : (at : ℕ) (segments : Option ℕ) (rest : List ℕ) (v : Walked) → at % 8 ≡ 0 → walk_at_fragment at segments rest ≡ Ok v → v.at % 8 ≡ 0
fragment-units at segments rest v units is =
    let w : Walked = record { upper = field8 rest 0; at = at + 8; fragment = Some (fragment_fields rest); segments = segments } in
    let same = ended-as (nat_lt (length rest) 8) (is_extension (field8 rest 0)) runs_short behind_fragment w v is in
    omega (arith, units, ap (λ (u : Walked). u.at) same)

walk_from-units : (turns at next : ℕ) (segments : Option ℕ) (rest : List ℕ) (v : Walked) → at % 8 ≡ 0 → walk_from turns at next segments rest ≡ Ok v → v.at % 8 ≡ 0
walk_from-units zero at next segments rest v units is = absurd (cc)
walk_from-units (suc turns) at next segments rest v units is =
    let later : List ℕ = drop (extension_length rest) rest in
    by-branch (v.at % 8 ≡ 0) (is_passed at next) (is_cut_short rest) (next == 0) (next == 44)
    (walk_from turns (at + extension_length rest) (field8 rest 0) (segments_with at next segments rest) later) (walk_at_fragment at segments rest)
    (record { upper = next; at = at; fragment = None; segments = segments }) v
    (λ on. walk_from-units turns (at + extension_length rest) (field8 rest 0) (segments_with at next segments rest) later v (omega (arith, units)) on)
    (λ at_end. fragment-units at segments rest v units at_end)
    (λ plain. omega (arith, units, ap (λ (u : Walked). u.at) plain)) is

-- extension headers have whole units of 8 bytes (RFC 8200 section 4.2 and following)
pub walk-units : (next : ℕ) (body : List ℕ) (v : Walked) → walk_of next body ≡ Ok v → v.at % 8 ≡ 0
walk-units next body v is = walk_from-units (suc (length body)) 0 next None body v refl is
