-- What is read in the packets that are made of fragments.
use Rattle.std.proofs.Common.{◌≡◌, ℕ, ◌+◌, ◌*◌, ◌/◌, ◌%◌, ◌<◌, List, ◌++◌, length, Bool, true, false, ◌&&◌, ◌||◌, ◌==◌, nat_lt, if◌then◌else◌, Some, None, Result, Ok, Err, ◌∙◌, ap, refl, arith, eq-eqb, ne_eqb, le-ltb}
use Rattle.siit_model.specs.Bytes.{field8, field16, field32, flag_bit}
use Rattle.siit_model.specs.Extensions.{FragmentFields, Walked, Trouble, runs_short, behind_fragment, is_extension, fragment_fields, fragment_header}
use Rattle.siit_model.specs.Fragments.{Fragment, fields_of, fragment_if, fragment6, fragment_packet6, plain_packet6}
use Rattle.siit_model.specs.Ipv6.{Ipv6Packet}
use Rattle.siit_checksum.proofs.Digits.{two-read, four-read}

fields-same : (f : FragmentFields) (offset id : ℕ) (more : Bool) → offset ≡ f.offset → more ≡ f.more → id ≡ f.id
    → record { offset = offset; more = more; id = id } ≡ f
fields-same f offset id more is_offset is_more is_id = rw (is_offset, is_more, is_id) refl

flag-small : (more : Bool) → flag_bit more < 2
flag-small true = omega arith
flag-small false = omega arith

more-read : (offset value : ℕ) (more : Bool) → value ≡ 8 * offset + flag_bit more → (value % 2 == 1) ≡ more
more-read offset value true is = eq-eqb (value % 2) 1 (omega arith)
more-read offset value false is = ne_eqb (value % 2) 1 (λ (odd : value % 2 ≡ 1). omega arith)

pub fragment_header_is_read : (next : ℕ) (fields : FragmentFields) (behind : List ℕ) → fields.offset < 8192 → fields.id < 4294967296
    → fragment_fields (fragment_header next fields ++ behind) ≡ fields
fragment_header_is_read next fields behind small_offset small_id =
    let bytes : List ℕ = fragment_header next fields ++ behind in
    let value : ℕ = 8 * fields.offset + flag_bit fields.more in
    let flag = flag-small fields.more in
    let two : field16 bytes 2 ≡ value = two-read value (omega arith) in
    let four : field32 bytes 4 ≡ fields.id = four-read fields.id small_id in
    fields-same fields (field16 bytes 2 / 8) (field32 bytes 4) (field16 bytes 2 % 2 == 1)
    (ap (λ n. n / 8) two ∙ omega arith) (more-read fields.offset (field16 bytes 2) fields.more two) four

-- a Fragment header whose bytes are there, before no extension header
at-fragment : (short behind : Bool) (walked : Walked) → short ≡ false → behind ≡ false
    → (if short then Err runs_short else if behind then Err behind_fragment else Ok walked) ≡ Ok walked
at-fragment short behind walked one two = rw (one, two) refl

pub fragment_is_read6 : (f : Fragment) → f.offset < 8192 → f.id < 4294967296 → is_extension f.common.protocol ≡ false
    → fragment6 (fragment_packet6 f) ≡ Some f
fragment_is_read6 f small_offset small_id last =
    let q : Ipv6Packet = fragment_packet6 f in
    ap (λ r. fragment_if q r)
    (at-fragment (nat_lt (length q.body) 8) (is_extension (field8 q.body 0))
    (record { upper = f.common.protocol; at = 8; fragment = Some (fragment_fields q.body); segments = None }) (le-ltb (length q.body) 8 (omega arith)) last)
    ∙ ap (λ (fields : FragmentFields). Some (record f { id = fields.id; offset = fields.offset; more = fields.more }))
    (fragment_header_is_read f.common.protocol (fields_of f) f.bytes small_offset small_id)

or-first : (a b : Bool) → (a || b) ≡ false → a ≡ false
or-first true b neither = neither
or-first false b neither = refl

or-second : (a b : Bool) → (a || b) ≡ false → b ≡ false
or-second true b neither = absurd cc
or-second false b neither = neither

-- a packet whose next header is no extension header
walk-plain : (a b c d e g h i : Bool) (x y z w : Result Walked Trouble)
    → ((((((((a || b) || c) || d) || e) || g) || h) || i)) ≡ false
    → (if ((a && true) || b) || e then x else if a then y else if c then z else w) ≡ w
walk-plain a b c d e g h i x y z w is =
    let one = or-first (a || b) c (or-first _ d (or-first _ e (or-first _ g (or-first _ h (or-first _ i is))))) in
    let not_c = or-second (a || b) c (or-first _ d (or-first _ e (or-first _ g (or-first _ h (or-first _ i is))))) in
    let not_e = or-second (((a || b) || c) || d) e (or-first _ g (or-first _ h (or-first _ i is))) in
    let not_a = or-first a b one in
    let not_b = or-second a b one in
    rw (not_a, not_b, not_c, not_e) refl

pub plain_is_read6 : (f : Fragment) → is_extension f.common.protocol ≡ false → fragment6 (plain_packet6 f) ≡ Some (record f { id = 0; offset = 0; more = false })
plain_is_read6 f last =
    let p : ℕ = f.common.protocol in
    ap (λ r. fragment_if (plain_packet6 f) r)
    (walk-plain (p == 0) (p == 43) (p == 44) (p == 51) (p == 60) (p == 135) (p == 139) (p == 140) _ _ _
    (Ok (record { upper = p; at = 0; fragment = None; segments = None })) last)
