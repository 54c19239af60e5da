-- A packet whose upper part is changed where it lies, behind its headers.
use Rattle.std.proofs.Common.{◌≡◌, ℕ, ◌+◌, ◌-◌, List, [], ◌++◌, length, take, drop, Bool, true, false, if◌then◌else◌, ◌∙◌, ap, sym, arith, length-append, length-drop}
use Rattle.std.proofs.lemmas.List.{take_at, drop_at, drop_all, append-nil}
use borrow.Rule.Slice.PartMut.{put_mid}
use Rattle.siit_model.specs.Fragments.{Fragment, fields_of, fragment_packet6, plain_packet6}
use Rattle.siit_model.specs.Extensions.{fragment_header}
use Rattle.siit_model.specs.Ipv6.{ipv6_bytes, ipv6_header}
use Rattle.siit_v4to6.specs.To6.{fragment_part, has_fragment_header, packet6}

-- bytes that are written behind the first `at` of some others
pub put-behind : (at : ℕ) (bytes new : List ℕ) → put_mid at (length bytes - at) bytes new ≡ take at bytes ++ new
put-behind at bytes new =
    let none : drop (length bytes - at) (drop at bytes) ≡ [] = drop_all (length bytes - at) (drop at bytes) (omega (arith, length-drop at bytes)) in
    ap (λ l. take at bytes ++ (new ++ l)) none ∙ ap (λ l. take at bytes ++ l) (append-nil new)

-- the headers of a packet, with a payload length
abbrev headers6 : (len : ℕ) → Bool → Fragment → List ℕ
headers6 len asked f = ipv6_header len (packet6 asked f) ++ fragment_part asked f

headers-length : (len : ℕ) (asked : Bool) (f : Fragment) → length (headers6 len asked f) ≡ 40 + length (fragment_part asked f)
headers-length len asked f = omega arith

-- what stands behind the headers
pub behind-is : (asked : Bool) (f : Fragment) (at : ℕ) → at ≡ 40 + length (fragment_part asked f) → drop at (ipv6_bytes (packet6 asked f)) ≡ f.bytes
behind-is asked f at is_at =
    let len : ℕ = length (packet6 asked f).body in
    drop_at (headers6 len asked f) f.bytes at (headers-length len asked f ∙ sym is_at)

-- other bytes there, as many
pub joined-is : (asked : Bool) (f : Fragment) (upper : List ℕ) (at : ℕ) → at ≡ 40 + length (fragment_part asked f) → length upper ≡ length f.bytes
    → take at (ipv6_bytes (packet6 asked f)) ++ upper ≡ ipv6_bytes (packet6 asked (record f { bytes = upper }))
joined-is asked f upper at is_at same =
    let len : ℕ = length (packet6 asked f).body in
    let lengths : len ≡ length (fragment_part asked f ++ upper) =
    length-append (fragment_part asked f) f.bytes ∙ ap (λ n. length (fragment_part asked f) + n) (sym same) ∙ sym (length-append (fragment_part asked f) upper) in
    ap (λ l. l ++ upper) (take_at (headers6 len asked f) f.bytes at (headers-length len asked f ∙ sym is_at))
    ∙ ap (λ n. headers6 n asked f ++ upper) lengths

-- the packet of a fragment, and of a whole packet for which no Fragment header is asked
pub fragment-packet : (asked : Bool) (f : Fragment) → has_fragment_header asked f ≡ true → packet6 asked f ≡ fragment_packet6 f
fragment-packet asked f has =
    ap (λ (test : Bool). record (plain_packet6 f) { next = if test then 44 else f.common.protocol; body = (if test then fragment_header f.common.protocol (fields_of f) else []) ++ f.bytes }) has

pub plain-packet : (asked : Bool) (f : Fragment) → has_fragment_header asked f ≡ false → packet6 asked f ≡ plain_packet6 f
plain-packet asked f has =
    ap (λ (test : Bool). record (plain_packet6 f) { next = if test then 44 else f.common.protocol; body = (if test then fragment_header f.common.protocol (fields_of f) else []) ++ f.bytes }) has
