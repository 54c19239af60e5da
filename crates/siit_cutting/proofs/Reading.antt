-- The fragments that are read in the packets that are given.
use Rattle.std.proofs.Common.{◌≡◌, ℕ, ◌*◌, ◌^◌, ◌<◌, List, [], ◌∷◌, length, map, All, Bool, true, false, ◌&&◌, ◌||◌, ◌==◌, nat_lt, if◌then◌else◌, Some, None, Result, Ok, Err, IsOk, ap, refl, arith, ne_eqb, le-ltb}
use Rattle.std.proofs.lemmas.Bool.{false≢true}
use Rattle.std.proofs.lemmas.List.Elements.{All-head, All-tail}
use Rattle.siit_model.specs.Extensions.{Walked, Trouble, runs_short, behind_fragment, is_extension, fragment_fields, walk_of}
use Rattle.siit_model.specs.Fragments.{Fragment, fragment_if, fragment6, fragment_packet6, plain_packet6}
use Rattle.siit_upper.proofs.Read.{fragment_is_read6}

-- a Fragment header whose walk is accepted
may_follow : (short behind : Bool) (walked : Walked) → short ≡ false
    → IsOk {E = Trouble} (if short then Err runs_short else if behind then Err behind_fragment else Ok walked) → behind ≡ false
may_follow true behind walked is ok = absurd (false≢true ok)
may_follow false true walked is ok = absurd (false≢true ok)
may_follow false false walked is ok = refl

pub fragment-read : (f : Fragment) → f.offset < 8192 → f.id < 2 ^ 32 → IsOk (walk_of 44 (fragment_packet6 f).body)
    → fragment6 (fragment_packet6 f) ≡ Some f
fragment-read f small_offset small_id ok =
    let body : List ℕ = (fragment_packet6 f).body in
    fragment_is_read6 f small_offset small_id
    (may_follow (nat_lt (length body) 8) (is_extension f.common.protocol)
    (record { upper = f.common.protocol; at = 8; fragment = Some (fragment_fields body); segments = None }) (le-ltb (length body) 8 (omega arith)) ok)

-- a packet without extension headers
walk-plain : (hop_by_hop routing options fragment : Bool) (x y z w : Result Walked Trouble)
    → hop_by_hop ≡ false → routing ≡ false → options ≡ false → fragment ≡ false
    → (if ((hop_by_hop && true) || routing) || options then x else if hop_by_hop then y else if fragment then z else w) ≡ w
walk-plain hop_by_hop routing options fragment x y z w a b c d = rw (a, b, c, d) refl

pub plain-read : (f : Fragment) → (f.common.protocol ≡ 0 → ⊥) → (f.common.protocol ≡ 43 → ⊥) → (f.common.protocol ≡ 60 → ⊥) → (f.common.protocol ≡ 44 → ⊥)
    → fragment6 (plain_packet6 f) ≡ Some (record f { id = 0; offset = 0; more = false })
plain-read f not0 not43 not60 not44 =
    ap (λ r. fragment_if (plain_packet6 f) r)
    (walk-plain (f.common.protocol == 0) (f.common.protocol == 43) (f.common.protocol == 60) (f.common.protocol == 44) _ _ _
    (Ok (record { upper = f.common.protocol; at = 0; fragment = None; segments = None }))
    (ne_eqb f.common.protocol 0 not0) (ne_eqb f.common.protocol 43 not43) (ne_eqb f.common.protocol 60 not60) (ne_eqb f.common.protocol 44 not44))

-- packets that are read one by one
pub map-read : (fragments : List Fragment) → All (λ f. fragment6 (fragment_packet6 f) ≡ Some f) fragments
    → map fragment6 (map fragment_packet6 fragments) ≡ map (λ f. Some f) fragments
map-read [] each = refl
map-read (f ∷ rest) each =
    let first = All-head (λ g. fragment6 (fragment_packet6 g) ≡ Some g) f rest each in
    let behind = map-read rest (All-tail (λ g. fragment6 (fragment_packet6 g) ≡ Some g) f rest each) in
    rw (first, behind) refl
