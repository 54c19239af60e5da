-- The bytes of a packet with its new header.
use Rattle.std.proofs.Common.{◌≡◌, ℕ, ◌+◌, ◌-◌, ◌≤◌, List, [], ◌++◌, length, drop, ◌∙◌, ap, sym, subst, arith, Fits, length-append, length-drop, Result, Ok, IfOk}
use mir.Syntax.{w16}
use Rattle.std.proofs.lemmas.List.{take_rest, drop-drop}
use Rattle.siit_model.specs.Bytes.{part}
use Rattle.siit_model.specs.Checksum.{checksum_of, residue}
use Rattle.siit_model.specs.Extensions.{Walked, Trouble}
use Rattle.siit_model.specs.Ipv4.{Ipv4Packet, ipv4_header, ipv4_bytes}
use Rattle.siit_model.specs.Ipv6.{payload_length_in, ipv6_fields}

-- what is said of the walk, at the walk that there is
pub from-ok : (P : Walked → Type 0) (r : Result Walked Trouble) (w : Walked) → r ≡ Ok w → P w → IfOk r P
from-ok P r w is holds = subst (λ x. IfOk x P) (sym is) holds

pub at-ok : (P : Walked → Type 0) (r : Result Walked Trouble) (w : Walked) → r ≡ Ok w → IfOk r P → P w
at-ok P r w is holds = subst (λ x. IfOk x P) is holds

-- the body of a packet with no bytes of the link behind it
pub body-is : (bytes : List ℕ) → length bytes ≡ 40 + payload_length_in bytes → (ipv6_fields bytes).body ≡ drop 40 bytes
body-is bytes whole =
    let all : payload_length_in bytes ≡ length bytes - 40 = omega arith in
    ap (λ n. part bytes 40 n) all ∙ take_rest bytes 40

pub body-length : (bytes : List ℕ) → length bytes ≡ 40 + payload_length_in bytes → length (ipv6_fields bytes).body ≡ payload_length_in bytes
body-length bytes whole = ap length (body-is bytes whole) ∙ length-drop 40 bytes ∙ omega arith

-- the upper part, and its length
pub upper-is : (bytes : List ℕ) (at from : ℕ) → length bytes ≡ 40 + payload_length_in bytes → from ≡ 40 + at → drop from bytes ≡ drop at (ipv6_fields bytes).body
upper-is bytes at from whole is_from =
    ap (λ n. drop n bytes) is_from ∙ sym (drop-drop at 40 bytes) ∙ ap (drop at) (sym (body-is bytes whole))

pub upper-length-is : (bytes : List ℕ) (at : ℕ) → length bytes ≡ 40 + payload_length_in bytes → length (drop at (ipv6_fields bytes).body) ≡ payload_length_in bytes - at
upper-length-is bytes at whole = length-drop at (ipv6_fields bytes).body ∙ ap (λ n. n - at) (body-length bytes whole)

-- a length of 16 bits
pub fits16 : (n : ℕ) → n ≤ 65535 → Fits w16 n
fits16 n small = omega arith

-- a header before the payload
pub head-is : (packet fields : Ipv4Packet) (total : ℕ) (new header behind : List ℕ)
    → fields ≡ record packet { payload = [] } → total ≡ 20 + length packet.options + length packet.payload
    → header ≡ ipv4_header total fields (checksum_of (residue (ipv4_header total fields 0))) → behind ≡ packet.payload → new ≡ header ++ behind
    → new ≡ ipv4_bytes packet
head-is packet fields total new header behind is_fields is_total is_header is_behind is_new =
    let right : ℕ → Ipv4Packet → List ℕ = λ n p. ipv4_header n p (checksum_of (residue (ipv4_header n p 0))) in
    is_new
    ∙ ap (λ h. h ++ behind) is_header
    ∙ ap (λ n. right n fields ++ behind) is_total
    ∙ ap (λ q. right (20 + length packet.options + length packet.payload) q ++ behind) is_fields
    ∙ ap (λ b. right (20 + length packet.options + length packet.payload) packet ++ b) is_behind

-- the packet's end stays where it lies
pub end-stays : (new header bytes : List ℕ) (from front after : ℕ) → from ≤ length bytes → new ≡ header ++ drop from bytes → after + length header ≡ front + from
    → after + length new ≡ front + length bytes
end-stays new header bytes from front after inside is_new is_front = omega (arith, ap length is_new, length-append header (drop from bytes), length-drop from bytes)
