-- The bytes of a packet with its new header.
use Rattle.std.proofs.Common.{◌≡◌, ℕ, ◌+◌, ◌-◌, ◌≤◌, List, [], ◌++◌, length, drop, ◌∙◌, ap, sym, length-append, length-drop, arith}
use Rattle.std.proofs.lemmas.List.{take_rest}
use Rattle.siit_model.specs.Bytes.{part}
use Rattle.siit_model.specs.Ipv4.{header_length_in, total_length_in, ipv4_fields}
use Rattle.siit_model.specs.Ipv6.{Ipv6Packet, ipv6_bytes, ipv6_header}

-- the payload of a packet with no bytes of the link behind it
pub payload-is : (bytes : List ℕ) → length bytes ≡ total_length_in bytes → (ipv4_fields bytes).payload ≡ drop (header_length_in bytes) bytes
payload-is bytes whole = ap (λ n. part bytes (header_length_in bytes) (n - header_length_in bytes)) (sym whole) ∙ take_rest bytes (header_length_in bytes)

-- a header before what stands behind it
pub head-is : (packet fields : Ipv6Packet) (len : ℕ) (new header behind : List ℕ)
    → fields ≡ record packet { body = [] } → len ≡ length packet.body → header ≡ ipv6_header len fields → behind ≡ packet.body → new ≡ header ++ behind
    → new ≡ ipv6_bytes packet
head-is packet fields len new header behind is_fields is_len is_header is_behind is_new =
    is_new
    ∙ ap (λ h. h ++ behind) is_header
    ∙ ap (λ n. ipv6_header n fields ++ behind) is_len
    ∙ ap (λ q. ipv6_header (length packet.body) q ++ behind) is_fields
    ∙ ap (λ b. ipv6_header (length packet.body) packet ++ b) is_behind

-- the packet's end stays where it lies
pub end-stays : (new header behind part bytes : List ℕ) (header_len front between after : ℕ) → header_len ≤ length bytes
    → new ≡ header ++ behind → behind ≡ part ++ drop header_len bytes → between + length part ≡ front + header_len → after + length header ≡ between
    → after + length new ≡ front + length bytes
end-stays new header behind part bytes header_len front between after inside is_new is_behind first second =
    omega (arith, ap length is_new, length-append header behind, ap length is_behind, length-append part (drop header_len bytes), length-drop header_len bytes)
