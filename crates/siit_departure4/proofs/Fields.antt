-- The fields of an IPv6 packet whose end is cut off, or whose body is another.
use Rattle.std.proofs.Common.{◌≡◌, ℕ, ◌+◌, ◌-◌, ◌/◌, ◌%◌, ◌<◌, ◌≤◌, List, ◌++◌, length, take, drop, ◌∙◌, ap, sym, refl, arith, length-append}
use Rattle.std.proofs.lemmas.List.{drop-append-le, drop-take, get_or-take, get_or_append_left, length-take-le, take-take}
use Rattle.siit_model.specs.Bytes.{part, field8, field16, field32, field128}
use Rattle.siit_model.specs.Ipv6.{Ipv6Packet, ipv6_fields, payload_length_in}
use Rattle.siit_views.specs.Headers.{HasLength6}
use Rattle.siit_v6to4.proofs.Heads.{body-is}
use Rattle.siit_arrival6.specs.Arrived.{arrival_of}
use Rattle.siit_arrival6.specs.declared.arrived.Arrived6.{Arrived6}
use Rattle.siit_departure4.specs.Parts.{HasUpper, IsAlone6}

-- a packet by what stands in its header
abbrev packet-by : (class flow hop source destination next : ℕ) → (body : List ℕ) → Ipv6Packet
packet-by class flow hop source destination next body = record {
  class = class / 16 % 256;
  flow = flow % 1048576;
  hop = hop;
  source = source;
  destination = destination;
  next = next;
  body = body;
}

packet-same : (c1 c2 f1 f2 h1 h2 s1 s2 d1 d2 n1 n2 : ℕ) (b1 b2 : List ℕ) → c1 ≡ c2 → f1 ≡ f2 → h1 ≡ h2 → s1 ≡ s2 → d1 ≡ d2 → n1 ≡ n2 → b1 ≡ b2
    → packet-by c1 f1 h1 s1 d1 n1 b1 ≡ packet-by c2 f2 h2 s2 d2 n2 b2
packet-same c1 c2 f1 f2 h1 h2 s1 s2 d1 d2 n1 n2 b1 b2 c f h s d n b = rw (c, f, h, s, d, n, b) refl

-- the same header, but for the payload length
abbrev HaveOneHeader : (one other : List ℕ) → Type 0
HaveOneHeader one other = (place : ℕ) → place < 40 → (place ≡ 4 → ⊥) → (place ≡ 5 → ⊥) → field8 one place ≡ field8 other place

module _ (one other : List ℕ) (same : HaveOneHeader one other) where
  word16 : (place : ℕ) → 6 ≤ place → place + 1 < 40 → field16 one place ≡ field16 other place
  word16 place behind inside =
      let high = same place (omega arith) (λ four. omega arith) (λ five. omega arith) in
      let low = same (place + 1) inside (λ four. omega arith) (λ five. omega arith) in
      cc (high, low)

  word32 : (place : ℕ) → 6 ≤ place → place + 3 < 40 → field32 one place ≡ field32 other place
  word32 place behind inside = cc (word16 place behind (omega arith), word16 (place + 2) (omega arith) (omega arith))

  first32 : field32 one 0 ≡ field32 other 0
  first32 =
      cc (
        same 0 (omega arith) (λ four. omega arith) (λ five. omega arith),
        same 1 (omega arith) (λ four. omega arith) (λ five. omega arith),
        same 2 (omega arith) (λ four. omega arith) (λ five. omega arith),
        same 3 (omega arith) (λ four. omega arith) (λ five. omega arith),
      )

  first16 : field16 one 0 ≡ field16 other 0
  first16 = cc (same 0 (omega arith) (λ four. omega arith) (λ five. omega arith), same 1 (omega arith) (λ four. omega arith) (λ five. omega arith))

  address : (place : ℕ) → 6 ≤ place → place + 15 < 40 → field128 one place ≡ field128 other place
  address place behind inside =
      cc (
        word32 place behind (omega arith),
        word32 (place + 4) (omega arith) (omega arith),
        word32 (place + 8) (omega arith) (omega arith),
        word32 (place + 12) (omega arith) (omega arith),
      )

  pub fields-same : (body : List ℕ) → (ipv6_fields one).body ≡ body → ipv6_fields one ≡ record (ipv6_fields other) { body = body }
  fields-same body is_body =
      packet-same _ _ _ _ _ _ _ _ _ _ _ _ (ipv6_fields one).body body first16 first32 (same 7 (omega arith) (λ four. omega arith) (λ five. omega arith))
      (address 8 (omega arith) (omega arith)) (address 24 (omega arith) (omega arith)) (same 6 (omega arith) (λ four. omega arith) (λ five. omega arith)) is_body

-- a packet whose bytes of the link were cut off
pub record IsCutOff (old cut : List ℕ) : Type 0 where
  pub length_same : payload_length_in cut ≡ payload_length_in old
  pub no_padding : length cut ≡ 40 + payload_length_in cut
  pub fields : ipv6_fields cut ≡ ipv6_fields old

part-taken : (bytes : List ℕ) (place n : ℕ) → part (take (place + n) bytes) place n ≡ part bytes place n
part-taken bytes place n = ap (take n) (drop-take place n bytes) ∙ take-take n n (drop place bytes) (omega arith)

pub cut-off : (old cut : List ℕ) (n : ℕ) → HasLength6 old → n ≡ payload_length_in old → cut ≡ take (40 + n) old → IsCutOff old cut
cut-off old cut n has is_n is_cut =
    let seen : (place : ℕ) → place < 40 → field8 cut place ≡ field8 old place =
    λ place inside. ap (λ l. field8 l place) is_cut ∙ get_or-take (40 + n) old place 0 (omega arith) in
    let len : payload_length_in cut ≡ payload_length_in old = cc (seen 4 (omega arith), seen 5 (omega arith)) in
    record {
      length_same = len;
      no_padding = omega (arith, len, ap length is_cut, length-take-le (40 + n) old (omega (arith, has.fits)));
      fields =
          fields-same cut old (λ place inside _ _. seen place inside) (ipv6_fields old).body
          (ap (part cut 40) (len ∙ sym is_n) ∙ ap (λ l. part l 40 n) is_cut ∙ part-taken old 40 n ∙ ap (part old 40) is_n);
    }

-- A packet with another upper part behind its headers, where the payload length is right.
pub has-upper : (old new upper : List ℕ) (arrived : Arrived6) → IsAlone6 old arrived → HaveOneHeader new old
    → drop 40 new ≡ drop 40 (take (40 + arrived.walk.at) old) ++ upper → length new ≡ 40 + payload_length_in new → HasUpper (arrival_of old arrived) upper new
has-upper old new upper arrived alone same is_new no_padding = record {
  no_padding = no_padding;
  packet =
      fields-same new old same (take arrived.walk.at (ipv6_fields old).body ++ upper)
      (body-is new no_padding ∙ is_new ∙ ap (λ l. l ++ upper) (drop-take 40 arrived.walk.at old ∙ ap (take arrived.walk.at) (sym (body-is old alone.no_padding))));
}

-- one that is as long
pub upper-put : (old new upper : List ℕ) (arrived : Arrived6) → IsAlone6 old arrived → length upper ≡ payload_length_in old - arrived.walk.at
    → new ≡ take (40 + arrived.walk.at) old ++ upper → HasUpper (arrival_of old arrived) upper new
upper-put old new upper arrived alone size is_new =
    let front : List ℕ = take (40 + arrived.walk.at) old in
    let long : length front ≡ 40 + arrived.walk.at = length-take-le (40 + arrived.walk.at) old (omega (arith, alone.no_padding, alone.within)) in
    let seen : (place : ℕ) → place < 40 → field8 new place ≡ field8 old place =
    λ place inside. ap (λ l. field8 l place) is_new ∙ get_or_append_left front upper 0 place (omega (arith, long)) ∙ get_or-take (40 + arrived.walk.at) old place 0 (omega arith) in
    let len : payload_length_in new ≡ payload_length_in old = cc (seen 4 (omega arith), seen 5 (omega arith)) in
    has-upper old new upper arrived alone (λ place inside _ _. seen place inside)
    (ap (drop 40) is_new ∙ drop-append-le 40 front upper (omega (arith, long)))
    (omega (arith, len, ap length is_new, length-append front upper, long, size, alone.no_padding, alone.within))
