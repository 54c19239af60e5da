-- The packet that is sent, from the packet behind its new header and its new upper part.
use Rattle.std.proofs.Common.{◌≡◌, ℕ, ◌+◌, ◌*◌, ◌%◌, ◌<◌, ◌≤◌, List, length, take, drop, ◌++◌, Bool, true, false, not, ◌&&◌, ◌||◌, ◌==◌, nat_lt, if◌then◌else◌, Option, Some, None, refl, ap, sym, ◌∙◌, arith, length-append}
use Rattle.std.specs.Prelude.{IfSome, IfNone}
use Rattle.std.proofs.lemmas.Bool.Decides.{nat_tests}
use Rattle.siit_model.specs.Fragments.{Fragment, fragment4, fragment_packet6}
use Rattle.siit_model.specs.Ipv4.{Ipv4Packet, ipv4_fields}
use Rattle.siit_model.specs.Ipv6.{ipv6_bytes}
use Rattle.siit_addr.specs.declared.addr.Addresses6.{Addresses6}
use Rattle.siit_fragments.specs.declared.cut.CutPlan.{CutPlan}
use Rattle.siit_roles.specs.declared.settings.Settings.{Settings}
use Rattle.siit_v4to6.specs.To6.{fragment_part, has_fragment_header, header_to_6, packet6}
use Rattle.siit_v4to6.proofs.Good.{part-length}
use Rattle.siit_v4to6.proofs.Packets.{behind-is, fragment-packet, joined-is}
use Rattle.siit_device.specs.Arrival4.{is_error4, is_misshapen4}
use Rattle.siit_device.specs.Forward.{is_cut6, translated6, upper_forward}
use Rattle.siit_device.proofs.Cuts.{cut6}
use Rattle.siit_arrival4.specs.Arrived.{AreMapped6}
use Rattle.siit_departure6.specs.Departed.{IsSent6}
use Rattle.siit_departure6.specs.Parts.{IsPlanned, head_between, headed6}

-- what stands behind the headers
pub record IsHeaded (packet : Ipv4Packet) (at : ℕ) (bytes : List ℕ) : Type 0 where
  pub least : 40 ≤ at
  pub most : at ≤ 48
  pub behind : drop at bytes ≡ packet.payload
  pub size : length bytes ≡ at + length packet.payload

headers-are : (at : ℕ) (has : Bool) (part : ℕ) → at ≡ (if has then 48 else 40) → part ≡ (if has then 8 else 0) → at ≡ 40 + part
headers-are at true part is_at is_part = omega arith
headers-are at false part is_at is_part = omega arith

headers-most : (at : ℕ) (has : Bool) → at ≡ (if has then 48 else 40) → (40 ≤ at) × (at ≤ 48)
headers-most at true is_at = (omega arith, omega arith)
headers-most at false is_at = (omega arith, omega arith)

module _ (settings : Settings) (new : Addresses6) (cut : Bool) (packet : Ipv4Packet) where
  abbrev headed : Fragment
  headed = let f = fragment4 packet in header_to_6 (head_between settings new f) f

  at-is : (at : ℕ) → at ≡ (if has_fragment_header cut (fragment4 packet) then 48 else 40) → at ≡ 40 + length (fragment_part cut headed)
  at-is at is = headers-are at (has_fragment_header cut headed) (length (fragment_part cut headed)) is (part-length cut headed)

  pub headed-is : (bytes : List ℕ) (at : ℕ) → bytes ≡ ipv6_bytes (headed6 settings new cut packet)
      → at ≡ (if has_fragment_header cut (fragment4 packet) then 48 else 40) → IsHeaded packet at bytes
  headed-is bytes at is is_at =
      let place = at-is at is_at in
      let ends = headers-most at (has_fragment_header cut (fragment4 packet)) is_at in
      record {
        least = ends.0;
        most = ends.1;
        behind = ap (drop at) is ∙ behind-is cut headed at place;
        size = omega (arith, ap length is, length-append (fragment_part cut headed) packet.payload, place);
      }

  -- with the new upper part behind them it is the translated packet
  pub joined : (bytes upper made : List ℕ) (at : ℕ) → bytes ≡ ipv6_bytes (headed6 settings new cut packet)
      → at ≡ (if has_fragment_header cut (fragment4 packet) then 48 else 40)
      → AreMapped6 settings packet.source packet.destination new
      → upper ≡ upper_forward settings (fragment4 packet) → length upper ≡ length packet.payload
      → made ≡ take at bytes ++ upper
      → made ≡ ipv6_bytes (packet6 cut (translated6 settings (fragment4 packet)))
  joined bytes upper made at is is_at mapped is_upper same is_made =
      is_made
      ∙ ap (λ b. take at b ++ upper) is
      ∙ joined-is cut headed upper at (at-is at is_at) same
      ∙ ap (λ u. ipv6_bytes (packet6 cut (record headed { bytes = u }))) is_upper
      ∙ ap (λ a. ipv6_bytes (packet6 cut (record headed { common = record headed.common { source = a }; bytes = upper_forward settings (fragment4 packet) }))) (sym mapped.source_is)
      ∙ ap (λ a. ipv6_bytes (packet6 cut (record headed { common = record headed.common { source = (translated6 settings (fragment4 packet)).common.source; destination = a }; bytes = upper_forward settings (fragment4 packet) }))) (sym mapped.destination_is)

-- it is too long to be sent whole
pub long-enough : (settings : Settings) (packet : Ipv4Packet) → is_cut6 settings packet ≡ true → settings.lowest < 48 + length packet.payload
long-enough settings packet is = grind arith

-- with the headers that are put before each piece
pub cut-headers : (cut : Bool) (packet : Ipv4Packet) (at : ℕ) → cut ≡ true → at ≡ (if has_fragment_header cut (fragment4 packet) then 48 else 40) → at ≡ 48
cut-headers cut packet at is is_at = is_at ∙ ap (λ (b : Bool). if has_fragment_header b (fragment4 packet) then 48 else 40) is

-- an ICMP error isn't cut
pub uncut : (settings : Settings) (packet : Ipv4Packet) → is_error4 packet ≡ true → is_cut6 settings packet ≡ false
uncut settings packet is = rw is (never (packet.df == 0))
  where
    never : (b : Bool) → (b && false) ≡ false
    never true = refl
    never false = refl

-- where a packet ends that isn't misshapen
ends-by : (offset len : ℕ) (more : Bool) → (not ((offset == 0) && not more) && ((len == 0) || (more && not (len % 8 == 0)) || nat_lt 65535 (8 * offset + len))) ≡ false
    → len ≤ 65535 → 8 * offset + len ≤ 65535
ends-by offset len more is short = grind (arith, nat_tests)

pub ends-within : (packet : Ipv4Packet) → is_misshapen4 packet ≡ false → length packet.payload ≤ 65535 → 8 * packet.offset + length packet.payload ≤ 65535
ends-within packet is short = ends-by packet.offset (length packet.payload) (packet.mf == 1) is short

-- the packet that is sent, or that is cut by the plan
pub sent : (settings : Settings) (old new : List ℕ) (plan : Option CutPlan) (cut : Bool) →
    let f = fragment4 (ipv4_fields old) in
    cut ≡ is_cut6 settings (ipv4_fields old)
    → new ≡ ipv6_bytes (packet6 cut (translated6 settings f))
    → 8 * f.offset + length (translated6 settings f).bytes ≤ 65535
    → IfNone plan (cut ≡ false) → IfSome plan (λ p. (cut ≡ true) × IsPlanned (length new) settings.lowest p)
    → IsSent6 settings old plan new
sent settings old new None cut is_cut is_new ends not_so some =
    let f : Fragment = fragment4 (ipv4_fields old) in
    (sym is_cut ∙ not_so, is_new ∙ ap (λ b. ipv6_bytes (packet6 b (translated6 settings f))) not_so)
sent settings old new (Some plan) cut is_cut is_new ends not_so some =
    let f : Fragment = fragment4 (ipv4_fields old) in
    let written : new ≡ ipv6_bytes (fragment_packet6 (translated6 settings f)) =
    is_new ∙ ap (λ b. ipv6_bytes (packet6 b (translated6 settings f))) some.0 ∙ ap ipv6_bytes (fragment-packet true (translated6 settings f) refl) in
    (sym is_cut ∙ some.0, cut6 settings.lowest (length new) plan (translated6 settings f) new written refl some.1.value some.1.planned (omega arith) ends)
