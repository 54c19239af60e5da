-- What is known of packets that no rule drops.
use Rattle.std.proofs.Common.{◌≡◌, ℕ, ◌≤◌, List, None, Result, Ok, IsOk, ◌∙◌, ap, sym, subst, refl}
use Rattle.siit_model.specs.Bytes.{AreBytes}
use Rattle.siit_model.specs.Extensions.{Walked, Trouble, walk_of}
use Rattle.siit_model.specs.Fragments.{fragment_by, fragment_if}
use Rattle.siit_model.specs.Ipv4.{Ipv4Packet, ipv4_fields}
use Rattle.siit_model.specs.Ipv6.{Ipv6Packet, ipv6_bytes, ipv6_fields}
use Rattle.siit_views.proofs.Read.{read_is_good4}
use Rattle.siit_roles.specs.declared.settings.Settings.{Settings}
use Rattle.siit_v6to4.specs.To4.{walk_in}
use Rattle.siit_device.specs.Arrival6.{Arrived}
use Rattle.siit_device.specs.Rows.{first_of}
use Rattle.siit_device.specs.Rules4.{address_rows4, bytes_rows4, first_rule4, header_rows4, packet_rule4, quote_rows4, size_rows4, upper_rows4}
use Rattle.siit_device.specs.Rules6.{address_rows6, arrived_rule6, bytes_rows6, first_rule6, header_rows6, packet_rule6, quote_rows6, size_rows6, upper_rows6, walk_rows6, walked_rule6}
use Rattle.siit_device.proofs.Rows.{neither}
use Rattle.siit_arrival4.specs.Unruled.{IsLeft4, RulesLeave4}
use Rattle.siit_arrival6.specs.Unruled.{IsLeft6, IsUnruled6, RulesLeave6}
use Rattle.siit_cutting.specs.Laws.{IsTaken4, IsTaken6, IsWalked, Numbered}

-- TO IPV6

-- the groups of rules of which none holds
pub record NoRule4 (settings : Settings) (packet : Ipv4Packet) : Type 0 where
  pub header : first_of header_rows4 packet ≡ None
  pub upper : first_of (upper_rows4 settings) packet ≡ None
  pub quote : first_of (quote_rows4 settings) packet ≡ None

pub no-rule4 : (settings : Settings) (bytes : List ℕ) → first_rule4 settings bytes ≡ None → NoRule4 settings (ipv4_fields bytes)
unfolding first_rule4 packet_rule4
no-rule4 settings bytes e =
    let packet : Ipv4Packet = ipv4_fields bytes in
    let behind = neither (first_of bytes_rows4 bytes) (packet_rule4 settings packet) e in
    let header = neither (first_of header_rows4 packet) _ behind.1 in
    let upper = neither (first_of (upper_rows4 settings) packet) _ header.1 in
    let address = neither (first_of (address_rows4 settings) packet) _ upper.1 in
    let quote = neither (first_of (quote_rows4 settings) packet) (first_of (size_rows4 settings) packet) address.1 in
    record { header = header.0; upper = upper.0; quote = quote.0 }

pub taken4 : RulesLeave4 → (settings : Settings) (bytes : List ℕ) → AreBytes bytes → first_rule4 settings bytes ≡ None → IsTaken4 (ipv4_fields bytes)
taken4 law settings bytes small none =
    let left : IsLeft4 settings bytes = law settings bytes small none in
    record { good = read_is_good4 bytes (ipv4_fields bytes) small left.is_read; unruled = left.unruled }

-- TO IPV4

pub record NoRule6 (settings : Settings) (arrived : Arrived) : Type 0 where
  pub upper : first_of upper_rows6 arrived ≡ None
  pub quote : first_of (quote_rows6 settings) arrived ≡ None

arrived-by : (settings : Settings) (arrived : Arrived) → arrived_rule6 settings arrived ≡ None → NoRule6 settings arrived
unfolding arrived_rule6
arrived-by settings arrived e =
    let walk = neither (first_of walk_rows6 arrived) _ e in
    let upper = neither (first_of upper_rows6 arrived) _ walk.1 in
    let address = neither (first_of (address_rows6 settings) arrived) _ upper.1 in
    let quote = neither (first_of (quote_rows6 settings) arrived) (first_of (size_rows6 settings) arrived) address.1 in
    record { upper = upper.0; quote = quote.0 }

pub no-rule6 : (settings : Settings) (bytes : List ℕ) (walked : Walked) → walk_in bytes ≡ Ok walked → first_rule6 settings bytes ≡ None
    → NoRule6 settings (record { packet = ipv6_fields bytes; walked = walked })
unfolding first_rule6
no-rule6 settings bytes walked is e =
    let packet : Ipv6Packet = ipv6_fields bytes in
    let behind = neither (first_of bytes_rows6 bytes) (packet_rule6 settings packet) e in
    let header = neither (first_of header_rows6 packet) (walked_rule6 settings packet (walk_in bytes)) behind.1 in
    arrived-by settings (record { packet = packet; walked = walked }) (sym (ap (walked_rule6 settings packet) is) ∙ header.1)

-- a packet that is read as it was written
module _ (law : RulesLeave6) (settings : Settings) (x : Numbered) (is_read : ipv6_fields (ipv6_bytes x.0) ≡ x.0) (small : AreBytes (ipv6_bytes x.0))
    (none : first_rule6 settings (ipv6_bytes x.0) ≡ None) where
  pub left : IsLeft6 settings (ipv6_bytes x.0)
  left = law settings (ipv6_bytes x.0) small none

  pub walk : walk_of x.0.next x.0.body ≡ Ok left.walked
  walk = ap (λ (q : Ipv6Packet). walk_of q.next q.body) (sym is_read) ∙ left.walk

  pub walked : IsWalked x.0
  walked = ok (walk_of x.0.next x.0.body) left.walked walk
    where
      ok : (r : Result Walked Trouble) (w : Walked) → r ≡ Ok w → IsOk r
      ok r w is = rw is refl

  pub taken6 : IsTaken6 x
  taken6 = record {
    fragment = fragment_by x.0 left.walked;
    read = ap (fragment_if x.0) walk;
    unruled = subst (λ q. IsUnruled6 (fragment_by q left.walked)) is_read left.unruled;
  }

  pub alive : 2 ≤ x.0.hop
  alive = subst (λ (q : Ipv6Packet). 2 ≤ q.hop) is_read left.alive

  pub unruled6 : NoRule6 settings (record { packet = x.0; walked = left.walked })
  unruled6 =
      subst (λ (q : Ipv6Packet). NoRule6 settings (record { packet = q; walked = left.walked })) is_read
      (no-rule6 settings (ipv6_bytes x.0) left.walked left.walk none)
