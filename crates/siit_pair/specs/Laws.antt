-- Laws of the pair: what goes through its two devices comes out as itself, but for what their translations change (RFC
-- 7755, RFC 7756, RFC 7915). The first device is the one that is met first, from either end.
use Rattle.std.specs.Prelude.{◌≡◌, ℕ, ◌^◌, ◌<◌, ◌≤◌, List, map, true, false, Option, Some, None, Ok, IsOk}
use Rattle.std.specs.List.{All, flat_map}
use Rattle.siit_model.specs.Bytes.{AreBytes, field8}
use Rattle.siit_model.specs.Fragments.{Datagram, common4, datagram4, whole_of, plain_packet6}
use Rattle.siit_model.specs.Ipv4.{Ipv4Packet, IsGoodIpv4, ipv4_bytes, ipv4_fields, ipv4_of, is_whole4}
use Rattle.siit_model.specs.Ipv6.{ipv6_bytes, ipv6_fields}
use Rattle.siit_addr.specs.declared.addr.Prefix6.{Prefix6}
use Rattle.siit_eamt.specs.declared.entry.Eam.{Eam}
use Rattle.siit_fragments.specs.Covers.{Covers4}
use Rattle.siit_icmp.specs.Icmp.{icmp_to_4, icmp_to_6}
use Rattle.siit_icmp.specs.declared.kinds.NewKind.{NewKind}
use Rattle.siit_map.specs.Mapping.{Mapping, ipv6_for, table}
use Rattle.siit_map.specs.Reversible.{IsDisjointTable, IsReversible}
use Rattle.siit_quoted.specs.Bodies.{carried_to_4, carried_to_6, joined_to_4}
use Rattle.siit_quoted.specs.Quoted.{QuotedIpv4, quoted4_fields}
use Rattle.siit_quoted.specs.Quotes.{written_class}
use Rattle.siit_quoted.specs.Returns.{HasBody4, body_of, come_back}
use Rattle.siit_rules.specs.declared.rule.Family.TheVariants.{Four}
use Rattle.siit_roles.specs.Limits.{IsWithinLimits}
use Rattle.siit_roles.specs.declared.settings.Settings.{Settings}
use Rattle.siit_device.specs.Addresses.{to4, to6}
use Rattle.siit_device.specs.Arrival4.{has_clash4, is_error4, quoted_part4}
use Rattle.siit_device.specs.Arrival6.{Arrived}
use Rattle.siit_device.specs.Forward.{packets_to_6}
use Rattle.siit_device.specs.Rows.{first_of}
use Rattle.siit_device.specs.Rules4.{first_rule4, quote_rows4, upper_rows4}
use Rattle.siit_device.specs.Rules6.{first_rule6, quote_rows6, upper_rows6}
use Rattle.siit_cutting.specs.Laws.{HasAddresses6, Numbered, first_id, given_to_4}
use Rattle.siit_pair.specs.Across.{across, between}
use Rattle.siit_pair.specs.Pairs.{HaveOneTable, is_table}
use Rattle.siit_pair.specs.Same.{is_same_from}

-- ADDRESSES

-- Two devices with one table map alike.
abbrev pub OneTableMapsAlike : Type 0
OneTableMapsAlike = (border edge : Settings) → HaveOneTable border edge → is_table border.mapping ≡ true → is_table edge.mapping ≡ true
    → border.mapping ≡ edge.mapping

-- An IPv4 address that maps back comes back, whichever of two devices that map alike stands first.
abbrev pub AddressesComeBack : Type 0
AddressesComeBack = (first second : Settings) → first.mapping ≡ second.mapping → (a : ℕ) → IsReversible first.mapping a
    → to4 second (to6 first a) ≡ a

-- In a pair whose table has no prefixes that overlap, that is every IPv4 address which its devices map.
abbrev pub DisjointPairsComeBack : Type 0
DisjointPairsComeBack = (first second : Settings) (entries : List Eam) (prefix : Prefix6) → IsDisjointTable entries prefix
    → first.mapping ≡ table entries prefix → second.mapping ≡ table entries prefix
    → (a : ℕ) → a < 2 ^ 32 → IsOk (ipv6_for first.mapping a) → to4 second (to6 first a) ≡ a

-- both addresses of a packet map back
pub record AreReversible (mapping : Mapping) (packet : Ipv4Packet) : Type 0 where
  pub source : IsReversible mapping packet.source
  pub destination : IsReversible mapping packet.destination

-- WHOLE DATAGRAMS

-- the one packet of a datagram between both devices
abbrev pub arriving : Datagram → Arrived
arriving e = record {
  packet = plain_packet6 (whole_of e);
  walked = record { upper = e.common.protocol; at = 0; fragment = None; segments = None };
}

-- an ICMPv6 error that no rule on its upper part or on its quote drops
pub record IsErrorAccepted (second : Settings) (e : Datagram) : Type 0 where
  pub upper : first_of upper_rows6 (arriving e) ≡ None
  pub quote : first_of (quote_rows6 second) (arriving e) ≡ None

-- What no rule of either device forbids of a datagram, in whatever pieces it goes.
pub record GoesAcross (first second : Settings) (d : Ipv4Packet) : Type 0 where
  pub alive : 3 ≤ d.ttl
  pub no_clash : has_clash4 d ≡ false
  pub upper : first_of (upper_rows4 first) d ≡ None
  pub quote : first_of (quote_rows4 first) d ≡ None
  pub error : is_error4 d ≡ true → IsErrorAccepted second (between first d)

-- It comes across as itself, of whatever identification.
abbrev pub DatagramsComeAcross : Type 0
DatagramsComeAcross = (first second : Settings) (d : Ipv4Packet) (id : ℕ) → first.mapping ≡ second.mapping
    → IsGoodIpv4 d → is_whole4 d ≡ true → AreReversible first.mapping d → HasAddresses6 first (datagram4 d).common
    → GoesAcross first second d → is_same_from first second d (across first second d id) ≡ true

-- FRAGMENTS

-- Packets that pass both devices: no rule of the first drops any, and none of the second drops one of those that the
-- first gives, each of which comes with the number that the second is handed for it.
pub record PassesBoth (first second : Settings) (entered : List (List ℕ)) (between : List Numbered) : Type 0 where
  pub bytes : All AreBytes entered
  pub taken : All (λ packet. first_rule4 first packet ≡ None) entered
  pub given : map (λ x. x.0) between ≡ flat_map (packets_to_6 first) (map ipv4_fields entered)
  pub bytes_between : All (λ x. AreBytes (ipv6_bytes x.0)) between
  pub taken_between : All (λ x. first_rule6 second (ipv6_bytes x.0) ≡ None) between

-- The datagram comes out: what the second device gives joins to it, changed in nothing but what is listed. Each packet
-- between is read as it was written.
pub record ComesOut (first second : Settings) (d : Ipv4Packet) (between : List Numbered) (out : List Ipv4Packet) : Type 0 where
  pub is_read : map (λ x. (ipv6_fields (ipv6_bytes x.0), x.1)) between ≡ between
  pub covers : Covers4 (across first second d (first_id out)) out
  pub same : is_same_from first second d (across first second d (first_id out)) ≡ true

abbrev pub FragmentsComeAcross : Type 0
FragmentsComeAcross = (first second : Settings) (d : Ipv4Packet) (entered : List (List ℕ)) (between : List Numbered)
    → first.mapping ≡ second.mapping → IsWithinLimits first → IsWithinLimits second
    → IsGoodIpv4 d → is_whole4 d ≡ true → AreReversible first.mapping d → HasAddresses6 first (datagram4 d).common
    → Covers4 d (map ipv4_fields entered) → PassesBoth first second entered between
    → ComesOut first second d between (flat_map (given_to_4 second) between)

-- Each packet that comes out is read as it is written.
abbrev pub PacketsBehindAreRead : Type 0
PacketsBehindAreRead = (first second : Settings) (d : Ipv4Packet) (entered : List (List ℕ)) (between : List Numbered)
    → first.mapping ≡ second.mapping → IsWithinLimits first → IsWithinLimits second
    → IsGoodIpv4 d → is_whole4 d ≡ true → AreReversible first.mapping d → HasAddresses6 first (datagram4 d).common
    → Covers4 d (map ipv4_fields entered) → PassesBoth first second entered between →
    let out = flat_map (given_to_4 second) between in map ipv4_of (map ipv4_bytes out) ≡ map (λ packet. Some packet) out

-- ICMP ERRORS

-- the packet that an ICMP error quotes
abbrev pub quoted_by : Ipv4Packet → QuotedIpv4
quoted_by d = quoted4_fields (quoted_part4 d.payload)

-- both addresses of the quoted packet map back, and those that the first device gives them have their 128 bits
pub record HasReversibleQuote (first : Settings) (d : Ipv4Packet) : Type 0 where
  pub source : IsReversible first.mapping (quoted_by d).packet.source
  pub destination : IsReversible first.mapping (quoted_by d).packet.destination
  pub addresses : HasAddresses6 first (common4 (quoted_by d).packet)

-- what type and code an ICMP error has between both devices, and behind them
pub record Becomes (d : Ipv4Packet) (new6 new4 : NewKind) : Type 0 where
  pub is_error : is_error4 d ≡ true
  pub kind6 : icmp_to_6 (field8 d.payload 0) (field8 d.payload 1) ≡ Ok new6
  pub kind4 : icmp_to_4 new6.kind new6.code ≡ Ok new4

-- the extension of an ICMP error that the first device carries
abbrev pub carried_between : Ipv4Packet → NewKind → Option (List ℕ)
carried_between d new6 = carried_to_6 new6.kind (body_of Four d.payload).extension

-- The quote comes back with its own addresses: its end may be cut, and zeros may follow it where an extension is
-- carried (RFC 4884).
abbrev pub QuotesComeAcross : Type 0
QuotesComeAcross = (first second : Settings) (d : Ipv4Packet) (id : ℕ) (new6 new4 : NewKind) → first.mapping ≡ second.mapping
    → IsGoodIpv4 d → is_whole4 d ≡ true → Becomes d new6 new4 → HasReversibleQuote first d → GoesAcross first second d →
    let tos = written_class second.tos_zero (written_class first.tos_zero (quoted_by d).packet.tos) in
    let extension = carried_between d new6 in
    HasBody4 (joined_to_4 (carried_to_4 new4.kind extension) (come_back tos extension (quoted_by d))) (across first second d id).payload

-- An extension that the first device carries comes out byte for byte.
abbrev pub ExtensionsComeAcross : Type 0
ExtensionsComeAcross = (first second : Settings) (d : Ipv4Packet) (id : ℕ) (new6 new4 : NewKind) (extension : List ℕ)
    → IsGoodIpv4 d → is_whole4 d ≡ true → Becomes d new6 new4 → GoesAcross first second d
    → carried_between d new6 ≡ Some extension → (body_of Four (across first second d id).payload).extension ≡ Some extension
